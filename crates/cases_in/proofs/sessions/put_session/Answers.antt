-- `put_session` meets its contract: the other parts stand behind the mode. Assumes nothing.
use Rattle.cases_in.proofs.Laws.{two_puts}
use Rattle.cases_in.proofs.sessions.put_session.Goals as goal

pub returns-then-all : goal.returns-then-all
returns-then-all g c =
    rw (c.if-all.true, ← c.number_of.ensures) (two_puts g.row.N _ _ _ _ _ c.put_number.ensures c.put_parts.ensures)
