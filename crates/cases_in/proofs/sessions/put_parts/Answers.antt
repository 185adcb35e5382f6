-- `put_parts` meets its contract: its five parts stand one behind the other. Assumes nothing.
use Rattle.cases_in.proofs.Laws.{five_puts}
use Rattle.cases_in.proofs.sessions.put_parts.Goals as goal

pub returns : goal.returns
returns g c =
    five_puts g.row.N _ _ _ _ _ _ _ _ _ _ _ c.put_number.ensures c.put_number-2.ensures c.put_bytes.ensures c.put_bytes-2.ensures c.put_bytes-3.ensures
