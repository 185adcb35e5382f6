-- `add_bits` meets its contract: a refusal, or the bits taken in. Assumes nothing.
use Rattle.echo.proofs.Laws.Sessions.{added, adds, bytes_are, not_added}
use Rattle.echo.proofs.session.Session.add_bits.Goals as goal

pub returns-in-Err : goal.returns-in-Err
returns-in-Err c = rw c.refused.ensures (search (not_added, c.in-Err.ensures))

pub absorb-requires-clause-piece_len : goal.absorb-requires-clause-piece_len
absorb-requires-clause-piece_len c = search (bytes_are, c.in_default.ensures)

pub absorb-requires-clause-count_bound : goal.absorb-requires-clause-count_bound
absorb-requires-clause-count_bound c = search (adds, c.in_default.ensures)

pub returns : goal.returns
returns c = search (added, c.in_default.ensures)
