-- `add` meets its contract: eight bits for each byte, or more than any session has. Assumes nothing.
use Rattle.echo.proofs.Laws.Sessions.{counted}
use Rattle.echo.proofs.session.Session.add.Goals as goal

pub returns : goal.returns
returns c = counted _ _ _ c.saturating_mul.ensures _ c.add_bits.ensures
