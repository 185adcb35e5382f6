-- `sixteen` meets its contract: the part that is copied, byte by byte. Assumes nothing.
use Rattle.echo.proofs.Laws.Placed.{part_bytes}
use Rattle.echo.proofs.lent.sixteen.Goals as goal

pub returns : goal.returns
returns c = part_bytes _ _ _ 16 c.copy_from_slice.ensures.after c.requires
