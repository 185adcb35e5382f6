-- `compress_in` meets its contract: while the counter keeps to its lower half, both counters give the same subkeys. Assumes nothing.
use Rattle.echo.proofs.Laws.UpperHalfZero.{compression_agrees}
use Rattle.echo.proofs.compression.compress_in.Goals as goal

pub returns : goal.returns
returns c = search compression_agrees
