-- `compress_wide_in` meets its contract: load, run, and the two folds. Assumes nothing.
use Rattle.echo.proofs.Laws.Compression.{compressed}
use Rattle.echo.proofs.compression.compress_wide_in.Goals as goal

pub returns : goal.returns
returns c = search compressed
