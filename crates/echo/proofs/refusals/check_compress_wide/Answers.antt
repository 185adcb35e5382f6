-- `check_compress_wide` meets its contract, a case for each return. Assumes nothing.
use Rattle.echo.proofs.Laws.Refusals.{compress_0, compress_2, compress_6}
use Rattle.echo.proofs.refusals.check_compress_wide.Goals as goal

pub returns-then-salt-ne16 : goal.returns-then-salt-ne16
returns-then-salt-ne16 c = search compress_2

pub returns-then-not-sizes_fit : goal.returns-then-not-sizes_fit
returns-then-not-sizes_fit c = search compress_6

pub returns : goal.returns
returns c = search compress_0
