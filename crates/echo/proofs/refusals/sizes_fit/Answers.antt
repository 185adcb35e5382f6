-- `sizes_fit` meets its contract, a case for each return. Assumes nothing.
use Rattle.echo.proofs.Laws.Families.{fits_shorter}
use Rattle.echo.proofs.refusals.sizes_fit.Goals as goal

pub returns-then-chaining-chaining_size : goal.returns-then-chaining-chaining_size
returns-then-chaining-chaining_size c = search fits_shorter
