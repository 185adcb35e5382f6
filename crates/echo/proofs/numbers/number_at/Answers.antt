-- `number_at` meets its contract: the four bytes follow each other. Assumes nothing.
use Rattle.echo.proofs.Laws.SquareNumbers.{number_at}
use Rattle.echo.proofs.numbers.number_at.Goals as goal

pub returns : goal.returns
returns c = number_at _ _ _ c.from_le_bytes.ensures
