-- `put_number` meets its contract: std's bytes of a number. Assumes nothing.
use Rattle.std.proofs.Common.{◌∙◌}
use Rattle.echo.proofs.Laws.SquareNumbers.{number_put}
use Rattle.echo.proofs.numbers.put_number.Goals as goal

pub returns : goal.returns
returns c = number_put _ _ _ _ (c.copy_from_slice.ensures.after ∙ c.to_le_bytes.ensures) c.requires
