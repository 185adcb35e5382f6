-- `shift_rows_back` meets its contract: how far each row is turned. Assumes nothing.
use Rattle.std.proofs.Common.{refl, rules}
use Rattle.echo.proofs.Laws.Rows.{back, rows_back}
use Rattle.echo.proofs.shift_rows.shift_rows_back.Goals as goal

pub returns : goal.returns
returns c = rows_back _ _ (search rules) (c.turn_rows.ensures back refl (λ i n k. search rules))
