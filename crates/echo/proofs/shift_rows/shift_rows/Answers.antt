-- `shift_rows` meets its contract: how far each row is turned. Assumes nothing.
use Rattle.std.proofs.Common.{refl, rules}
use Rattle.echo.proofs.Laws.Rows.{forth, rows_forth}
use Rattle.echo.proofs.shift_rows.shift_rows.Goals as goal

pub returns : goal.returns
returns c = rows_forth _ _ (search rules) (c.turn_rows.ensures forth refl (λ i n k. search rules))
