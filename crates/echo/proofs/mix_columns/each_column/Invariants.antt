-- `each_column` meets its contract, a column a turn. Assumes nothing.
use Rattle.std.proofs.Common.{◌≡◌, ℕ, List}
use Rattle.aes_round.specs.Mixing.{mix_column}
use Rattle.echo.proofs.Laws.Columns.{Columns}
use Rattle.echo.proofs.mix_columns.each_column.Given as goal

abbrev pub invariant-loop-j : goal.invariant-loop-j
invariant-loop-j g l = (m : List ℕ) → ((x y : List ℕ) → goal.F-post g l.step x y → y ≡ mix_column m x) → Columns m l.initial.s l.j l.s
