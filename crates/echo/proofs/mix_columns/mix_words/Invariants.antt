-- `mix_words` meets its contract, a byte position a turn. Assumes nothing.
use Rattle.std.proofs.Common.{◌≡◌, ℕ, List}
use Rattle.aes_round.specs.Mixing.{mix_column}
use Rattle.echo.proofs.Laws.Columns.{Mixed}
use Rattle.echo.proofs.mix_columns.mix_words.Given as goal

abbrev pub invariant-loop-b : goal.invariant-loop-b
invariant-loop-b g l = (m : List ℕ) → ((x y : List ℕ) → goal.F-post g l.step x y → y ≡ mix_column m x) → Mixed m l.initial.c l.b l.c
