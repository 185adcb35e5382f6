-- `turn_rows` meets its contract, a row a turn. Assumes nothing.
use Rattle.std.proofs.Common.{◌≡◌, ℕ, ◌%◌, ◌≤◌, length}
use Rattle.echo.proofs.Laws.Rows.{Rows}
use Rattle.echo.proofs.shift_rows.turn_rows.Given as goal

abbrev pub invariant-loop-i : goal.invariant-loop-i
invariant-loop-i g l =
    (length l.s ≡ 256) × (l.i ≤ 4)
    × ((p : ℕ → ℕ) → p 0 % 4 ≡ 0 → ((i n : ℕ) → goal.F-post g l.places i n → n ≡ p i) → Rows p l.initial.s l.i l.s)
