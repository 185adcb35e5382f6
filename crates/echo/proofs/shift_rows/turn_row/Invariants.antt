-- `turn_row` meets its contract, a place a turn. Assumes nothing.
use Rattle.std.proofs.Common.{◌≡◌, ◌≤◌, length}
use Rattle.echo.proofs.Laws.Rows.{Turned}
use Rattle.echo.proofs.shift_rows.turn_row.Given as goal

abbrev pub invariant-loop-n : goal.invariant-loop-n
invariant-loop-n l = (length l.s ≡ 256) × (l.n ≤ l.places) × Turned l.i l.n l.initial.s l.s
