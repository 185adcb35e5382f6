-- `shift_and_mix` meets its contract: a turn of the inner loop stores four numbers. Assumes nothing.
use Rattle.std.proofs.Common.{◌+◌, ◌*◌, ◌<◌, ◌≤◌}
use Rattle.echo.proofs.Laws.MixedNumbers.{Stored}
use Rattle.echo.proofs.Laws.ShiftedNumbers.{shifted}
use Rattle.echo.proofs.run_by_tables.shift_and_mix.Given as goal

abbrev pub invariant-loop-c : goal.invariant-loop-c
invariant-loop-c l = (l.j < 4) × (l.c ≤ 4) × Stored (shifted l.s) (16 * l.j + 4 * l.c) l.r

abbrev pub invariant-loop-j : goal.invariant-loop-j
invariant-loop-j l = (l.j ≤ 4) × Stored (shifted l.s) (16 * l.j) l.r
