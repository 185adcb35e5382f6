-- `turn_once` meets its contract: three words move up, and the one that was kept aside becomes the last. Assumes nothing.
use Rattle.std.proofs.Common.{◌≡◌, ◌+◌, ◌*◌, ◌≤◌, length, get_or}
use Rattle.aes_round.specs.Bytes.{tab}
use Rattle.echo.proofs.Laws.Rows.{Up}
use Rattle.echo.proofs.shift_rows.turn_once.Given as goal

abbrev pub invariant-loop-j : goal.invariant-loop-j
invariant-loop-j l = (length l.s ≡ 256) × (l.j ≤ 3) × (l.spare ≡ tab 16 (λ k. get_or l.initial.s (16 * l.i + k) 0)) × Up l.i l.initial.s l.j l.s
