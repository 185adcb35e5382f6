-- `put_numbers` meets its contract, a number a turn. Assumes nothing.
use Rattle.std.proofs.Common.{◌*◌, ◌≤◌}
use Rattle.aes_round.proofs.Promises.{Filled}
use Rattle.echo.proofs.Laws.SquareNumbers.{byte_at}
use Rattle.echo.proofs.numbers.put_numbers.Given as goal

abbrev pub invariant-loop-k : goal.invariant-loop-k
invariant-loop-k l = (l.k ≤ 64) × Filled 256 (byte_at l.x-items) l.initial.s (4 * l.k) l.s
