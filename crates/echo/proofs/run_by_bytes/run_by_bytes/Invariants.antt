-- `run_by_bytes` meets its contract, a round a turn. Assumes nothing.
use Rattle.std.proofs.Common.{◌≡◌, ◌≤◌, length}
use Rattle.echo.specs.Numbers.{halves}
use Rattle.echo.specs.Square.{wide_keys_from}
use Rattle.echo.proofs.Laws.Square.{Ran}
use Rattle.echo.proofs.run_by_bytes.run_by_bytes.Given as goal

abbrev pub invariant-loop-r : goal.invariant-loop-r
invariant-loop-r l = (length l.s ≡ 256) × (l.r ≤ l.count) × Ran (wide_keys_from (halves l.counter.low l.counter.high)) l.salt l.initial.s l.r l.s
