-- `run_back` meets its contract, a round a turn, the last first. Assumes nothing.
use Rattle.std.proofs.Common.{◌≡◌, ◌≤◌, length}
use Rattle.echo.specs.Numbers.{halves}
use Rattle.echo.specs.Square.{wide_keys_from}
use Rattle.echo.proofs.Laws.Square.{Left}
use Rattle.echo.proofs.run.run_back.Given as goal

abbrev pub invariant-loop-r : goal.invariant-loop-r
invariant-loop-r l =
    (length l.s ≡ 256) × (l.r ≤ l.count) × Left (wide_keys_from (halves l.counter.low l.counter.high)) l.salt l.initial.s l.count l.r l.s
