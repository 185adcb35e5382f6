-- `run_by_tables` meets its contract, a round a turn. Assumes nothing.
use Rattle.std.proofs.Common.{◌≤◌}
use Rattle.aes_round.specs.Bytes.{Bytes}
use Rattle.echo.specs.Numbers.{halves}
use Rattle.echo.proofs.Laws.ByTables.{RanBy}
use Rattle.echo.proofs.run_by_tables.run_by_tables.Given as goal

abbrev pub invariant-loop-r : goal.invariant-loop-r
invariant-loop-r l = (l.r ≤ l.count) × Bytes 256 l.s × RanBy (halves l.run.counter.low l.run.counter.high) l.run.salt l.s l.r l.square
