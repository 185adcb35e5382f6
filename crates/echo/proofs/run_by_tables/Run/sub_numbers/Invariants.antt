-- `Run::sub_numbers` meets its contract, a word a turn. Assumes nothing.
use Rattle.std.proofs.Common.{◌+◌, ◌≤◌}
use Rattle.echo.specs.Numbers.{halves}
use Rattle.echo.specs.Square.{wide_keys_from}
use Rattle.echo.proofs.Laws.ByTables.{Substituted}
use Rattle.echo.proofs.run_by_tables.Run.sub_numbers.Given as goal

abbrev pub invariant-loop-i : goal.invariant-loop-i
invariant-loop-i l =
    (l.i ≤ 16)
    × Substituted l.initial.r l.self.salt (λ k. wide_keys_from (halves l.self.counter.low l.self.counter.high) (l.first + k)) l.i l.r
