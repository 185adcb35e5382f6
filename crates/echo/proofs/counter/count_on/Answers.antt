-- `count_on` meets its contract: a lower half that went over carries one into the upper. Assumes nothing.
use Rattle.std.proofs.Common.{rules}
use Rattle.echo.proofs.Laws.Counter.{counted_over, counted_within}
use Rattle.echo.proofs.counter.count_on.Goals as goal

pub returns-then-low-words : goal.returns-then-low-words
returns-then-low-words c = search (counted_over, rules)

pub returns : goal.returns
returns c = search (counted_within, rules)
