-- `count` meets its contract: a record more. What else is to show is found by the laws that the function names. Assumes nothing.
use Rattle.steering.proofs.Laws.Parsing.{count_next}
use Rattle.steering.proofs.counting.count.Goals as goal

pub loop-next-preserved : goal.loop-next-preserved
loop-next-preserved c = let e = rw c.in-Ok-Some.field-0-is at c.in-Ok-Some.ensures.reading in search (count_next, e)
