-- `count` meets its contract. The loop's invariant: the count of all is that of the records passed and the rest. Assumes nothing.
use Prim.Native.Nat.{◌-◌}
use lib.ListN.{length}
use Rattle.steering.proofs.Laws.Parsing.{Counting}
use Rattle.steering.proofs.counting.count.Given as goal

abbrev pub invariant-loop-next : goal.invariant-loop-next
invariant-loop-next l = Counting l.table l.at l.records

abbrev pub decreases-loop-next : goal.decreases-loop-next
decreases-loop-next l = length l.table - l.at
