-- `same` meets its contract: the loop takes the bits together in which the bytes differ. Assumes nothing.
use mathlib.Core.Path.{◌≡◌}
use Prim.Native.Nat.{◌≤◌}
use lib.ListN.{length}
use Rattle.hmac.proofs.Laws.Same.{differing_bits}
use Rattle.hmac.proofs.comparison.same.Given as goal

abbrev pub invariant-loop-i : goal.invariant-loop-i
invariant-loop-i l = (l.i ≤ l.n) × (l.n ≡ length l.a) × (length l.b ≡ l.n) × (l.differing ≡ differing_bits l.a l.b l.i)
