-- `fill` meets its contract: the bytes so far are those of the seed. Assumes nothing.
use mathlib.Core.Path.{◌≡◌}
use Prim.Native.Nat.{ℕ, ◌<◌}
use lib.ListN.{get_or}
use Rattle.cases_in.specs.Bytes.{seeded}
use Rattle.cases_in.proofs.bytes.fill.Given as goal

abbrev pub invariant-loop-i : goal.invariant-loop-i
invariant-loop-i l = (k : ℕ) → k < l.i → get_or l.room k 0 ≡ seeded l.seed k
