-- `is_plain` meets its contract: the rest of the name decides. Assumes nothing.
use mathlib.Core.Path.{◌≡◌}
use Prim.Native.Nat.{◌≤◌}
use lib.ListN.{drop, length}
use Rattle.lines.specs.Names.{is_plain}
use Rattle.lines.proofs.names.is_plain.Given as goal

abbrev pub invariant-loop-i : goal.invariant-loop-i
invariant-loop-i l = (l.i ≤ l.i-end) × (l.i-end ≡ length l.name) × (is_plain l.name ≡ is_plain (drop l.i l.name))
