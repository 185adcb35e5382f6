-- `put` meets its contract: the bytes so far are put, and one more behind them. Assumes nothing.
use mathlib.Core.Path.{◌≡◌}
use Prim.Native.Nat.{◌≤◌}
use lib.ListN.{length, take}
use Rattle.lines.specs.Lines.{Put}
use Rattle.lines.proofs.bytes.put.Given as goal

abbrev pub invariant-loop-i : goal.invariant-loop-i
invariant-loop-i l = (l.i ≤ l.i-end) × (l.i-end ≡ length l.bytes) × Put l.initial.room l.at (take l.i l.bytes) l.room l.end
