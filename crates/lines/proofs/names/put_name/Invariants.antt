-- `put_name` meets its contract: the name so far is put, and one more byte behind it. Assumes nothing.
use mathlib.Core.Path.{◌≡◌}
use Prim.Native.Nat.{◌≤◌}
use lib.ListN.{length, take}
use Rattle.lines.specs.Lines.{Put, spread}
use Rattle.lines.specs.Names.{escape_of}
use Rattle.lines.proofs.names.put_name.Given as goal

abbrev pub invariant-loop-i : goal.invariant-loop-i
invariant-loop-i l = (l.i ≤ l.i-end) × (l.i-end ≡ length l.name) × Put l.initial.room l.at (spread escape_of (take l.i l.name)) l.room l.end
