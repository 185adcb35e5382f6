-- `table_in` meets its contract: the text is what the line so far, the records before it and the bytes to come make of it. Assumes nothing.
use mathlib.Core.Path.{◌≡◌}
use Prim.Native.Nat.{◌-◌, ◌≤◌}
use lib.ListN.{drop, length, take}
use Rattle.write_table.specs.Text.{text_from, text_of}
use Rattle.write_table.proofs.text.table_in.Given as goal

abbrev pub invariant-loop-i : goal.invariant-loop-i
invariant-loop-i l = (l.from ≤ l.i)
    × (l.count ≤ l.from)
    × (l.size ≤ 4096)
    × (length l.room ≡ 4096)
    × (text_of l.goes_on l.text ≡ text_from l.goes_on (take (l.i - l.from) (drop l.from l.text)) l.count (take l.size l.room) (drop l.i l.text))
