-- `put_hex` meets its contract: the digits of the bytes so far are put, and two more behind them. Assumes nothing.
use mathlib.Core.Path.{◌≡◌}
use Prim.Native.Nat.{◌≤◌}
use lib.ListN.{length, take}
use Rattle.lines.specs.Hexadecimal.{digits_of}
use Rattle.lines.specs.Lines.{Put, spread}
use Rattle.lines.proofs.hexadecimal.put_hex.Given as goal

abbrev pub invariant-loop-i : goal.invariant-loop-i
invariant-loop-i l = (l.i ≤ l.i-end) × (l.i-end ≡ length l.bytes) × Put l.initial.room l.at (spread digits_of (take l.i l.bytes)) l.room l.end
