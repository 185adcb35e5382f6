-- `bytes_in` meets its contract: the bytes so far go on over the pairs to come, and zeros stand behind them. Assumes nothing.
use Rattle.std.proofs.Common.{◌≡◌, ◌*◌, [], drop, length, replicate, take}
use Rattle.digits.specs.Hexadecimal.{bytes_from}
use Rattle.digits.proofs.hexadecimal.bytes_in.Given as goal

abbrev pub invariant-loop-i : goal.invariant-loop-i
invariant-loop-i g l =
    (length l.bytes ≡ g.row.N)
    × (drop l.i l.bytes ≡ drop l.i (replicate g.row.N 0))
    × (bytes_from [] l.text ≡ bytes_from (take l.i l.bytes) (drop (2 * l.i) l.text))
