-- `put_decimal` meets its contract: the digits of what is left stand before those found. Assumes nothing.
use mathlib.Core.Path.{◌≡◌}
use mathlib.Core.List.{◌++◌}
use Prim.Native.Nat.{◌<◌, ◌≤◌, ◌^◌}
use lib.ListN.{drop, length}
use Rattle.lines.specs.Decimal.{decimal_of, significant}
use Rattle.lines.proofs.decimal.put_decimal.Given as goal

abbrev pub invariant-loop-rest : goal.invariant-loop-rest
invariant-loop-rest l =
    (l.from ≤ 19) × (length l.digits ≡ 20) × (l.rest < 10 ^ l.from) × (decimal_of l.number ≡ significant l.from l.rest ++ drop l.from l.digits)

abbrev pub decreases-loop-rest : goal.decreases-loop-rest
decreases-loop-rest l = l.rest
