-- `times` meets its contract. The loop's invariant: the sum so far and the product that is left make the product asked for.
-- The measure is p, which is halved. Assumes nothing.
use mathlib.Core.Path.{◌≡◌}
use Prim.Native.Nat.{◌<◌}
use Rattle.aes_round.specs.Bytes.{xor}
use Rattle.aes_round.specs.Field.{mul}
use Rattle.aes_round.proofs.field.times.Given as goal

abbrev pub invariant-loop-p : goal.invariant-loop-p
invariant-loop-p l = (l.p < 256) × (l.q < 256) × (xor l.sum (mul l.p l.q) ≡ mul l.c l.b)

abbrev pub decreases-loop-p : goal.decreases-loop-p
decreases-loop-p l = l.p
