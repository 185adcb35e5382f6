-- `times` meets its contract. The loop's invariant: the sum so far and the product that is left make the product asked for.
-- The measure is p, which is halved. Assumes nothing.
use mathlib.Core.Logic.{⊎_elim}
use mathlib.Core.Path.{◌∙◌, ◌≡◌, sym}
use Prim.Native.Nat.{◌%◌, ℕ}
use native.Mathlib.Nat.{eq-or-lt_of_le, le_of_suc-le-suc, mod-lt}
use native.Mathlib.Omega.{arith}
use lib.Dec.{lit<}
use lib.Bits.{and_mask, bit_and}
use borrow.Author.Rules.{rules}
use Rattle.aes_round.specs.Bytes.{xor}
use Rattle.aes_round.proofs.Laws.Field.{no_turn, turn_0, turn_1}
use Rattle.aes_round.proofs.Laws.Xor.{xor_zero_l}
use Rattle.aes_round.proofs.field.times.Goals as goal
use Rattle.aes_round.proofs.field.times.Goals.{else-p-eq1, then-p-eq1}

even : (n : ℕ) → (n % 2 ≡ 1 → ⊥) → n % 2 ≡ 0
even n h = ⊎_elim (λ e. absurd (h e)) (λ l. omega arith) (eq-or-lt_of_le (le_of_suc-le-suc (mod-lt n (lit< tt))))

pub loop-p-init : goal.loop-p-init
loop-p-init c = (search rules, search rules, xor_zero_l _)

pub loop-p-preserved : goal.loop-p-preserved
unfolding xor
loop-p-preserved c =
    let L = c.loop-p in
    let odd : bit_and L.p 1 ≡ L.p % 2 = and_mask L.p 1 in (
      search rules,
      search rules,
      elim c.if-p-eq1.branch [
        | then-p-eq1 w ↦ cc (turn_1 L.sum L.p L.q _ L.invariant (sym odd ∙ w.if-p-eq1.true))
        | else-p-eq1 w ↦ cc (turn_0 L.sum L.p L.q _ L.invariant (even L.p (λ e. w.if-p-eq1.false (odd ∙ e))))
      ],
    )

pub returns : goal.returns
returns c = no_turn _ _ _ _ c.loop-p.invariant (omega arith)
