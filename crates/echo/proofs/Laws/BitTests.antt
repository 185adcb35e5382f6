-- What the code computes of bits: whether they are zero from a place on, and the byte with the marking bit. Assumes nothing.
use Rattle.std.proofs.Common.{◌≡◌, ℕ, suc, ◌+◌, ◌-◌, ◌*◌, ◌/◌, ◌%◌, ◌^◌, ◌<◌, ◌≤◌, Bool, true, false, not, ◌&&◌, T, eqb, ltb, List, length, get_or, drop, sym, refl, ap, ◌∙◌, subst, add-one, arith, ltb→lt, drop_of_length-le}
use Rattle.aes_round.proofs.Promises.{agree, below, every}
use Rattle.echo.specs.Bits.{bits_of, byte_bits}
use Rattle.echo.specs.Families.{either}
use Rattle.echo.specs.Session.{all_zero}
use Rattle.echo.proofs.Laws.Bits.{length-bits, zero_within}

-- ---- one byte, of which the first bits are in use: a test of every byte

abbrev same : Bool → Bool → Bool
same true b = b
same false b = not b

same_is : (a b : Bool) → T (same a b) → a ≡ b
same_is true true t = refl
same_is true false t = absurd t
same_is false true t = absurd t
same_is false false t = refl

pub clear_is : (x used : ℕ) → used < 8 → x < 256 → eqb (x * 2 ^ used % 256) 0 ≡ all_zero (drop used (byte_bits x))
unfolding all_zero byte_bits
clear_is x used few small =
    same_is _ _
    (below (λ x. same (eqb (x * 2 ^ used % 256) 0) (all_zero (drop used (byte_bits x)))) 256
    (below (λ u. every (λ x. same (eqb (x * 2 ^ u % 256) 0) (all_zero (drop u (byte_bits x)))) 256) 8 tt used few) x small)

pub mark_fits : (x used : ℕ) → used < 8 → x < 256 → all_zero (drop used (byte_bits x)) ≡ true → x + 128 / 2 ^ used < 2 ^ 8
unfolding all_zero byte_bits
mark_fits x used few small clear =
    let t =
    below (λ x. either (all_zero (drop used (byte_bits x))) (ltb (x + 128 / 2 ^ used) 256) true) 256
    (below (λ u. every (λ x. either (all_zero (drop u (byte_bits x))) (ltb (x + 128 / 2 ^ u) 256) true) 256) 8 tt used few) x small in
    ltb→lt (x + 128 / 2 ^ used) 256 (subst (λ (b : Bool). T (either b (ltb (x + 128 / 2 ^ used) 256) true)) clear t)

pub mark_is : (x used : ℕ) → used < 8 → x + 128 / 2 ^ used ≡ x + 2 ^ (7 - used)
mark_is x used few = ap (λ (y : ℕ). x + y) (agree (λ u. 128 / 2 ^ u) (λ u. 2 ^ (7 - u)) 8 tt used few)

-- ---- all bits from a place on, by the tests t and r that the code made

module _ (bytes : List ℕ) (at : ℕ) where
  pub zero_past : length bytes ≤ at / 8 → true ≡ all_zero (drop at (bits_of bytes))
  unfolding all_zero
  zero_past h =
      let past : length (bits_of bytes) ≤ at = omega (arith, length-bits bytes) in
      sym (ap all_zero (drop_of_length-le (bits_of bytes) past))

  module _ (inside : at / 8 < length bytes) (x : ℕ) (here : x ≡ get_or bytes (at / 8) 0) (t : Bool) (e : t ≡ all_zero (drop (at % 8) (byte_bits x))) where
    split : all_zero (drop at (bits_of bytes)) ≡ (t && all_zero (drop (suc (at / 8)) bytes))
    split =
        let n : at ≡ 8 * (at / 8) + at % 8 = omega arith in
        ap (λ (k : ℕ). all_zero (drop k (bits_of bytes))) n
        ∙ zero_within bytes (at / 8) (at % 8) inside (omega arith)
        ∙ ap (λ (b : Bool). b && all_zero (drop (suc (at / 8)) bytes)) (sym (e ∙ ap (λ (y : ℕ). all_zero (drop (at % 8) (byte_bits y))) here))

    pub zero_not : t ≡ false → t ≡ all_zero (drop at (bits_of bytes))
    zero_not fails = fails ∙ sym (split ∙ ap (λ (b : Bool). b && all_zero (drop (suc (at / 8)) bytes)) fails)

    pub zero_rest : t ≡ true → (r : Bool) → r ≡ all_zero (drop (at / 8 + 1) bytes) → r ≡ all_zero (drop at (bits_of bytes))
    zero_rest holds r z =
        z
        ∙ ap (λ (k : ℕ). all_zero (drop k bytes)) (add-one (at / 8))
        ∙ sym (split ∙ ap (λ (b : Bool). b && all_zero (drop (suc (at / 8)) bytes)) holds)
