-- Two lists compared: by their elements, and by the bits in which their bytes differ, taken together. Assumes nothing.
use mathlib.Core.Path.{◌≡◌, refl, sym, ap, ap₂, ◌∙◌}
use mathlib.Core.Bool.{Bool, true, false, true≢false}
use mathlib.Core.Logic.{◌↔◌}
use mathlib.Core.List.{List, [], ◌∷◌}
use Prim.Native.Nat.{ℕ, zero, suc, ◌+◌, ◌<◌, ◌≤◌}
use native.Mathlib.Numerals.{add-one}
use native.Mathlib.Omega.{arith}
use borrow.Author.Count.{below_more}
use borrow.Author.Tests.{eq-eqb, eqb-true}
use lib.Bits.{and_le_l, and_le_r, bit_or, bit_xor, or_add_and}
use lib.Dec.{eqb}
use lib.ListN.{get_or, length}
use lib.Seq.{ext_get_or}
use Rattle.aes_round.proofs.Promises.{code_xor, xor_self, xor_twice, xor_zero_l}
use Rattle.aes_round.specs.Bytes.{xor}
use Rattle.echo.proofs.Promises.{both}
use Rattle.hmac.specs.Same.{same}

-- ---- the same exactly where equal

pub same_self : (a : List ℕ) → same a a ≡ true
unfolding same
same_self [] = refl
same_self (x ∷ xs) = rw (eq-eqb x x refl) (same_self xs)

pub same_equal : (a b : List ℕ) → same a b ≡ true → a ≡ b
unfolding same
same_equal [] [] e = refl
same_equal [] (y ∷ ys) e = absurd (true≢false (sym e))
same_equal (x ∷ xs) [] e = absurd (true≢false (sym e))
same_equal (x ∷ xs) (y ∷ ys) e =
    let p = both (eqb x y) (same xs ys) e in ap₂ (λ (z : ℕ) (l : List ℕ). z ∷ l) (eqb-true x y p.0) (same_equal xs ys p.1)

pub same_exactly : (a b : List ℕ) → (same a b ≡ true) ↔ (a ≡ b)
same_exactly a b = (same_equal a b, λ e. ap (same a) (sym e) ∙ same_self a)

pub not_same : (a b : List ℕ) → (a ≡ b → ⊥) → false ≡ same a b
not_same a b n = by (same a b) refl
  where
    by : (t : Bool) → same a b ≡ t → false ≡ same a b
    by true e = absurd (n (same_equal a b e))
    by false e = sym e

pub other_length : (a b : List ℕ) → (length b ≡ length a → ⊥) → false ≡ same a b
other_length a b n = not_same a b (λ e. n (ap length (sym e)))

-- ---- the loop: all bits in which the first i bytes differ

unfoldable pub differing_bits : List ℕ → List ℕ → ℕ → ℕ
differing_bits a b zero = 0
differing_bits a b (suc i) = bit_or (differing_bits a b i) (bit_xor (get_or a i 0) (get_or b i 0))

module _ (a b : List ℕ) where
  pub no_bits : 0 ≡ differing_bits a b 0
  unfolding differing_bits
  no_bits = refl

  pub more_bits : (i d : ℕ) → d ≡ differing_bits a b i → bit_or d (bit_xor (get_or a i 0) (get_or b i 0)) ≡ differing_bits a b (i + 1)
  unfolding differing_bits
  more_bits i d e = rw (add-one, e)

  -- bytes that differ in no bit are equal
  equal_bytes : (x y : ℕ) → bit_xor x y ≡ 0 → x ≡ y
  equal_bytes x y e = sym (xor_twice x y) ∙ ap (λ (z : ℕ). xor z y) (sym (code_xor x y) ∙ e) ∙ xor_zero_l y

  all_equal : (i : ℕ) → differing_bits a b i ≡ 0 → (k : ℕ) → k < i → get_or a k 0 ≡ get_or b k 0
  unfolding differing_bits
  all_equal zero e k h = absurd (omega arith)
  all_equal (suc i) e k h =
      let d = differing_bits a b i in
      let x = bit_xor (get_or a i 0) (get_or b i 0) in
      below_more (λ k. get_or a k 0 ≡ get_or b k 0) i
      (all_equal i (omega (arith, or_add_and d x, and_le_r d x)))
      (equal_bytes (get_or a i 0) (get_or b i 0) (omega (arith, or_add_and d x, and_le_l d x)))
      k (omega arith)

  none_differ : a ≡ b → (i : ℕ) → differing_bits a b i ≡ 0
  unfolding differing_bits
  none_differ e zero = refl
  none_differ e (suc i) =
      ap₂ bit_or (none_differ e i)
      (ap (λ (l : List ℕ). bit_xor (get_or a i 0) (get_or l i 0)) (sym e) ∙ code_xor (get_or a i 0) (get_or a i 0) ∙ xor_self (get_or a i 0))

  pub same_by_bits : (d i n : ℕ) → d ≡ differing_bits a b i → n ≡ length a → length b ≡ n → i ≤ n → n ≤ i → eqb d 0 ≡ same a b
  same_by_bits d i n e la lb most least = by (eqb d 0) refl
    where
      by : (t : Bool) → eqb d 0 ≡ t → eqb d 0 ≡ same a b
      by true z =
          let equal : a ≡ b =
          ext_get_or 0 a b (omega arith) (λ k h. all_equal i (sym e ∙ eqb-true d 0 z) k (omega arith)) in
          z ∙ sym ((same_exactly a b).1 equal)
      by false z = z ∙ not_same a b (λ q. absurd (true≢false (sym (eq-eqb d 0 (e ∙ none_differ q i)) ∙ z)))
