-- The field's product: it goes through xor in each factor, its results are bytes, the laws of a field, and what the code's steps compute.
-- Assumes nothing.
use mathlib.Core.Path.{◌≡◌, refl, sym, ap, ap₂, ◌∙◌}
use mathlib.Core.Bool.{Bool, true, false}
use Prim.Native.Nat.{ℕ, zero, suc, ◌+◌, ◌*◌, ◌/◌, ◌%◌, ◌^◌, ◌<◌}
use native.Mathlib.Nat.{mod-lt, zero-mul, one-mul}
use lib.Bits.{bit_xor, bit_and}
use lib.Dec.{eqb, lit<, ltb, ltb→lt}
use Rattle.aes_round.specs.Bytes.{xor}
use Rattle.aes_round.specs.Field.{poly_mul, poly_rem, modulus, mul}
use Rattle.aes_round.proofs.Laws.Every.{Agree, agree, below, every}
use Rattle.aes_round.proofs.Laws.Xor.{xor_assoc, xor_digit, xor_self, xor_shl, xor_shr, xor_swap, xor_zero_r, digit_xor}
use Rattle.aes_round.proofs.Laws.Linear.{Linear, at_zero, bilin_ext, lin_after, lin_ext, lin_lt, lin_sum}

poly_mul-xor : (n p : ℕ) → Linear (poly_mul n p)
poly_mul-xor zero p x y = sym (xor_self 0)
poly_mul-xor (suc n) p x y =
    ap₂ xor (xor_digit (p % 2) x y (mod-lt p (lit< tt))) (ap (poly_mul n (p / 2)) (xor_shl x y 1) ∙ poly_mul-xor n (p / 2) (x * 2) (y * 2))
    ∙ xor_swap _ _ _ _

poly_mul-xor_l : (n x : ℕ) → Linear (λ p. poly_mul n p x)
poly_mul-xor_l zero x p q = sym (xor_self 0)
poly_mul-xor_l (suc n) x p q =
    ap₂ xor (digit_xor p q x) (ap (λ (t : ℕ). poly_mul n t (x * 2)) (xor_shr p q 1) ∙ poly_mul-xor_l n (x * 2) (p / 2) (q / 2)) ∙ xor_swap _ _ _ _

poly_rem-xor : (n : ℕ) → Linear (poly_rem n)
poly_rem-xor zero x y = refl
poly_rem-xor (suc n) x y =
    ap (λ (z : ℕ). poly_rem n (xor z (xor x y))) (ap (λ (t : ℕ). t % 2 * (modulus * 2 ^ n)) (xor_shr x y (8 + n)) ∙ digit_xor _ _ _)
    ∙ ap (poly_rem n) (xor_swap _ _ _ _) ∙ poly_rem-xor n _ _

pub mul_xor : (p : ℕ) → Linear (mul p)
unfolding mul
mul_xor p x y = ap (poly_rem 7) (poly_mul-xor 8 p x y) ∙ poly_rem-xor 7 _ _

pub mul_xor_l : (x : ℕ) → Linear (λ p. mul p x)
unfolding mul
mul_xor_l x p q = ap (poly_rem 7) (poly_mul-xor_l 8 x p q) ∙ poly_rem-xor 7 _ _

pub mul_zero_l : (x : ℕ) → mul 0 x ≡ 0
mul_zero_l x = at_zero (λ p. mul p x) (mul_xor_l x)

pub mul_lt : (p x : ℕ) → p < 256 → x < 256 → mul p x < 256
unfolding mul xor
mul_lt p x hp hx =
    lin_lt (mul p) (mul_xor p) 8
    (λ i li.
    lin_lt (λ q. mul q (2 ^ i)) (mul_xor_l (2 ^ i)) 8
    (λ j lj. ltb→lt _ _ (below (λ j. ltb (mul (2 ^ j) (2 ^ i)) 256) 8 (below (λ i. every (λ j. ltb (mul (2 ^ j) (2 ^ i)) 256) 8) 8 tt i li) j lj)) p hp) x hx

-- ---- the laws of a field

pub mul_one_l : (x : ℕ) → x < 256 → mul 1 x ≡ x
unfolding mul xor
mul_one_l = lin_ext (mul 1) (λ x. x) (mul_xor 1) (λ x y. refl) 8 (agree (λ i. mul 1 (2 ^ i)) (λ i. 2 ^ i) 8 tt)

pub mul_comm : (p q : ℕ) → p < 256 → q < 256 → mul p q ≡ mul q p
unfolding mul xor
mul_comm = bilin_ext mul (λ p q. mul q p) mul_xor (λ p. mul_xor_l p) mul_xor_l (λ q. mul_xor q) tt

pub mul_assoc : (p q r : ℕ) → p < 256 → q < 256 → r < 256 → mul (mul p q) r ≡ mul p (mul q r)
unfolding mul xor
mul_assoc p q r hp hq hr =
    lin_ext (λ r. mul (mul p q) r) (λ r. mul p (mul q r)) (mul_xor (mul p q)) (lin_after (mul p) (mul q) (mul_xor p) (mul_xor q)) 8
    (λ k lk.
    let R = 2 ^ k in
    bilin_ext (λ p q. mul (mul p q) R) (λ p q. mul p (mul q R))
    (λ p. lin_after (λ x. mul x R) (mul p) (mul_xor_l R) (mul_xor p))
    (λ p. lin_after (mul p) (λ q. mul q R) (mul_xor p) (mul_xor_l R))
    (λ q. lin_after (λ x. mul x R) (λ p. mul p q) (mul_xor_l R) (mul_xor_l q))
    (λ q. mul_xor_l (mul q R))
    (below (λ k. every (λ j. Agree (λ i. mul (mul (2 ^ j) (2 ^ i)) (2 ^ k)) (λ i. mul (2 ^ j) (mul (2 ^ i) (2 ^ k))) 8) 8) 8 tt k lk) p q hp hq) r hr

-- three times a byte is twice the byte and the byte
pub mul_three : (b : ℕ) → b < 256 → xor (mul 2 b) b ≡ mul 3 b
unfolding xor
mul_three b h = ap (xor (mul 2 b)) (sym (mul_one_l b h)) ∙ sym (mul_xor_l b 2 1)

-- ---- doubling, by shift and xor

abbrev pick : Bool → ℕ → ℕ → ℕ
pick true a b = a
pick false a b = b

pub double_is : (b : ℕ) → b < 256 → pick (eqb (bit_and b 128) 0) (b * 2 % 256) (bit_xor (b * 2 % 256) 0x1b) ≡ mul 2 b
unfolding mul xor
double_is = agree (λ b. pick (eqb (bit_and b 128) 0) (b * 2 % 256) (bit_xor (b * 2 % 256) 0x1b)) (mul 2) 256 tt

-- ---- a product, one digit of the first factor at a time

stepped : ℕ → ℕ → ℕ
stepped p x = xor (p % 2 * x) (mul (p / 2) (mul 2 x))

mul_step : (p x : ℕ) → p < 256 → x < 256 → mul p x ≡ stepped p x
unfolding mul xor stepped
mul_step =
    bilin_ext mul stepped mul_xor
    (λ p. lin_sum (λ x. p % 2 * x) (λ x. mul (p / 2) (mul 2 x)) (λ x y. xor_digit (p % 2) x y (mod-lt p (lit< tt)))
    (lin_after (mul (p / 2)) (mul 2) (mul_xor (p / 2)) (mul_xor 2)))
    mul_xor_l
    (λ x. lin_sum (λ p. p % 2 * x) (λ p. mul (p / 2) (mul 2 x)) (λ p q. digit_xor p q x)
    (lin_after (λ p. mul p (mul 2 x)) (λ p. p / 2) (mul_xor_l (mul 2 x)) (λ p q. xor_shr p q 1)))
    tt

-- one turn of the loop over the digits of p, the lowest of which is d: s is the sum so far
turn : (s p x t d : ℕ) → p < 256 → x < 256 → p % 2 ≡ d → xor s (mul p x) ≡ t → xor (xor s (d * x)) (mul (p / 2) (mul 2 x)) ≡ t
unfolding stepped
turn s p x t d hp hx e h =
    xor_assoc _ _ _ ∙ ap (λ (k : ℕ). xor s (xor (k * x) (mul (p / 2) (mul 2 x)))) (sym e) ∙ ap (xor s) (sym (mul_step p x hp hx)) ∙ h

pub turn_1 : (s p x t : ℕ) → (p < 256) × (x < 256) × (xor s (mul p x) ≡ t) → p % 2 ≡ 1 → xor (xor s x) (mul (p / 2) (mul 2 x)) ≡ t
turn_1 s p x t left e = rw one-mul at (turn s p x t 1 left.0 left.1 e left.2)

pub turn_0 : (s p x t : ℕ) → (p < 256) × (x < 256) × (xor s (mul p x) ≡ t) → p % 2 ≡ 0 → xor s (mul (p / 2) (mul 2 x)) ≡ t
turn_0 s p x t left e = rw (zero-mul, xor_zero_r) at (turn s p x t 0 left.0 left.1 e left.2)

-- and no digit left
pub no_turn : (s p x t : ℕ) → (p < 256) × (x < 256) × (xor s (mul p x) ≡ t) → p ≡ 0 → s ≡ t
no_turn s p x t left z = sym (xor_zero_r s) ∙ ap (xor s) (sym (ap (λ (k : ℕ). mul k x) z ∙ mul_zero_l x)) ∙ left.2
