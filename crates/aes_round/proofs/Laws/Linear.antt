-- Functions that go through xor, and what is known of one by its values at 1, 2, 4, .. Assumes nothing.
use mathlib.Core.Path.{◌≡◌, sym, ap, ap₂, ◌∙◌, subst}
use Prim.Native.Nat.{ℕ, zero, suc, ◌*◌, ◌/◌, ◌%◌, ◌^◌, ◌<◌}
use native.Mathlib.Nat.{mod-lt, zero-mul, one-mul, div-lt_iff_lt-mul, pow-suc, mul_comm, le_refl}
use native.Mathlib.Omega.{arith}
use lib.Arith.{lt-one}
use lib.Pow.{pow_pos}
use lib.Dec.{T, lit<}
use Rattle.aes_round.specs.Bytes.{xor}
use Rattle.aes_round.proofs.Laws.Every.{Agree, agree, every, below}
use Rattle.aes_round.proofs.Laws.Xor.{xor_lt, xor_self, xor_swap, xor_top}

abbrev pub Linear : (ℕ → ℕ) → Type 0
Linear f = (x y : ℕ) → f (xor x y) ≡ xor (f x) (f y)

pub at_zero : (f : ℕ → ℕ) → Linear f → f 0 ≡ 0
at_zero f l = ap f (sym (xor_self 0)) ∙ l 0 0 ∙ xor_self (f 0)

pub lin_sum : (f g : ℕ → ℕ) → Linear f → Linear g → Linear (λ x. xor (f x) (g x))
lin_sum f g hf hg x y = ap₂ xor (hf x y) (hg x y) ∙ xor_swap _ _ _ _

pub lin_after : (f g : ℕ → ℕ) → Linear f → Linear g → Linear (λ x. f (g x))
lin_after f g hf hg x y = ap f (hg x y) ∙ hf (g x) (g y)

module _ (f g : ℕ → ℕ) (hf : Linear f) (hg : Linear g) where
  one_digit : (d m : ℕ) → d < 2 → f m ≡ g m → f (d * m) ≡ g (d * m)
  one_digit zero m h e = ap f (zero-mul m) ∙ at_zero f hf ∙ sym (ap g (zero-mul m) ∙ at_zero g hg)
  one_digit (suc zero) m h e = ap f (one-mul m) ∙ e ∙ sym (ap g (one-mul m))
  one_digit (suc (suc d)) m h e = absurd (omega arith)

  -- two that agree at the powers of 2 below 2 ^ n agree below 2 ^ n
  pub lin_ext : (n : ℕ) → ((i : ℕ) → i < n → f (2 ^ i) ≡ g (2 ^ i)) → (x : ℕ) → x < 2 ^ n → f x ≡ g x
  lin_ext zero t x h = ap f (lt-one h) ∙ at_zero f hf ∙ sym (ap g (lt-one h) ∙ at_zero g hg)
  lin_ext (suc n) t x h =
      ap f (xor_top n x) ∙ hf _ _
      ∙ ap₂ xor
      (one_digit (x / 2 ^ n) (2 ^ n)
      ((div-lt_iff_lt-mul (pow_pos n)).1 (subst (λ (m : ℕ). x < m) (pow-suc 2 n ∙ mul_comm (2 ^ n) 2) h))
      (t n (le_refl (suc n))))
      (lin_ext n (λ i l. t i (omega arith)) (x % 2 ^ n) (mod-lt x (pow_pos n)))
      ∙ sym (ap g (xor_top n x) ∙ hg _ _)

-- one that has bytes as its values at the powers of 2 below 2 ^ n has bytes below 2 ^ n
pub lin_lt : (f : ℕ → ℕ) → Linear f → (n : ℕ) → ((i : ℕ) → i < n → f (2 ^ i) < 256) → (x : ℕ) → x < 2 ^ n → f x < 256
lin_lt f l zero t x h = subst (λ (y : ℕ). y < 256) (sym (ap f (lt-one h) ∙ at_zero f l)) (lit< tt)
lin_lt f l (suc n) t x h =
    subst (λ (y : ℕ). y < 256) (sym (ap f (xor_top n x) ∙ l _ _))
    (xor_lt 8 _ _ (one_digit (x / 2 ^ n) ((div-lt_iff_lt-mul (pow_pos n)).1 (subst (λ (m : ℕ). x < m) (pow-suc 2 n ∙ mul_comm (2 ^ n) 2) h)))
    (lin_lt f l n (λ i lt. t i (omega arith)) (x % 2 ^ n) (mod-lt x (pow_pos n))))
  where
    one_digit : (d : ℕ) → d < 2 → f (d * 2 ^ n) < 256
    one_digit zero h = subst (λ (y : ℕ). y < 256) (sym (ap f (zero-mul (2 ^ n)) ∙ at_zero f l)) (lit< tt)
    one_digit (suc zero) h = subst (λ (y : ℕ). f y < 256) (sym (one-mul (2 ^ n))) (t n (le_refl (suc n)))
    one_digit (suc (suc d)) h = absurd (omega arith)

-- what is linear in two bytes is known by 64 values
pub bilin_ext : (f g : ℕ → ℕ → ℕ) → ((p : ℕ) → Linear (f p)) → ((p : ℕ) → Linear (g p)) → ((x : ℕ) → Linear (λ p. f p x)) → ((x : ℕ) → Linear (λ p. g p x))
    → T (every (λ j. Agree (λ i. f (2 ^ j) (2 ^ i)) (λ i. g (2 ^ j) (2 ^ i)) 8) 8) → (p x : ℕ) → p < 256 → x < 256 → f p x ≡ g p x
bilin_ext f g hf hg kf kg t p x hp hx =
    lin_ext (λ p. f p x) (λ p. g p x) (kf x) (kg x) 8
    (λ j lj.
    lin_ext (f (2 ^ j)) (g (2 ^ j)) (hf (2 ^ j)) (hg (2 ^ j)) 8
    (agree (λ i. f (2 ^ j) (2 ^ i)) (λ i. g (2 ^ j) (2 ^ i)) 8 (below (λ j. Agree (λ i. f (2 ^ j) (2 ^ i)) (λ i. g (2 ^ j) (2 ^ i)) 8) 8 t j lj)) x hx) p
    hp
