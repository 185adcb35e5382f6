-- Counting bytes, or bits, by blocks of b; and bits by blocks of b bytes. Assumes nothing.
use Rattle.std.proofs.Common.{◌≡◌, ℕ, ◌+◌, ◌*◌, ◌/◌, ◌%◌, ◌<◌, ap, ◌∙◌, mod-lt, mod-eq_of_lt, mul_assoc, arith}
use native.Mathlib.Nat.{div-add-mod, div-eq_of_lt, div_self, mod_self, mul-add-div, mul-add-mod_self_left}

module _ (b : ℕ) (pos : 0 < b) where
  -- r more than those of the full blocks
  pub div_on : (n r : ℕ) → (n + r) / b ≡ n / b + (n % b + r) / b
  div_on n r = ap (λ (x : ℕ). x / b) (split n r) ∙ mul-add-div pos (n / b) (n % b + r)
    where
      split : (n r : ℕ) → n + r ≡ b * (n / b) + (n % b + r)
      split n r = omega (arith, div-add-mod n b)

  pub mod_on : (n r : ℕ) → (n + r) % b ≡ (n % b + r) % b
  mod_on n r = ap (λ (x : ℕ). x % b) (split n r) ∙ mul-add-mod_self_left b (n / b) (n % b + r)
    where
      split : (n r : ℕ) → n + r ≡ b * (n / b) + (n % b + r)
      split n r = omega (arith, div-add-mod n b)

  -- one more, where it fills a block and where it doesn't
  pub div_full : (n : ℕ) → n % b + 1 ≡ b → (n + 1) / b ≡ n / b + 1
  div_full n h = div_on n 1 ∙ ap (λ (x : ℕ). n / b + x) (ap (λ (x : ℕ). x / b) h ∙ div_self pos)

  pub mod_full : (n : ℕ) → n % b + 1 ≡ b → (n + 1) % b ≡ 0
  mod_full n h = mod_on n 1 ∙ ap (λ (x : ℕ). x % b) h ∙ mod_self b

  pub div_more : (n : ℕ) → n % b + 1 < b → (n + 1) / b ≡ n / b
  div_more n h = div_on n 1 ∙ omega (arith, div-eq_of_lt h)

  pub mod_more : (n : ℕ) → n % b + 1 < b → (n + 1) % b ≡ n % b + 1
  mod_more n h = mod_on n 1 ∙ mod-eq_of_lt h

  -- L bits: so many whole bytes stand behind the full blocks, and the bits of a part byte behind them
  parts : (L : ℕ) → L ≡ 8 * b * (L / 8 / b) + (8 * (L / 8 % b) + L % 8)
  parts L = omega (arith, div-add-mod (L / 8) b, mul_assoc 8 b (L / 8 / b))

  short : (L : ℕ) → 8 * (L / 8 % b) + L % 8 < 8 * b
  short L = omega (arith, mod-lt (L / 8) pos)

  some_bits : 0 < 8 * b
  some_bits = omega arith

  pub bits_mod : (L : ℕ) → L % (8 * b) ≡ 8 * (L / 8 % b) + L % 8
  bits_mod L = ap (λ (x : ℕ). x % (8 * b)) (parts L) ∙ mul-add-mod_self_left (8 * b) (L / 8 / b) (8 * (L / 8 % b) + L % 8) ∙ mod-eq_of_lt (short L)

  pub bits_div : (L : ℕ) → L / (8 * b) ≡ L / 8 / b
  bits_div L =
      ap (λ (x : ℕ). x / (8 * b)) (parts L) ∙ mul-add-div some_bits (L / 8 / b) (8 * (L / 8 % b) + L % 8) ∙ omega (arith, div-eq_of_lt (short L))
