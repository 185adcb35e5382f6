-- The internal counter of 128 bits, by its halves. Assumes nothing.
use Rattle.std.proofs.Common.{◌≡◌, ℕ, ◌+◌, ◌*◌, ◌/◌, ◌%◌, ◌^◌, ◌<◌, ◌≤◌, sym, ap, ◌∙◌, ap₂, add-zero, mod-eq_of_lt, mul_comm, add_comm, arith, lit<}
use native.Mathlib.Nat.{add-mul-div_left, add-mul-mod_self_left}
use lib.Pow.{mod-pow-add}
use Rattle.echo.specs.Numbers.{halves}

-- so many words further on: the lower half's carry goes into the upper one
module _ (low high words : ℕ) where
  on : ℕ
  on = halves low high + words

  apart : on ≡ low + words + 2 ^ 64 * high
  unfolding on
  apart = omega arith

  counted : (carry : ℕ) → (low + words) / 2 ^ 64 ≡ carry → halves ((low + words) % 2 ^ 64) ((high + carry) % 2 ^ 64) ≡ on % 2 ^ 128
  counted carry e =
      add_comm _ _
      ∙ ap₂ (λ (a b : ℕ). a + b)
      (mul_comm _ _ ∙ ap (λ (q : ℕ). q % 2 ^ 64 * 2 ^ 64) (sym upper))
      (sym (ap (λ (x : ℕ). x % 2 ^ 64) apart ∙ add-mul-mod_self_left (low + words) (2 ^ 64) high))
      ∙ sym (mod-pow-add on 64 64)
    where
      upper : on / 2 ^ 64 ≡ high + carry
      upper =
          ap (λ (x : ℕ). x / 2 ^ 64) apart
          ∙ add-mul-div_left (low + words) high (lit< tt)
          ∙ add_comm _ high
          ∙ ap (λ (q : ℕ). high + q) e

-- as the code has it
module _ (low high words sum : ℕ) (l : low < 2 ^ 64) (w : words < 2 ^ 64) (e : sum ≡ (low + words) % 2 ^ 64) where
  pub counted_over : (next : ℕ) → next ≡ (high + 1) % 2 ^ 64 → sum < words → halves sum next ≡ (halves low high + words) % 2 ^ 128
  unfolding on
  counted_over next f over = ap₂ halves e f ∙ counted low high words 1 (omega arith)

  pub counted_within : high < 2 ^ 64 → words ≤ sum → halves sum high ≡ (halves low high + words) % 2 ^ 128
  unfolding on
  counted_within h within = ap₂ halves e (sym (ap (λ (x : ℕ). x % 2 ^ 64) (add-zero high) ∙ mod-eq_of_lt h)) ∙ counted low high words 0 (omega arith)
