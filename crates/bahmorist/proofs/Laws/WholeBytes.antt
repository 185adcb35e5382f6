-- The digest of so many bits, of eight for each byte of its message, is the digest of these bytes, whatever the mode's number. Assumes nothing.
use mathlib.Core.Path.{◌≡◌, refl, sym, ap, ◌∙◌}
use mathlib.Core.Bool.{Bool, true, false}
use mathlib.Core.List.{List}
use Prim.Native.Nat.{ℕ, zero, suc, ◌*◌, ◌/◌}
use native.Mathlib.Omega.{arith}
use lib.ListN.{length}
use Rattle.echo.specs.Session.{blank, digest_refusal}
use Rattle.echo.proofs.Theorems.{whole_bytes_are_eight_bits_each}
use Rattle.bahmorist.specs.Modes.{digest_bits_in_leaves, digest_bits_in_refusal, digest_in_leaves, digest_in_refusal, mode_of, no_mode}
use Rattle.bahmorist.proofs.Laws.Modes as modes

module _ (n h : ℕ) (salt message room : List ℕ) where
  abbrev count : ℕ
  count = 8 * length message

  abbrev Agree : Type 0
  Agree =
      (digest_bits_in_refusal n h (length salt) message count (length room) ≡ digest_in_refusal n h (length salt) (length message) (length room))
      × (digest_bits_in_leaves n h salt message count room ≡ digest_in_leaves n h salt message room)

  -- a mode's number: both are the digest of that mode
  in_a_mode : no_mode n ≡ false → Agree
  in_a_mode one =
      let W = whole_bytes_are_eight_bits_each (mode_of n) h salt message room blank in (
        sym (modes.bits_passed_on n h salt message count room (mode_of n) (sym one, refl) _ refl)
            ∙ sym W.0
            ∙ modes.digest_passed_on n h salt message room (mode_of n) (sym one, refl) _ refl,
        sym (modes.bits_left_on n h salt message count room (mode_of n) (sym one, refl) _ refl)
            ∙ sym W.1
            ∙ modes.digest_left_on n h salt message room (mode_of n) (sym one, refl) _ refl,
      )

  -- no mode's: both refuse by what the digest refuses by, or by 6, and leave the room
  in_none : no_mode n ≡ true → Agree
  in_none none = (
    by (digest_refusal h (length salt) (length message) (length room)) refl,
    sym (modes.bits_no_mode_leaves n h salt message count room true (sym none) refl)
        ∙ modes.no_mode_leaves n h salt message room true (sym none) refl _ refl,
  )
    where
      bytes : length message ≡ count / 8
      bytes = omega arith

      by : (r : ℕ) → r ≡ digest_refusal h (length salt) (length message) (length room)
          → digest_bits_in_refusal n h (length salt) message count (length room) ≡ digest_in_refusal n h (length salt) (length message) (length room)
      by zero e =
          sym (modes.bits_6 n h salt message count room true (sym none) refl 0 (e ∙ ap (λ (k : ℕ). digest_refusal h (length salt) k (length room)) bytes) refl)
          ∙ modes.digest_6 n h salt message room true (sym none) refl 0 e refl
      by (suc k) e =
          sym (modes.bits_less n h salt message count room true (sym none) refl (suc k)
          (e ∙ ap (λ (k : ℕ). digest_refusal h (length salt) k (length room)) bytes) (λ z. omega arith))
          ∙ modes.digest_less n h salt message room true (sym none) refl (suc k) e (λ z. omega arith)

  pub agrees : Agree
  agrees = by (no_mode n) refl
    where
      by : (t : Bool) → no_mode n ≡ t → Agree
      by true e = in_none e
      by false e = in_a_mode e
