-- Verifying a tag, by what the code has at each return: the check's verdict. Assumes nothing.
use mathlib.Core.Path.{◌≡◌, refl, sym, ap, ◌∙◌}
use mathlib.Core.Bool.{Bool, true, false, not}
use mathlib.Core.List.{List, [], ◌∷◌}
use Prim.Native.Nat.{ℕ}
use lib.ListN.{length}
use Rattle.echo.specs.Refusals.{◌when◌, first_of, no_salt, unless}
use Rattle.echo.specs.Session.{admitted}
use Rattle.echo.proofs.Promises.{done, kept}
use Rattle.hmac.specs.Answers.{Verdict}
use Rattle.hmac.specs.Hmac.{tag_of}
use Rattle.hmac.specs.Routines.{check_answer, check_refusal, too_long, verify_refusal}
use Rattle.hmac.specs.Same.{same}

-- where a check gives r, and a tag is the message's or not
abbrev followed : ℕ → Bool → ℕ
followed r right = unless r (first_of ((19 when not right) ∷ [])) r

-- 19 comes behind the check's refusals
behind : (a s k right : Bool)
    → first_of ((1 when a) ∷ (2 when s) ∷ (4 when k) ∷ (19 when not right) ∷ []) ≡ followed (first_of ((1 when a) ∷ (2 when s) ∷ (4 when k) ∷ [])) right
behind true s k right = refl
behind false true k right = refl
behind false false true right = refl
behind false false false right = refl

module _ (h : ℕ) (salt key message tag : List ℕ) where
  abbrev checked : ℕ
  checked = check_refusal h (length salt) (length key) (length message)

  abbrev right : Bool
  right = same (tag_of h salt key message) tag

  pub verify_number : verify_refusal h salt key message tag ≡ followed checked right
  unfolding verify_refusal check_refusal
  verify_number = behind (not (admitted h)) (no_salt (length salt)) (too_long h (length key) (length message)) right

  module _ (v : Verdict) (e : v ≡ check_answer h salt key message tag) where
    number : v.refusal ≡ checked
    unfolding check_answer
    number = ap (λ (x : Verdict). x.refusal) e

    says : v.refusal ≡ 0 → v.yes ≡ right
    unfolding check_answer
    says z = ap (λ (x : Verdict). x.yes) e ∙ done checked right false (sym number ∙ z)

    told : v.refusal ≡ 0 → (t : Bool) → v.yes ≡ t → verify_refusal h salt key message tag ≡ first_of ((19 when not t) ∷ [])
    told z t y = verify_number ∙ done checked _ _ (sym number ∙ z) ∙ ap (λ (b : Bool). first_of ((19 when not b) ∷ [])) (sym (says z) ∙ y)

    pub verify_refused : (v.refusal ≡ 0 → ⊥) → v.refusal ≡ verify_refusal h salt key message tag
    verify_refused n = number ∙ sym (kept checked _ checked (λ z. n (number ∙ z))) ∙ sym verify_number

    pub verify_right : v.refusal ≡ 0 → v.yes ≡ true → 0 ≡ verify_refusal h salt key message tag
    verify_right z y = sym (told z true y)

    pub verify_wrong : v.refusal ≡ 0 → v.yes ≡ false → 19 ≡ verify_refusal h salt key message tag
    verify_wrong z y = sym (told z false y)
