-- The refusals of the digest in a mode that is given by its number, as one list. Assumes nothing.
use mathlib.Core.Path.{◌≡◌, refl, ap, ◌∙◌}
use mathlib.Core.Bool.{Bool, true, false, not}
use mathlib.Core.List.{List, [], ◌∷◌, ◌++◌}
use Prim.Native.Nat.{ℕ, ◌/◌}
use lib.Dec.{ltb}
use Rattle.echo.specs.Refusals.{Lowest, Refusal, ◌when◌, first_of, no_salt, unless}
use Rattle.echo.specs.Session.{admitted, digest_refusal, limit}
use Rattle.echo.proofs.Promises.{digest_number}
use Rattle.echo.proofs.Theorems.{the_first_of_a_list_that_ascends_is_the_lowest}
use Rattle.bahmorist.specs.Modes.{digest_in_refusal, no_mode}

abbrev pub four : Bool → Bool → Bool → Bool → List Refusal
four a b c d = (1 when a) ∷ (2 when b) ∷ (4 when c) ∷ (5 when d) ∷ []

-- 6 behind them
behind : (a b c d t : Bool)
    → unless (first_of (four a b c d)) (first_of ((6 when t) ∷ [])) (first_of (four a b c d)) ≡ first_of (four a b c d ++ (6 when t) ∷ [])
behind true b c d t = refl
behind false true c d t = refl
behind false false true d t = refl
behind false false false true t = refl
behind false false false false t = refl

module _ (h salt message room : ℕ) where
  -- the digest's own refusals
  abbrev pub own : List Refusal
  own = four (not (admitted h)) (no_salt salt) (ltb limit message) (ltb room (h / 8))

  pub digest_first : digest_refusal h salt message room ≡ first_of own
  digest_first = digest_number h salt message room

  pub digest_in_first : (n : ℕ) → digest_in_refusal n h salt message room ≡ first_of (own ++ (6 when no_mode n) ∷ [])
  unfolding digest_in_refusal
  digest_in_first n =
      ap (λ (k : ℕ). unless k (first_of ((6 when no_mode n) ∷ [])) k) digest_first
      ∙ behind (not (admitted h)) (no_salt salt) (ltb limit message) (ltb room (h / 8)) (no_mode n)

  pub digest_in_lowest : (n : ℕ) → Lowest (digest_in_refusal n h salt message room) (own ++ (6 when no_mode n) ∷ [])
  digest_in_lowest n = rw (digest_in_first n) (the_first_of_a_list_that_ascends_is_the_lowest (own ++ (6 when no_mode n) ∷ []) refl)
