-- Of the refusals that apply at a place of a table, to a fingerprint or to a write the lowest is given. Assumes nothing.
use mathlib.Core.Path.{◌≡◌, refl, ap, ◌∙◌}
use mathlib.Core.Bool.{Bool, not, true, false, ◌&&◌}
use mathlib.Core.Logic.{◌⊎◌, inl, inr, ⊎_elim}
use mathlib.Core.List.{List, [], ◌∷◌}
use Prim.Native.Nat.{ℕ, ◌+◌, ◌-◌, ◌<◌}
use native.Mathlib.Omega.{arith}
use borrow.Author.Tests.{eqb-false, eqb-true, le-ltb, lt-ltb, ltb-false, ltb-true}
use lib.Dec.{eqb, ltb}
use lib.ListN.{get_or, length}
use Rattle.echo.specs.Refusals.{Lowest, Refusal, ◌when◌, first_of, no_salt}
use Rattle.echo.proofs.Theorems.{the_first_of_a_list_that_ascends_is_the_lowest}
use Rattle.steering.specs.Fingerprint.{fingerprint_answer, refusal_of}
use Rattle.steering.specs.Numbers.{AreBytes}
use Rattle.steering.specs.Parsing.{Parsed, accepted, parse, refused}
use Rattle.steering.specs.Reading.{number_of, read_at, record_at}
use Rattle.steering.specs.Records.{body_length, body_of}
use Rattle.steering.specs.Writing.{address_too_high, write_body_refusal, write_refusal}
use Rattle.steering.specs.declared.records.Record.{Record}
use Rattle.steering.proofs.Laws.Outcomes.{refused_8_exactly, refused_by}

-- ---- what stands at a place

module _ (t : List ℕ) (place : ℕ) where
  abbrev unread : List Refusal
  unread =
      (6 when ltb (length t) place)
      ∷ (8 when ltb 4096 (length t))
      ∷ (9 when ltb place (length t) && eqb (body_length (get_or t place 0)) 0)
      ∷ (10 when ltb place (length t) && ltb (length t - (place + 1)) (body_length (get_or t place 0)))
      ∷ []

  -- within the table
  first_within : ltb (length t) place ≡ false → ltb 4096 (length t) ≡ false → eqb place (length t) ≡ false → ltb place (length t) ≡ true
      → number_of (read_at t place) ≡ first_of unread
  unfolding read_at record_at
  first_within p q r s = by (eqb (body_length (get_or t place 0)) 0) (ltb (length t - (place + 1)) (body_length (get_or t place 0))) refl refl
    where
      by : (z c : Bool) → eqb (body_length (get_or t place 0)) 0 ≡ z → ltb (length t - (place + 1)) (body_length (get_or t place 0)) ≡ c
          → number_of (read_at t place) ≡ first_of unread
      by true c d e = rw (p, q, r, s, d)
      by false true d e = rw (p, q, r, s, d, e)
      by false false d e = rw (p, q, r, s, d, e)

  first_unread : number_of (read_at t place) ≡ first_of unread
  unfolding read_at
  first_unread = by (ltb (length t) place) (ltb 4096 (length t)) (eqb place (length t)) refl refl refl
    where
      by : (a b e : Bool) → ltb (length t) place ≡ a → ltb 4096 (length t) ≡ b → eqb place (length t) ≡ e → number_of (read_at t place) ≡ first_of unread
      by true b e p q r = rw p
      by false true e p q r = rw (p, q)
      by false false true p q r = rw (p, q, r, le-ltb place (length t) (omega (arith, eqb-true place (length t) r)))
      by false false false p q r =
          first_within p q r (lt-ltb place (length t) (omega (arith, ltb-false (length t) place p, eqb-false place (length t) r)))

  pub read_lowest : Lowest (number_of (read_at t place)) unread
  read_lowest = rw first_unread (the_first_of_a_list_that_ascends_is_the_lowest unread refl)

-- ---- the fingerprint

module _ (t : List ℕ) (bytes : AreBytes t) where
  abbrev own : List Refusal
  own = (8 when ltb 4096 (length t)) ∷ (9 when eqb (refusal_of (parse t)) 9) ∷ (10 when eqb (refusal_of (parse t)) 10) ∷ []

  -- the table's own refusal
  first_own : refusal_of (parse t) ≡ first_of own
  first_own = by (ltb 4096 (length t)) (parse t) refl refl
    where
      by : (b : Bool) (q : Parsed) → ltb 4096 (length t) ≡ b → parse t ≡ q → refusal_of (parse t) ≡ first_of own
      by true q p e = rw p (ap refusal_of ((refused_8_exactly t bytes).1 (ltb-true 4096 (length t) p)))
      by false (accepted rs) p e = rw (p, e)
      by false (refused number place) p e =
          ⊎_elim (λ (o : (number ≡ 8) × (place ≡ 0)). absurd (omega (arith, ltb-false 4096 (length t) p, long o))) (ten p e) (refused_by t bytes number place e)
        where
          long : (number ≡ 8) × (place ≡ 0) → 4096 < length t
          long o = (refused_8_exactly t bytes).0 (cc (o.0, o.1, e))

          ten : ltb 4096 (length t) ≡ false → parse t ≡ refused number place → (number ≡ 9) ⊎ (number ≡ 10) → refusal_of (parse t) ≡ first_of own
          ten p e (inl n) = rw (p, ap refusal_of e ∙ n)
          ten p e (inr n) = rw (p, ap refusal_of e ∙ n)

  module _ (salt room : ℕ) where
    abbrev unprinted : List Refusal
    unprinted = (2 when no_salt salt) ∷ (5 when ltb room 32) ∷ own

    first_unprinted : (fingerprint_answer salt room (parse t)).refusal ≡ first_of unprinted
    unfolding fingerprint_answer
    first_unprinted = by (eqb salt 16) (ltb room 32) refl refl
      where
        by : (a b : Bool) → eqb salt 16 ≡ a → ltb room 32 ≡ b → (fingerprint_answer salt room (parse t)).refusal ≡ first_of unprinted
        by false b p q = rw p
        by true true p q = rw (p, q)
        by true false p q = rw (p, q) first_own

    pub print_lowest : Lowest (fingerprint_answer salt room (parse t)).refusal unprinted
    print_lowest = rw first_unprinted (the_first_of_a_list_that_ascends_is_the_lowest unprinted refl)

-- ---- writing

pub write_lowest : (room place : ℕ) (r : Record)
    → Lowest (write_refusal room place r) ((5 when ltb room (place + 1 + length (body_of r))) ∷ (12 when address_too_high r) ∷ [])
unfolding write_refusal
write_lowest room place r = the_first_of_a_list_that_ascends_is_the_lowest _ refl

pub write_body_lowest : (room place kind bodySize : ℕ)
    → Lowest (write_body_refusal room place kind bodySize)
    ((5 when ltb room (place + 1 + bodySize)) ∷ (9 when eqb (body_length kind) 0) ∷ (10 when not (eqb bodySize (body_length kind))) ∷ [])
unfolding write_body_refusal
write_body_lowest room place kind bodySize = the_first_of_a_list_that_ascends_is_the_lowest _ refl
