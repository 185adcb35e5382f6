-- Where a routine that takes a mode's number refuses by 6, in plain words. Assumes nothing.
use mathlib.Core.Path.{◌≡◌, refl, sym, ap, ◌∙◌}
use mathlib.Core.Bool.{Bool, true, false, not, ◌||◌, true≢false}
use mathlib.Core.Logic.{◌⊎◌, ◌↔◌, inl, inr}
use mathlib.Core.List.{List, [], ◌∷◌, ◌++◌}
use Prim.Native.Nat.{ℕ, ◌+◌, ◌/◌, ◌≤◌}
use borrow.Author.Tests.{eq-eqb, eqb-false, eqb-true, le-ltb, ltb-false, ne_eqb, not-false, not-true}
use lib.Dec.{eqb, lit<, ltb}
use lib.ListN.{length}
use Rattle.echo.specs.Families.{sizes_fit}
use Rattle.echo.specs.Refusals.{Refusal, ◌when◌, ascends, counter_too_high, first_of, no_salt}
use Rattle.echo.specs.Session.{admitted, bit_limit, digest_refusal, other_size, set_below}
use Rattle.echo.proofs.Theorems.{a_number_is_given_exactly_where_none_before_it_is}
use Rattle.echo.proofs.Theorems.{nothing_is_refused_exactly_where_no_condition_holds as none}
use Rattle.bahmorist.specs.Modes.{compress_in_refusal, compress_wide_in_refusal, digest_bits_in_refusal, digest_in_refusal, mode_of, no_mode}
use Rattle.bahmorist.proofs.Laws.Lowest.{digest_first, digest_in_first, own}
use Rattle.bahmorist.proofs.Laws.Modes.{none_0}

-- ---- tests in plain words

-- the number is no mode's
abbrev NoMode : ℕ → Type 0
NoMode n = (n ≡ 0 → ⊥) × (n ≡ 1 → ⊥)

no_mode_lem : (n : ℕ) → no_mode n ≡ true → NoMode n
no_mode_lem n e = (not_0, not_1)
  where
    not_0 : n ≡ 0 → ⊥
    not_0 z = true≢false (sym e ∙ sym (none_0 n z))

    not_1 : n ≡ 1 → ⊥
    not_1 o = true≢false (sym e ∙ ap no_mode o)

is_no_mode : (n : ℕ) → NoMode n → no_mode n ≡ true
is_no_mode n p = rw (ne_eqb n 0 p.0, ne_eqb n 1 p.1)

salt_means : (salt : ℕ) → no_salt salt ≡ false → salt ≡ 16
salt_means salt e = eqb-true salt 16 (not-false (eqb salt 16) e)

-- one of two tests, and what the second one says
module _ (n : ℕ) (P : Type 0) (b : Bool) (means : b ≡ true → P) (is : P → b ≡ true) where
  either_means : (no_mode n || b) ≡ true → NoMode n ⊎ P
  either_means e = by (no_mode n) refl e
    where
      by : (t : Bool) → no_mode n ≡ t → (t || b) ≡ true → NoMode n ⊎ P
      by true p e = inl (no_mode_lem n p)
      by false p e = inr (means e)

  either_is : NoMode n ⊎ P → (no_mode n || b) ≡ true
  either_is (inl p) = rw (is_no_mode n p)
  either_is (inr p) = by (no_mode n)
    where
      by : (t : Bool) → (t || b) ≡ true
      by true = refl
      by false = is p

-- ---- the digest at once

pub digest_6_exactly : (n h salt message room : ℕ)
    → (digest_in_refusal n h salt message room ≡ 6) ↔ ((n ≡ 0 → ⊥) × (n ≡ 1 → ⊥) × (digest_refusal h salt message room ≡ 0))
digest_6_exactly n h salt message room = (there, back)
  where
    is : digest_in_refusal n h salt message room ≡ first_of (own h salt message room ++ (6 when no_mode n) ∷ [])
    is = digest_in_first h salt message room n

    given : (first_of (own h salt message room ++ (6 when no_mode n) ∷ []) ≡ 6) ↔ ((first_of (own h salt message room) ≡ 0) × (no_mode n ≡ true))
    given = a_number_is_given_exactly_where_none_before_it_is (own h salt message room) [] 6 (no_mode n) refl

    there : digest_in_refusal n h salt message room ≡ 6 → (n ≡ 0 → ⊥) × (n ≡ 1 → ⊥) × (digest_refusal h salt message room ≡ 0)
    there e =
        let p = given.0 (sym is ∙ e) in
        let q = no_mode_lem n p.1 in (q.0, q.1, digest_first h salt message room ∙ p.0)

    back : (n ≡ 0 → ⊥) × (n ≡ 1 → ⊥) × (digest_refusal h salt message room ≡ 0) → digest_in_refusal n h salt message room ≡ 6
    back p = is ∙ given.1 (sym (digest_first h salt message room) ∙ p.2, is_no_mode n (p.0, p.1))

-- ---- the digest of so many bits at once

module _ (n h salt : ℕ) (message : List ℕ) (count room : ℕ) where
  abbrev from_5 : List Refusal
  from_5 = (5 when ltb room (h / 8)) ∷ []

  abbrev from_4 : List Refusal
  from_4 = (4 when ltb bit_limit count) ∷ from_5

  abbrev from_2 : List Refusal
  from_2 = (2 when no_salt salt) ∷ from_4

  abbrev lower : List Refusal
  lower = (1 when not (admitted h)) ∷ from_2

  abbrev Fits : Type 0
  Fits = (admitted h ≡ true) × (salt ≡ 16) × (count ≤ bit_limit) × (h / 8 ≤ room)

  lower_means : first_of lower ≡ 0 → Fits
  lower_means e =
      let a = (none 1 (not (admitted h)) from_2 (lit< tt)).0 e in
      let b = (none 2 (no_salt salt) from_4 (lit< tt)).0 a.1 in
      let c = (none 4 (ltb bit_limit count) from_5 (lit< tt)).0 b.1 in
      let d = (none 5 (ltb room (h / 8)) [] (lit< tt)).0 c.1 in
      (not-false (admitted h) a.0, salt_means salt b.0, ltb-false bit_limit count c.0, ltb-false room (h / 8) d.0)

  means_lower : Fits → first_of lower ≡ 0
  means_lower p = rw (p.0, eq-eqb salt 16 p.1, le-ltb bit_limit count p.2, le-ltb room (h / 8) p.3)

  abbrev Six : Type 0
  Six =
      (admitted h ≡ true)
      × (salt ≡ 16)
      × (count ≤ bit_limit)
      × (h / 8 ≤ room)
      × (((n ≡ 0 → ⊥) × (n ≡ 1 → ⊥)) ⊎ (length message ≡ (count + 7) / 8 → ⊥))

  other_means : other_size (length message) count ≡ true → length message ≡ (count + 7) / 8 → ⊥
  other_means e = eqb-false (length message) ((count + 7) / 8) (not-true (eqb (length message) ((count + 7) / 8)) e)

  means_other : (length message ≡ (count + 7) / 8 → ⊥) → other_size (length message) count ≡ true
  means_other f = rw (ne_eqb (length message) ((count + 7) / 8) f)

  given : (digest_bits_in_refusal n h salt message count room ≡ 6) ↔ ((first_of lower ≡ 0) × ((no_mode n || other_size (length message) count) ≡ true))
  unfolding digest_bits_in_refusal
  given =
      a_number_is_given_exactly_where_none_before_it_is lower ((17 when set_below message count) ∷ []) 6 (no_mode n || other_size (length message) count) refl

  pub bits_6_exactly : (digest_bits_in_refusal n h salt message count room ≡ 6) ↔ Six
  bits_6_exactly = (there, back)
    where
      there : digest_bits_in_refusal n h salt message count room ≡ 6 → Six
      there e =
          let p = given.0 e in
          let q = lower_means p.0 in
          (q.0, q.1, q.2, q.3, either_means n (length message ≡ (count + 7) / 8 → ⊥) (other_size (length message) count) other_means means_other p.1)

      back : Six → digest_bits_in_refusal n h salt message count room ≡ 6
      back p =
          given.1 (
            means_lower (p.0, p.1, p.2, p.3),
            either_is n (length message ≡ (count + 7) / 8 → ⊥) (other_size (length message) count) other_means means_other p.4,
          )

-- ---- compression, with what is refused behind 6

module _ (n chaining block salt : ℕ) where
  abbrev fit : Bool
  fit = sizes_fit (mode_of n) chaining block

  abbrev Salted : Type 0
  Salted = (salt ≡ 16) × (((n ≡ 0 → ⊥) × (n ≡ 1 → ⊥)) ⊎ (fit ≡ false))

  module _ (after : List Refusal) (up : ascends 0 ((2 when no_salt salt) ∷ (6 when no_mode n || not fit) ∷ after) ≡ true) where
    behind_2 : (first_of ((2 when no_salt salt) ∷ (6 when no_mode n || not fit) ∷ after) ≡ 6) ↔ Salted
    behind_2 = (there, back)
      where
        two : (first_of ((2 when no_salt salt) ∷ (6 when no_mode n || not fit) ∷ after) ≡ 6)
            ↔ ((first_of ((2 when no_salt salt) ∷ []) ≡ 0) × ((no_mode n || not fit) ≡ true))
        two = a_number_is_given_exactly_where_none_before_it_is ((2 when no_salt salt) ∷ []) after 6 (no_mode n || not fit) up

        there : first_of ((2 when no_salt salt) ∷ (6 when no_mode n || not fit) ∷ after) ≡ 6 → Salted
        there e =
            let p = two.0 e in
            (salt_means salt ((none 2 (no_salt salt) [] (lit< tt)).0 p.0).0, either_means n (fit ≡ false) (not fit) (not-true fit) (λ q. ap not q) p.1)

        back : Salted → first_of ((2 when no_salt salt) ∷ (6 when no_mode n || not fit) ∷ after) ≡ 6
        back p = two.1 (rw (eq-eqb salt 16 p.0), either_is n (fit ≡ false) (not fit) (not-true fit) (λ q. ap not q) p.1)

  pub compress_6_exactly : (counter : ℕ) → (compress_in_refusal n chaining block counter salt ≡ 6) ↔ Salted
  unfolding compress_in_refusal
  compress_6_exactly counter = behind_2 ((7 when counter_too_high counter) ∷ []) refl

  pub wide_6_exactly : (compress_wide_in_refusal n chaining block salt ≡ 6) ↔ Salted
  unfolding compress_wide_in_refusal
  wide_6_exactly = behind_2 [] refl
