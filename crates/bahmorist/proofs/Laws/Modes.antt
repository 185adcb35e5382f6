-- Modes as numbers: what the routines that take one answer and leave, by the tests that the code made. Assumes nothing.
use mathlib.Core.Path.{◌≡◌, refl, sym, ap, ◌∙◌}
use mathlib.Core.Bool.{Bool, true, false, cond, not, ◌||◌}
use mathlib.Core.List.{List, [], ◌∷◌}
use Prim.Native.Nat.{ℕ, zero, suc, ◌/◌}
use native.Mathlib.Omega.{arith}
use lib.Dec.{eqb, ltb}
use lib.ListN.{length}
use Rattle.echo.specs.declared.mode.Mode.{Mode}
use Rattle.echo.specs.declared.mode.Mode.TheVariants.{DoublePipe, SinglePipe}
use Rattle.echo.specs.Families.{mode_number, sizes_fit}
use Rattle.echo.specs.Refusals.{Refusal, ◌when◌, counter_too_high, first_of, no_salt, unless}
use Rattle.echo.specs.Routines.{compress_leaves, compress_refusal, compress_wide_leaves, compress_wide_refusal}
use Rattle.echo.specs.Session.{admitted, bit_limit, digest_bits_leaves, digest_bits_refusal, digest_leaves, digest_refusal, other_size, set_below}
use Rattle.echo.proofs.Promises.{compress_number, compress_wide_number, digest_bits_number, digest_number, too_many}
use Rattle.echo.proofs.Theorems.{a_refused_compression_leaves_the_chaining_value, a_refused_digest_leaves_the_room}
use Rattle.echo.proofs.Theorems.{a_refused_digest_of_bits_leaves_the_room}
use Rattle.echo.proofs.Theorems.{a_refused_wide_compression_leaves_the_chaining_value}
use Rattle.bahmorist.specs.Modes.{compress_in_leaves, compress_in_refusal, compress_wide_in_leaves, compress_wide_in_refusal}
use Rattle.bahmorist.specs.Modes.{digest_bits_in_leaves, digest_bits_in_refusal, digest_in_leaves, digest_in_refusal, mode_of, no_mode}

-- ---- numbers and modes

pub none_0 : (n : ℕ) → n ≡ 0 → false ≡ no_mode n
none_0 n e = rw e

pub is_number : (mode : Mode) → (false ≡ no_mode (mode_number mode)) × (mode ≡ mode_of (mode_number mode))
is_number DoublePipe = (refl, refl)
is_number SinglePipe = (refl, refl)

-- what is left where a routine that refuses by n leaves `done`, and `kept` where n is not 0
passed_on : (n : ℕ) (done kept : List ℕ) → ((k : ℕ) → n ≡ suc k → done ≡ kept) → done ≡ unless n done kept
passed_on zero done kept f = refl
passed_on (suc k) done kept f = f k refl

-- ---- the digest at once, refused by r but for the mode

module _ (n h : ℕ) (salt message room : List ℕ) where
  abbrev number : ℕ
  number = digest_refusal h (length salt) (length message) (length room)

  abbrev number_in : ℕ
  number_in = digest_in_refusal n h (length salt) (length message) (length room)

  -- by what is known of the number n
  behind : (t : Bool) → no_mode n ≡ t → number_in ≡ unless number (first_of ((6 when t) ∷ [])) number
  unfolding digest_in_refusal
  behind t e = ap (λ (x : Bool). unless number (first_of ((6 when x) ∷ [])) number) e

  module _ (t : Bool) (e : t ≡ no_mode n) where
    pub digest_refuses : t ≡ true → number_in ≡ 0 → ⊥
    digest_refuses none z = by number (sym (behind true (sym e ∙ none)) ∙ z)
      where
        by : (k : ℕ) → unless k 6 k ≡ 0 → ⊥
        by zero p = omega arith
        by (suc k) p = omega arith

    module _ (none : t ≡ true) (r : ℕ) (d : r ≡ number) where
      pub digest_6 : r ≡ 0 → 6 ≡ number_in
      digest_6 z = sym (behind true (sym e ∙ none) ∙ ap (λ (k : ℕ). unless k 6 k) (sym d ∙ z))

      pub digest_less : (r ≡ 0 → ⊥) → r ≡ number_in
      digest_less f = by r d f ∙ sym (behind true (sym e ∙ none))
        where
          by : (r : ℕ) → r ≡ number → (r ≡ 0 → ⊥) → r ≡ unless number 6 number
          by zero d f = absurd (f refl)
          by (suc k) d f = rw (← d) refl

      -- either way something is refused
      pub no_mode_leaves : room ≡ digest_in_leaves n h salt message room
      unfolding digest_in_leaves
      no_mode_leaves = by number refl
        where
          by : (k : ℕ) → number ≡ k → room ≡ unless number_in (digest_leaves (mode_of n) h salt message room) room
          by zero p = rw (behind true (sym e ∙ none), p) refl
          by (suc k) p = rw (behind true (sym e ∙ none), p) refl

  -- the routine of the mode that the number names
  module _ (mode : Mode) (named : (false ≡ no_mode n) × (mode ≡ mode_of n)) where
    same_number : number_in ≡ number
    same_number = behind false (sym named.0) ∙ by number
      where
        by : (k : ℕ) → unless k 0 k ≡ k
        by zero = refl
        by (suc k) = refl

    pub digest_passed_on : (r : ℕ) → r ≡ number → r ≡ number_in
    digest_passed_on r d = d ∙ sym same_number

    pub digest_left_on : (u : List ℕ) → u ≡ digest_leaves mode h salt message room
        → u ≡ digest_in_leaves n h salt message room
    unfolding digest_in_leaves
    digest_left_on u l =
        l
        ∙ ap (λ (x : Mode). digest_leaves x h salt message room) named.1
        ∙ passed_on number _ room (λ k p. a_refused_digest_leaves_the_room k (mode_of n) h salt message room p)
        ∙ ap (λ (k : ℕ). unless k (digest_leaves (mode_of n) h salt message room) room) (sym same_number)

-- ---- the digest of so many bits at once

module _ (n h : ℕ) (salt message : List ℕ) (count : ℕ) (room : List ℕ) where
  abbrev bits_number_in : ℕ
  bits_number_in = digest_bits_in_refusal n h (length salt) message count (length room)

  -- where it is known whether the number is no mode's
  abbrev listed : Bool → ℕ
  listed t =
      first_of
      ((1 when not (admitted h))
      ∷ (2 when no_salt (length salt))
      ∷ (4 when ltb bit_limit count)
      ∷ (5 when ltb (length room) (h / 8))
      ∷ (6 when t || other_size (length message) count)
      ∷ (17 when set_below message count)
      ∷ [])

  module _ (t : Bool) (e : t ≡ no_mode n) where
    listed_is : (x : Bool) → t ≡ x → bits_number_in ≡ listed x
    unfolding digest_bits_in_refusal
    listed_is x p = ap listed (sym e ∙ p)

    -- none of its refusals is 0 then
    six : (a b c d f : Bool)
        → first_of ((1 when a) ∷ (2 when b) ∷ (4 when c) ∷ (5 when d) ∷ (6 when true) ∷ (17 when f) ∷ [])
        ≡ unless (first_of ((1 when a) ∷ (2 when b) ∷ (4 when c) ∷ (5 when d) ∷ [])) 6 (first_of ((1 when a) ∷ (2 when b) ∷ (4 when c) ∷ (5 when d) ∷ []))
    six true b c d f = refl
    six false true c d f = refl
    six false false true d f = refl
    six false false false true f = refl
    six false false false false f = refl

    -- the whole bytes are refused by as many
    whole_number : first_of
        ((1 when not (admitted h)) ∷ (2 when no_salt (length salt)) ∷ (4 when ltb bit_limit count) ∷ (5 when ltb (length room) (h / 8)) ∷ [])
        ≡ digest_refusal h (length salt) (count / 8) (length room)
    whole_number =
        ap (λ (c : Bool). first_of ((1 when not (admitted h)) ∷ (2 when no_salt (length salt)) ∷ (4 when c) ∷ (5 when ltb (length room) (h / 8)) ∷ []))
        (too_many count)
        ∙ sym (digest_number h (length salt) (count / 8) (length room))

    module _ (none : t ≡ true) where
      refused_by : bits_number_in
          ≡ unless (digest_refusal h (length salt) (count / 8) (length room)) 6 (digest_refusal h (length salt) (count / 8) (length room))
      refused_by =
          listed_is true none
          ∙ six (not (admitted h)) (no_salt (length salt)) (ltb bit_limit count) (ltb (length room) (h / 8)) (set_below message count)
          ∙ ap (λ (k : ℕ). unless k 6 k) whole_number

      some : (k : ℕ) → unless k 6 k ≡ 0 → ⊥
      some zero p = omega arith
      some (suc k) p = omega arith

      pub bits_refuses : bits_number_in ≡ 0 → ⊥
      bits_refuses z = some (digest_refusal h (length salt) (count / 8) (length room)) (sym refused_by ∙ z)

      -- either way something is refused
      pub bits_no_mode_leaves : room ≡ digest_bits_in_leaves n h salt message count room
      unfolding digest_bits_in_leaves
      bits_no_mode_leaves = by bits_number_in bits_refuses
        where
          by : (k : ℕ) → (k ≡ 0 → ⊥) → room ≡ unless k (digest_bits_leaves (mode_of n) h salt message count room) room
          by zero f = absurd (f refl)
          by (suc k) f = refl

      module _ (r : ℕ) (d : r ≡ digest_refusal h (length salt) (count / 8) (length room)) where
        pub bits_6 : r ≡ 0 → 6 ≡ bits_number_in
        bits_6 z = sym (refused_by ∙ ap (λ (k : ℕ). unless k 6 k) (sym d ∙ z))

        pub bits_less : (r ≡ 0 → ⊥) → r ≡ bits_number_in
        bits_less f = by r f ∙ ap (λ (k : ℕ). unless k 6 k) d ∙ sym refused_by
          where
            by : (k : ℕ) → (k ≡ 0 → ⊥) → k ≡ unless k 6 k
            by zero f = absurd (f refl)
            by (suc k) f = refl

  module _ (mode : Mode) (named : (false ≡ no_mode n) × (mode ≡ mode_of n)) where
    same_bits_number : digest_bits_refusal h (length salt) message count (length room) ≡ bits_number_in
    same_bits_number = digest_bits_number h (length salt) message count (length room) ∙ sym (listed_is false named.0 false refl)

    pub bits_passed_on : (r : ℕ) → r ≡ digest_bits_refusal h (length salt) message count (length room) → r ≡ bits_number_in
    bits_passed_on r d = d ∙ same_bits_number

    pub bits_left_on : (u : List ℕ) → u ≡ digest_bits_leaves mode h salt message count room
        → u ≡ digest_bits_in_leaves n h salt message count room
    unfolding digest_bits_in_leaves
    bits_left_on u l =
        l
        ∙ ap (λ (x : Mode). digest_bits_leaves x h salt message count room) named.1
        ∙ passed_on _ _ room (λ k p. a_refused_digest_of_bits_leaves_the_room k (mode_of n) h salt message count room p)
        ∙ ap (λ (k : ℕ). unless k (digest_bits_leaves (mode_of n) h salt message count room) room) same_bits_number

-- ---- compression, with what is refused behind 2 and 6

module _ (n : ℕ) (chaining block salt : List ℕ) (rest : List Refusal) where
  -- where it is known whether the number is no mode's
  abbrev first : Bool → ℕ
  first t = first_of ((2 when no_salt (length salt)) ∷ (6 when t || not (sizes_fit (mode_of n) (length chaining) (length block))) ∷ rest)

  module _ (t : Bool) (e : t ≡ no_mode n) where
    same : (x : Bool) → t ≡ x → first (no_mode n) ≡ first x
    same x p = ap first (sym e ∙ p)

    refuses : t ≡ true → first (no_mode n) ≡ 0 → ⊥
    refuses none z = by (eqb (length salt) 16) (sym (same true none) ∙ z)
      where
        by : (s : Bool) → first_of ((2 when not s) ∷ (6 when true) ∷ rest) ≡ 0 → ⊥
        by true p = omega arith
        by false p = omega arith

    number_none : t ≡ true → cond (no_salt (length salt)) 2 6 ≡ first (no_mode n)
    number_none none = by (eqb (length salt) 16) ∙ sym (same true none)
      where
        by : (s : Bool) → cond (not s) 2 6 ≡ first_of ((2 when not s) ∷ (6 when true) ∷ rest)
        by true = refl
        by false = refl

    keeps : t ≡ true → (done : List ℕ) → chaining ≡ unless (first (no_mode n)) done chaining
    keeps none done = by (eqb (length salt) 16) ∙ ap (λ (k : ℕ). unless k done chaining) (sym (same true none))
      where
        by : (s : Bool) → chaining ≡ unless (first_of ((2 when not s) ∷ (6 when true) ∷ rest)) done chaining
        by true = refl
        by false = refl

    -- a routine of that mode refuses by `refusal` and leaves `leaves`
    module _ (one : t ≡ false) (refusal : Mode → ℕ) (is : refusal (mode_of n) ≡ first false) (mode : Mode) (m : mode ≡ mode_of n) where
      numbers_on : refusal mode ≡ first (no_mode n)
      numbers_on = ap refusal m ∙ is ∙ sym (same false one)

      leaves_on : (leaves : Mode → List ℕ) → ((k : ℕ) → refusal (mode_of n) ≡ suc k → leaves (mode_of n) ≡ chaining)
          → leaves mode ≡ unless (first (no_mode n)) (leaves (mode_of n)) chaining
      leaves_on leaves f =
          ap leaves m
          ∙ passed_on (refusal (mode_of n)) (leaves (mode_of n)) chaining f
          ∙ ap (λ (k : ℕ). unless k (leaves (mode_of n)) chaining) (is ∙ sym (same false one))

-- a counter of 64 bits
module _ (n : ℕ) (chaining block : List ℕ) (counter : ℕ) (salt : List ℕ) where
  abbrev high : List Refusal
  high = (7 when counter_too_high counter) ∷ []

  abbrev refusal_in : ℕ
  refusal_in = compress_in_refusal n (length chaining) (length block) counter (length salt)

  pub compress_refuses : true ≡ no_mode n → refusal_in ≡ 0 → ⊥
  unfolding compress_in_refusal
  compress_refuses none = refuses n chaining block salt high true none refl

  module _ (r : ℕ) (none : (true ≡ no_mode n) × (r ≡ cond (no_salt (length salt)) 2 6)) where
    pub compress_no_mode : r ≡ refusal_in
    unfolding compress_in_refusal
    compress_no_mode = none.1 ∙ number_none n chaining block salt high true none.0 refl

    pub no_mode_keeps : chaining ≡ compress_in_leaves n chaining block counter salt
    unfolding compress_in_leaves compress_in_refusal
    no_mode_keeps = keeps n chaining block salt high true none.0 refl _

  module _ (mode : Mode) (named : (false ≡ no_mode n) × (mode ≡ mode_of n)) where
    abbrev refusal : Mode → ℕ
    refusal x = compress_refusal x (length chaining) (length block) counter (length salt)

    is : refusal (mode_of n) ≡ first n chaining block salt high false
    is = compress_number (mode_of n) (length chaining) (length block) counter (length salt)

    pub compress_passed_on : (r : ℕ) → r ≡ refusal mode → r ≡ refusal_in
    unfolding compress_in_refusal
    compress_passed_on r d = d ∙ numbers_on n chaining block salt high false named.0 refl refusal is mode named.1

    pub compress_left_on : (u : List ℕ) → u ≡ compress_leaves mode chaining block counter salt → u ≡ compress_in_leaves n chaining block counter salt
    unfolding compress_in_leaves compress_in_refusal
    compress_left_on u l =
        l
        ∙ leaves_on n chaining block salt high false named.0 refl refusal is mode named.1 (λ x. compress_leaves x chaining block counter salt)
        (λ k. a_refused_compression_leaves_the_chaining_value k (mode_of n) chaining block counter salt)

-- a counter of 128 bits
module _ (n : ℕ) (chaining block : List ℕ) (counter : ℕ) (salt : List ℕ) where
  abbrev wide_refusal_in : ℕ
  wide_refusal_in = compress_wide_in_refusal n (length chaining) (length block) (length salt)

  pub wide_refuses : true ≡ no_mode n → wide_refusal_in ≡ 0 → ⊥
  unfolding compress_wide_in_refusal
  wide_refuses none = refuses n chaining block salt [] true none refl

  module _ (r : ℕ) (none : (true ≡ no_mode n) × (r ≡ cond (no_salt (length salt)) 2 6)) where
    pub wide_no_mode : r ≡ wide_refusal_in
    unfolding compress_wide_in_refusal
    wide_no_mode = none.1 ∙ number_none n chaining block salt [] true none.0 refl

    pub wide_no_mode_keeps : chaining ≡ compress_wide_in_leaves n chaining block counter salt
    unfolding compress_wide_in_leaves compress_wide_in_refusal
    wide_no_mode_keeps = keeps n chaining block salt [] true none.0 refl _

  module _ (mode : Mode) (named : (false ≡ no_mode n) × (mode ≡ mode_of n)) where
    abbrev wide_refusal : Mode → ℕ
    wide_refusal x = compress_wide_refusal x (length chaining) (length block) (length salt)

    wide_is : wide_refusal (mode_of n) ≡ first n chaining block salt [] false
    wide_is = compress_wide_number (mode_of n) (length chaining) (length block) (length salt)

    pub wide_passed_on : (r : ℕ) → r ≡ wide_refusal mode → r ≡ wide_refusal_in
    unfolding compress_wide_in_refusal
    wide_passed_on r d = d ∙ numbers_on n chaining block salt [] false named.0 refl wide_refusal wide_is mode named.1

    pub wide_left_on : (u : List ℕ) → u ≡ compress_wide_leaves mode chaining block counter salt → u ≡ compress_wide_in_leaves n chaining block counter salt
    unfolding compress_wide_in_leaves compress_wide_in_refusal
    wide_left_on u l =
        l
        ∙ leaves_on n chaining block salt [] false named.0 refl wide_refusal wide_is mode named.1 (λ x. compress_wide_leaves x chaining block counter salt)
        (λ k. a_refused_wide_compression_leaves_the_chaining_value k (mode_of n) chaining block counter salt)
