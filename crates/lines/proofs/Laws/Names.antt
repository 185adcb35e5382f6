-- Names, byte by byte, and their marks. Assumes nothing.
use mathlib.Core.Path.{◌≡◌, ◌∙◌, refl, sym}
use mathlib.Core.Bool.{Bool, true, false, true≢false}
use mathlib.Core.List.{List, [], ◌∷◌}
use Prim.Native.Nat.{ℕ, ◌+◌, ◌<◌, ◌≤◌, min}
use native.Mathlib.Numerals.{add-one}
use native.Mathlib.Omega.{arith}
use borrow.Author.Tests.{eq-eqb, eqb-false, eqb-true, ne_eqb}
use lib.Dec.{eqb}
use lib.ListN.{drop, get_or, length}
use lib.Seq.{drop-cons, drop-length}
use Rattle.lines.specs.Lines.{Put, spread}
use Rattle.lines.specs.Names.{escape_of, is_plain, letter_of, mark_of}
use Rattle.lines.proofs.Laws.Lines.{put_join, put_nothing}

-- ---- a byte

by_case : {A : Type 0} (x y : ℕ) → (x ≡ y → A) → ((x ≡ y → ⊥) → A) → A
by_case {A} x y f g = bool_case (eqb x y) (λ t. f (eqb-true x y t)) (λ t. g (eqb-false x y t))
  where
    bool_case : (b : Bool) → (b ≡ true → A) → (b ≡ false → A) → A
    bool_case true f g = f refl
    bool_case false f g = g refl

module _ (x : ℕ) where
  pub line_end : x ≡ 10 → 110 ≡ letter_of x
  unfolding letter_of
  line_end h = rw h

  pub carriage_return : x ≡ 13 → 114 ≡ letter_of x
  unfolding letter_of
  carriage_return h = rw h

  pub backslash : x ≡ 92 → 92 ≡ letter_of x
  unfolding letter_of
  backslash h = rw h

  pub no_letter : (x ≡ 10 → ⊥) → (x ≡ 13 → ⊥) → (x ≡ 92 → ⊥) → 0 ≡ letter_of x
  unfolding letter_of
  no_letter a b c = simp (ne_eqb x 10 a, ne_eqb x 13 b, ne_eqb x 92 c)

  module _ (l : ℕ) (e : l ≡ letter_of x) (room : List ℕ) (at : ℕ) (after : List ℕ) (r : ℕ) where
    pub as_it_is : l ≡ 0 → Put room at (x ∷ []) after r → Put room at (escape_of x) after r
    unfolding escape_of
    as_it_is z p = rw (← e) (simp (eq-eqb l 0 z) p)

    pub escaped : (l ≡ 0 → ⊥) → (mid : List ℕ) (end : ℕ) → Put room at (92 ∷ []) mid end → Put mid end (l ∷ []) after r
        → Put room at (escape_of x) after r
    unfolding escape_of
    escaped z mid end p q = rw (← e) (simp (ne_eqb l 0 z) (put_join room at (92 ∷ []) mid end (l ∷ []) after r p q))

-- ---- a name

module _ (name : List ℕ) (i : ℕ) where
  pub plain_on : (l : ℕ) → i < length name → l ≡ letter_of (get_or name i 0) → l ≡ 0 → is_plain name ≡ is_plain (drop i name)
      → is_plain name ≡ is_plain (drop (i + 1) name)
  unfolding is_plain
  plain_on l h e z p = p ∙ rw (drop-cons name i 0 h, ← e, add-one i) (simp (eq-eqb l 0 z))

  pub not_plain : (l : ℕ) → i < length name → l ≡ letter_of (get_or name i 0) → (l ≡ 0 → ⊥) → is_plain name ≡ is_plain (drop i name)
      → false ≡ is_plain name
  unfolding is_plain
  not_plain l h e z p = sym (p ∙ rw (drop-cons name i 0 h, ← e) (simp (ne_eqb l 0 z)))

  pub plain : (n : ℕ) → i ≤ n → n ≤ i → n ≡ length name → is_plain name ≡ is_plain (drop i name) → true ≡ is_plain name
  unfolding is_plain
  plain n h g e p = let l : i ≡ length name = omega arith in sym (p ∙ rw (l, drop-length))

module _ (name room : List ℕ) (at r : ℕ) (b : Bool) (e : b ≡ is_plain name) where
  pub unmarked : b ≡ true → r ≡ min at (length room) → Put room at (mark_of name) room r
  unfolding mark_of
  unmarked t h = rw (← e, t) (put_nothing room at r h)

  pub marked : b ≡ false → (after : List ℕ) → Put room at (92 ∷ []) after r → Put room at (mark_of name) after r
  unfolding mark_of
  marked f after p = rw (← e, f) p

-- ---- what escaping makes of a byte, and of a name

-- three bytes become two each, and any other stays
pub escape_cases : (P : ℕ → List ℕ → Type 0) → P 10 (92 ∷ 110 ∷ []) → P 13 (92 ∷ 114 ∷ []) → P 92 (92 ∷ 92 ∷ [])
    → ((x : ℕ) → (x ≡ 10 → ⊥) → (x ≡ 13 → ⊥) → (x ≡ 92 → ⊥) → P x (x ∷ []))
    → (x : ℕ) → P x (escape_of x)
unfolding escape_of letter_of
escape_cases P a b c d x =
    by_case x 10
    (λ e. rw e a)
    (λ u. by_case x 13 (λ e. rw e b) (λ v. by_case x 92 (λ e. rw e c) (λ w. simp (ne_eqb x 10 u, ne_eqb x 13 v, ne_eqb x 92 w) (d x u v w))))

-- a name with nothing to escape stays, and has no mark
pub plain_stays : (name : List ℕ) → is_plain name ≡ true → spread escape_of name ≡ name
unfolding is_plain spread escape_of
plain_stays [] h = refl
plain_stays (x ∷ xs) h =
    by_case (letter_of x) 0
    (λ e. let g : is_plain xs ≡ true = simp (eq-eqb (letter_of x) 0 e) at h in simp (eq-eqb (letter_of x) 0 e, plain_stays xs g))
    (λ n. absurd (true≢false (sym (simp (ne_eqb (letter_of x) 0 n) at h))))

module _ (name : List ℕ) where
  pub mark_none : is_plain name ≡ true → mark_of name ≡ []
  unfolding mark_of
  mark_none h = rw h

  pub mark_one : is_plain name ≡ false → mark_of name ≡ 92 ∷ []
  unfolding mark_of
  mark_one h = rw h
