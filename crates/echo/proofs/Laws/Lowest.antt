-- The first refusal of a list whose numbers ascend is the lowest that applies; a list has one lowest; and where a number is given. Assumes nothing.
use Rattle.std.proofs.Common.{◌≡◌, ℕ, ◌<◌, ◌≤◌, Bool, true, false, ltb, ◌⊎◌, ◌↔◌, List, [], ◌∷◌, ◌++◌, sym, refl, inl, inr, ⊎_elim, true≢false, arith, ltb-true}
use Rattle.echo.specs.Refusals.{Applies, Lowest, Refusal, ◌when◌, ascends, first_of, lowest, none}
use Rattle.echo.proofs.Laws.Zeros.{both}

-- every number of a list that ascends from a number is above it
above : (below : ℕ) (l : List Refusal) → ascends below l ≡ true → (other : ℕ) → Applies other l → below < other
above below [] up other a = absurd a
above below ((n when c) ∷ rest) up other a =
    let p = both (ltb below n) (ascends n rest) up in
    let first = ltb-true below n p.0 in
    ⊎_elim (λ e. omega (arith, e.0)) (λ b. omega (arith, above n rest p.1 other b)) a

lowest_from : (below : ℕ) (l : List Refusal) → ascends below l ≡ true → Lowest (first_of l) l
lowest_from below [] up = none refl (λ other a. a)
lowest_from below ((n when true) ∷ rest) up = lowest (inl (refl, refl)) least
  where
    least : (other : ℕ) → Applies other ((n when true) ∷ rest) → n ≤ other
    least other a = ⊎_elim (λ e. omega (arith, e.0)) (λ b. omega (arith, above n rest (both (ltb below n) _ up).1 other b)) a
lowest_from below ((n when false) ∷ rest) up = by (lowest_from n rest (both (ltb below n) _ up).1)
  where
    later : (other : ℕ) → Applies other ((n when false) ∷ rest) → Applies other rest
    later other a = ⊎_elim (λ e. absurd (true≢false (sym e.1))) (λ b. b) a

    by : Lowest (first_of rest) rest → Lowest (first_of rest) ((n when false) ∷ rest)
    by (lowest p f) = lowest (inr p) (λ other a. f other (later other a))
    by (none p f) = none p (λ other a. f other (later other a))

pub lowest_of : (l : List Refusal) → ascends 0 l ≡ true → Lowest (first_of l) l
lowest_of l up = lowest_from 0 l up

pub one_lowest : (n m : ℕ) (l : List Refusal) → Lowest n l → Lowest m l → n ≡ m
one_lowest n m l (lowest p f) (lowest q g) = omega (arith, f m q, g n p)
one_lowest n m l (lowest p f) (none q g) = absurd (g n p)
one_lowest n m l (none p f) (lowest q g) = absurd (f m q)
one_lowest n m l (none p f) (none q g) = omega (arith, p, q)

-- ---- where a number is given, and where none is

pub none_exactly : (n : ℕ) (c : Bool) (rest : List Refusal) → 0 < n → (first_of ((n when c) ∷ rest) ≡ 0) ↔ ((c ≡ false) × (first_of rest ≡ 0))
none_exactly n true rest some = (λ e. absurd (omega (arith, e)), λ p. absurd (true≢false p.0))
none_exactly n false rest some = (λ e. (refl, e), λ p. p.1)

-- a list that ascends from a number refuses by none that is at most that
beyond : (below : ℕ) (l : List Refusal) → ascends below l ≡ true → (first_of l ≡ 0) ⊎ (below < first_of l)
beyond below [] up = inl refl
beyond below ((n when true) ∷ rest) up = inr (ltb-true below n (both (ltb below n) _ up).0)
beyond below ((n when false) ∷ rest) up =
    let p = both (ltb below n) (ascends n rest) up in
    let first = ltb-true below n p.0 in
    by (beyond n rest p.1) first
  where
    by : (first_of rest ≡ 0) ⊎ (n < first_of rest) → below < n → (first_of rest ≡ 0) ⊎ (below < first_of rest)
    by (inl z) first = inl z
    by (inr l) first = inr (omega arith)

module _ (n : ℕ) (c : Bool) (after : List Refusal) where
  abbrev with : List Refusal → List Refusal
  with before = before ++ (n when c) ∷ after

  higher : (below : ℕ) (before : List Refusal) → ascends below (with before) ≡ true → below < n
  higher below [] up = ltb-true below n (both (ltb below n) _ up).0
  higher below ((m when d) ∷ before) up =
      let p = both (ltb below m) (ascends m (with before)) up in omega (arith, ltb-true below m p.0, higher m before p.1)

  its_own : (t : Bool) → 0 < n → ascends n after ≡ true → first_of ((n when t) ∷ after) ≡ n → t ≡ true
  its_own true some up e = refl
  its_own false some up e = by (beyond n after up)
    where
      by : (first_of after ≡ 0) ⊎ (n < first_of after) → false ≡ true
      by (inl z) = absurd (omega (arith, z, e))
      by (inr l) = absurd (omega (arith, l, e))

  given : (below : ℕ) (before : List Refusal) → ascends below (with before) ≡ true → first_of (with before) ≡ n → (first_of before ≡ 0) × (c ≡ true)
  given below [] up e = (refl, its_own c (omega (arith, higher below [] up)) (both (ltb below n) _ up).1 e)
  given below ((m when true) ∷ before) up e = absurd (omega (arith, e, higher m before (both (ltb below m) _ up).1))
  given below ((m when false) ∷ before) up e = given m before (both (ltb below m) _ up).1 e

  gives : (below : ℕ) (before : List Refusal) → ascends below (with before) ≡ true → (first_of before ≡ 0) × (c ≡ true) → first_of (with before) ≡ n
  gives below [] up p = rw p.1
  gives below ((m when true) ∷ before) up p = absurd (omega (arith, p.0, ltb-true below m (both (ltb below m) _ up).0))
  gives below ((m when false) ∷ before) up p = gives m before (both (ltb below m) _ up).1 p

pub given_exactly : (before after : List Refusal) (n : ℕ) (c : Bool) → ascends 0 (before ++ (n when c) ∷ after) ≡ true
    → (first_of (before ++ (n when c) ∷ after) ≡ n) ↔ ((first_of before ≡ 0) × (c ≡ true))
given_exactly before after n c up = (given n c after 0 before up, gives n c after 0 before up)
