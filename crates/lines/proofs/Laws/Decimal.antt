-- Digits that are found from the last one on. Assumes nothing.
use mathlib.Core.Path.{◌≡◌, ◌∙◌, refl}
use mathlib.Core.Bool.{Bool, true, false, cond}
use mathlib.Core.List.{List, [], ◌∷◌, ◌++◌, append_assoc}
use Prim.Native.Nat.{ℕ, zero, suc, ◌+◌, ◌-◌, ◌/◌, ◌%◌, ◌<◌, ◌≤◌, ◌^◌}
use native.Mathlib.Nat.{pow-succ'}
use native.Mathlib.Numerals.{sub-one}
use native.Mathlib.Omega.{arith}
use borrow.Author.Tests.{ne_eqb}
use lib.Dec.{eqb}
use lib.ListN.{drop, drop_of_length-le, get_or, length, length-append, length-drop, length-set, set, take}
use lib.Seq.{drop-cons, drop-set-lt, get_or-set_same, take_all}
use Rattle.lines.specs.Decimal.{decimal_of, significant}
use Rattle.lines.specs.Lines.{Put}

-- the digit d is stored before those that were found
stored : (digits : List ℕ) (i d : ℕ) → i < length digits → drop i (set digits i d) ≡ d ∷ drop (suc i) digits
stored digits i d h =
    let g : i < length (set digits i d) = simp length-set h in
    rw (drop-cons (set digits i d) i 0 g, get_or-set_same digits i d 0 h, drop-set-lt (suc i) digits i d (omega arith))

pub first_found : (digits : List ℕ) (n d : ℕ) → length digits ≡ 20 → d ≡ 48 + n % 10
    → decimal_of n ≡ significant 19 (n / 10) ++ drop 19 (set digits 19 d)
unfolding decimal_of
first_found digits n d h e =
    let g : drop 20 digits ≡ [] = drop_of_length-le digits {i = 20} (omega arith) in
    rw (stored digits 19 d (omega arith), g, e)

pub first_rest : (n : ℕ) → n < 2 ^ 64 → n / 10 < 10 ^ 19
first_rest n h = omega arith

few_left : (from rest : ℕ) → 0 < rest → rest < 10 ^ from → 1 ≤ from
few_left zero rest h g = omega arith
few_left (suc k) rest h g = omega arith

fewer : (from rest : ℕ) → 0 < rest → rest < 10 ^ from → rest / 10 < 10 ^ (from - 1)
fewer zero rest h g = omega arith
fewer (suc k) rest h g = rw (sub-one (suc k)) (omega (arith, pow-succ' 10 k))

one_more : (from rest : ℕ) (digits : List ℕ) (d : ℕ) → 0 < rest → rest < 10 ^ from → from ≤ length digits → d ≡ 48 + rest % 10
    → significant from rest ++ drop from digits ≡ significant (from - 1) (rest / 10) ++ drop (from - 1) (set digits (from - 1) d)
unfolding significant
one_more zero rest digits d h g l e = absurd (omega arith)
one_more (suc k) rest digits d h g l e =
    rw (sub-one (suc k), stored digits k d (omega arith), e) (simp (ne_eqb rest 0 (λ z. omega arith), append_assoc))

module _ (n from rest : ℕ) (digits : List ℕ) (left : 0 < rest) (few : rest < 10 ^ from) where
  pub more_to_find : 1 ≤ from
  more_to_find = few_left from rest left few

  pub next_rest : rest / 10 < 10 ^ (from - 1)
  next_rest = fewer from rest left few

  pub next_found : (d : ℕ) → from ≤ 19 → length digits ≡ 20 → d ≡ 48 + rest % 10 → decimal_of n ≡ significant from rest ++ drop from digits
      → decimal_of n ≡ significant (from - 1) (rest / 10) ++ drop (from - 1) (set digits (from - 1) d)
  next_found d h l e p = p ∙ one_more from rest digits d left few (omega arith) e

none_left : (from : ℕ) → significant from 0 ≡ []
unfolding significant
none_left zero = refl
none_left (suc k) = refl

pub all_found : (n from rest : ℕ) (digits room : List ℕ) (at : ℕ) (after : List ℕ) (r : ℕ) → rest ≤ 0 → length digits ≡ 20
    → decimal_of n ≡ significant from rest ++ drop from digits
    → Put room at (take (20 - from) (drop from digits)) after r → Put room at (decimal_of n) after r
all_found n from rest digits room at after r z l e p =
    let g : rest ≡ 0 = omega arith in
    let h : take (20 - from) (drop from digits) ≡ drop from digits = take_all (20 - from) (drop from digits) (simp length-drop (omega arith)) in
    rw (e, g, none_left from, ← h) p

-- ---- a number of three digits

pub three_digits : (n : ℕ) → 100 ≤ n → n < 1000 → decimal_of n ≡ (48 + n / 10 / 10 % 10) ∷ (48 + n / 10 % 10) ∷ (48 + n % 10) ∷ []
unfolding decimal_of significant
three_digits n h g =
    let z : n / 10 / 10 / 10 ≡ 0 = omega arith in
    rw z
    (simp (ne_eqb (n / 10) 0 (λ e. omega arith), ne_eqb (n / 10 / 10) 0 (λ e. omega arith)))

-- ---- how many digits there are

shorter : (t : Bool) (x y : List ℕ) (m : ℕ) → length x ≤ m → length y ≤ m → length (cond t x y) ≤ m
shorter true x y m p q = p
shorter false x y m p q = q

few_significant : (k n : ℕ) → length (significant k n) ≤ k
unfolding significant
few_significant zero n = omega arith
few_significant (suc k) n =
    shorter (eqb n 0) [] (significant k (n / 10) ++ ((48 + n % 10) ∷ [])) (suc k) (omega arith)
    (simp length-append (omega (arith, few_significant k (n / 10))))

pub few_digits : (n : ℕ) → length (decimal_of n) ≤ 20
unfolding decimal_of
few_digits n = simp length-append (omega (arith, few_significant 19 (n / 10)))

-- ---- what is found are digits

abbrev Digits : List ℕ → Type 0
Digits [] = Unit {0}
Digits (x ∷ xs) = ((48 ≤ x) × (x ≤ 57)) × Digits xs

digits_join : (xs ys : List ℕ) → Digits xs → Digits ys → Digits (xs ++ ys)
digits_join [] ys p q = q
digits_join (x ∷ xs) ys p q = (p.0, digits_join xs ys p.1 q)

last_is_digit : (n : ℕ) → Digits ((48 + n % 10) ∷ [])
last_is_digit n = ((omega arith, omega arith), tt)

significant_digits : (k n : ℕ) → Digits (significant k n)
unfolding significant
significant_digits zero n = tt
significant_digits (suc k) n = by (eqb n 0) (digits_join (significant k (n / 10)) ((48 + n % 10) ∷ []) (significant_digits k (n / 10)) (last_is_digit n))
  where
    by : (t : Bool) → Digits (significant k (n / 10) ++ ((48 + n % 10) ∷ [])) → Digits (cond t [] (significant k (n / 10) ++ ((48 + n % 10) ∷ [])))
    by true d = tt
    by false d = d

digit_at : (l : List ℕ) → Digits l → (k : ℕ) → k < length l → (48 ≤ get_or l k 0) × (get_or l k 0 ≤ 57)
digit_at [] d k h = absurd (omega arith)
digit_at (x ∷ xs) d zero h = d.0
digit_at (x ∷ xs) d (suc k) h = digit_at xs d.1 k (omega arith)

pub decimal_digits : (n k : ℕ) → k < length (decimal_of n) → (48 ≤ get_or (decimal_of n) k 0) × (get_or (decimal_of n) k 0 ≤ 57)
unfolding decimal_of
decimal_digits n =
    digit_at (decimal_of n) (digits_join (significant 19 (n / 10)) ((48 + n % 10) ∷ []) (significant_digits 19 (n / 10)) (last_is_digit n))

pub some_digit : (n : ℕ) → 1 ≤ length (decimal_of n)
unfolding decimal_of
some_digit n = omega (arith, length-append (significant 19 (n / 10)) ((48 + n % 10) ∷ []))
