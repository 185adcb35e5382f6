-- Lists of which every byte, or bit, is zero. Assumes nothing.
use Rattle.std.proofs.Common.{◌≡◌, ℕ, zero, suc, ◌+◌, ◌-◌, ◌≤◌, Bool, true, false, ◌&&◌, eqb, List, [], ◌∷◌, ◌++◌, length, get_or, drop, replicate, sym, refl, ap, ◌∙◌, ap₂, true≢false, arith, get_or-drop, eqb-true}
use Rattle.std.specs.List.{list_all}
use Rattle.echo.specs.Session.{all_zero}

-- a test that came out true came through each of its parts
pub both : (a b : Bool) → (a && b) ≡ true → (a ≡ true) × (b ≡ true)
both true b e = (refl, e)
both false b e = absurd (true≢false (sym e))

pub zeros_are_zero : (k : ℕ) → all_zero (replicate k 0) ≡ true
unfolding all_zero
zeros_are_zero zero = refl
zeros_are_zero (suc k) = zeros_are_zero k

pub zeros_only : (l : List ℕ) → all_zero l ≡ true → l ≡ replicate (length l) 0
unfolding all_zero
zeros_only [] z = refl
zeros_only (x ∷ l) z = let p = both (eqb x 0) (all_zero l) z in ap₂ (λ (y : ℕ) (r : List ℕ). y ∷ r) (eqb-true x 0 p.0) (zeros_only l p.1)

-- one list behind the other
pub zero_append : (xs ys : List ℕ) → all_zero (xs ++ ys) ≡ (all_zero xs && all_zero ys)
unfolding all_zero
zero_append [] ys = refl
zero_append (x ∷ xs) ys = by (eqb x 0) (zero_append xs ys)
  where
    by : (t : Bool) → all_zero (xs ++ ys) ≡ (all_zero xs && all_zero ys) → (t && all_zero (xs ++ ys)) ≡ ((t && all_zero xs) && all_zero ys)
    by true e = e
    by false e = refl

-- from a place on, and at it
pub zero_behind : (n : ℕ) (l : List ℕ) → all_zero l ≡ true → all_zero (drop n l) ≡ true
unfolding all_zero
zero_behind zero l e = e
zero_behind (suc n) [] e = refl
zero_behind (suc n) (x ∷ l) e = zero_behind n l (both (eqb x 0) (all_zero l) e).1

zero_at : (l : List ℕ) (k : ℕ) → all_zero l ≡ true → get_or l k 0 ≡ 0
unfolding all_zero
zero_at [] k e = refl
zero_at (x ∷ l) zero e = eqb-true x 0 (both (eqb x 0) (all_zero l) e).0
zero_at (x ∷ l) (suc k) e = zero_at l k (both (eqb x 0) (all_zero l) e).1

pub zero_from : (w : List ℕ) (u k : ℕ) → all_zero (drop u w) ≡ true → u ≤ k → get_or w k 0 ≡ 0
zero_from w u k e h = ap (λ (i : ℕ). get_or w i 0) (sym (on k h)) ∙ sym (get_or-drop u w (k - u) 0) ∙ zero_at (drop u w) (k - u) e
  where
    on : (k : ℕ) → u ≤ k → u + (k - u) ≡ k
    on k h = omega arith

-- the test of each element
pub zeros_all : (l : List ℕ) → list_all (λ x. eqb x 0) l ≡ all_zero l
unfolding all_zero
zeros_all [] = refl
zeros_all (x ∷ l) = ap (λ (b : Bool). eqb x 0 && b) (zeros_all l)
