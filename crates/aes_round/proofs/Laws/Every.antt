-- A fact of every number below a bound, by one test that antt computes. Assumes nothing.
use mathlib.Core.Path.{◌≡◌, subst, sym}
use mathlib.Core.Bool.{Bool, true, false}
use mathlib.Core.Logic.{⊎_elim}
use Prim.Native.Nat.{ℕ, zero, suc, ◌<◌}
use native.Mathlib.Nat.{not-suc-le-zero, eq-or-lt_of_le, le_of_suc-le-suc}
use lib.Dec.{T, eqb, eqb→eq}

abbrev pub both : Bool → Bool → Bool
both true b = b
both false b = false

pub both_left : (a b : Bool) → T (both a b) → T a
both_left true b t = tt
both_left false b t = t

pub both_right : (a b : Bool) → T (both a b) → T b
both_right true b t = t
both_right false b t = absurd t

-- f passes at each number below n
abbrev pub every : (ℕ → Bool) → ℕ → Bool
every f zero = true
every f (suc n) = both (f n) (every f n)

pub below : (f : ℕ → Bool) (n : ℕ) → T (every f n) → (k : ℕ) → k < n → T (f k)
below f zero t k h = absurd (not-suc-le-zero h)
below f (suc n) t k h =
    ⊎_elim (λ e. subst (λ (m : ℕ). T (f m)) (sym e) (both_left (f n) (every f n) t))
    (λ l. below f n (both_right (f n) (every f n) t) k l)
    (eq-or-lt_of_le (le_of_suc-le-suc h))

-- two functions agree below n
abbrev pub Agree : (ℕ → ℕ) → (ℕ → ℕ) → ℕ → Bool
Agree f g n = every (λ k. eqb (f k) (g k)) n

pub agree : (f g : ℕ → ℕ) (n : ℕ) → T (Agree f g n) → (k : ℕ) → k < n → f k ≡ g k
agree f g n t k h = eqb→eq (f k) (g k) (below (λ k. eqb (f k) (g k)) n t k h)
