-- The refusal numbers, and which comes first. Assumes nothing.
use Rattle.std.specs.Prelude.{◌≡◌, ℕ, zero, suc, ◌-◌, ◌^◌, ◌≤◌, Bool, true, false, not, ◌&&◌, ◌⊎◌, List, [], ◌∷◌, ◌==◌, nat_lt}

infix 20 ◌when◌
-- a refusal and the condition under which it is given
pub data Refusal : Type 0 where
  ◌when◌ : ℕ → Bool → Refusal

-- the first of a list whose condition holds; 0, no refusal, where none does. The lists stand in the order of the numbers
abbrev pub first_of : List Refusal → ℕ
first_of [] = 0
first_of ((n when true) ∷ rest) = n
first_of ((n when false) ∷ rest) = first_of rest

-- the list has the number, with a condition that holds
abbrev pub Applies : ℕ → List Refusal → Type 0
Applies number [] = ⊥
Applies number ((n when condition) ∷ rest) = ((number ≡ n) × (condition ≡ true)) ⊎ Applies number rest

-- the number is the lowest of those that apply, and 0 where none does. The order of the list plays no part
pub data Lowest (number : ℕ) (l : List Refusal) : Type 0 where
  lowest : Applies number l → ((other : ℕ) → Applies other l → number ≤ other) → Lowest number l
  none : number ≡ 0 → ((other : ℕ) → Applies other l → ⊥) → Lowest number l

-- the numbers of a list rise, each above the one before it and the first above a given one, whatever the conditions
abbrev pub ascends : ℕ → List Refusal → Bool
ascends below [] = true
ascends below ((n when condition) ∷ rest) = nat_lt below n && ascends n rest

-- what is left behind: the first where nothing is refused, the second where something is
abbrev pub unless : {A : Type 0} → ℕ → A → A → A
unless zero done kept = done
unless (suc n) done kept = kept

-- 2: the salt is not 16 bytes
abbrev pub no_salt : ℕ → Bool
no_salt length = not (length == 16)

-- 7: the starting counter is above 2^64 - 161
abbrev pub counter_too_high : ℕ → Bool
counter_too_high counter = nat_lt (2 ^ 64 - 161) counter
