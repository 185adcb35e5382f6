-- Hex digits. Assumes nothing.
use Rattle.std.specs.Prelude.{ℕ, ◌+◌, ◌/◌, ◌%◌, cond, List, [], ◌∷◌, ltb}

-- the digit of a value below 16: `0` to `9`, then `a` to `f`
abbrev pub digit_of : ℕ → ℕ
digit_of v = cond (ltb v 10) (48 + v) (87 + v)

-- the two digits of a byte
abbrev pub digits_of : ℕ → List ℕ
digits_of x = digit_of (x / 16) ∷ digit_of (x % 16) ∷ []
