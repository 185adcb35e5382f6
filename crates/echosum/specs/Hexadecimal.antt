-- Runs of hex digits. Assumes nothing.
use Rattle.std.specs.Prelude.{ℕ, suc, cond, List, [], ◌∷◌, is_some}
use Rattle.digits.specs.Hexadecimal.{nibble_of}

-- how many bytes at the front of a text are digits
unfoldable pub digits_in : List ℕ → ℕ
digits_in [] = 0
digits_in (x ∷ xs) = cond (is_some (nibble_of x)) (suc (digits_in xs)) 0
