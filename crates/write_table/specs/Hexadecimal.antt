-- Pairs of hex digits. Assumes nothing.
use Rattle.std.specs.Prelude.{ℕ, ◌+◌, ◌*◌, Bool, true, false, cond, ◌&&◌, List, [], ◌∷◌, leb, ltb, unwrap_or}
use Rattle.digits.specs.Hexadecimal.{nibble_of}

-- the value of a digit, `0` to `9` or `a` to `f`, and 16 for any other byte: capitals are none
unfoldable pub value_of : ℕ → ℕ
value_of x = cond (leb x 57) (unwrap_or (nibble_of x) 16) (cond (ltb x 97) 16 (unwrap_or (nibble_of x) 16))

-- whether a text is pairs of digits, and nothing else
unfoldable pub is_hex : List ℕ → Bool
is_hex [] = true
is_hex (x ∷ []) = false
is_hex (x ∷ y ∷ rest) = cond (leb (value_of x) 15 && leb (value_of y) 15) (is_hex rest) false

-- the bytes of pairs of digits
unfoldable pub pairs_of : List ℕ → List ℕ
pairs_of [] = []
pairs_of (x ∷ []) = []
pairs_of (x ∷ y ∷ rest) = (16 * value_of x + value_of y) ∷ pairs_of rest
