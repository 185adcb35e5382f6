-- Names in a line, escaped as `sha256sum` does. Assumes nothing.
use Rattle.std.specs.Prelude.{ℕ, Bool, true, false, cond, List, [], ◌∷◌, eqb}

-- what stands behind the backslash: `n` for a line end, `r` for a carriage return, a backslash for a backslash, and 0 for any other byte
unfoldable pub letter_of : ℕ → ℕ
letter_of x = cond (eqb x 10) 110 (cond (eqb x 13) 114 (cond (eqb x 92) 92 0))

unfoldable pub escape_of : ℕ → List ℕ
escape_of x = cond (eqb (letter_of x) 0) (x ∷ []) (92 ∷ letter_of x ∷ [])

-- whether no byte is escaped
unfoldable pub is_plain : List ℕ → Bool
is_plain [] = true
is_plain (x ∷ xs) = cond (eqb (letter_of x) 0) (is_plain xs) false

-- a backslash in front of the line tells that its name is escaped
unfoldable pub mark_of : List ℕ → List ℕ
mark_of name = cond (is_plain name) [] (92 ∷ [])
