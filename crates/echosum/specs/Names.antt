-- Names in a list, some of them escaped as `lines` escapes them. Assumes nothing.
use Rattle.std.specs.Prelude.{ℕ, Bool, true, false, cond, not, List, [], ◌∷◌, ◌++◌, eqb, length, Option, None, Some, is_none, unwrap_or}
use Rattle.echosum.specs.Bytes.{holds_of}

-- the byte that a letter behind a backslash stands for: `n` a line end, `r` a carriage return, a backslash a backslash; none for any other byte
unfoldable pub meant_by : ℕ → Option ℕ
meant_by y = cond (eqb y 110) (Some 10) (cond (eqb y 114) (Some 13) (cond (eqb y 92) (Some 92) None))

-- ---- from the left; a flag tells whether the byte before was a backslash that begins an escape

-- whether this byte is one
abbrev pub opens_at : Bool → ℕ → Bool
opens_at opened x = cond opened false (eqb x 92)

-- whether this byte is no letter, though an escape begins before it
abbrev pub fault_at : Bool → ℕ → Bool
fault_at opened x = cond opened (is_none (meant_by x)) false

-- what this byte leaves of the text when escapes are undone; a zero byte where it is no letter
abbrev pub undone_at : Bool → ℕ → List ℕ
undone_at opened x = cond opened (unwrap_or (meant_by x) 0 ∷ []) (cond (eqb x 92) [] (x ∷ []))

unfoldable pub are_escapes_from : Bool → List ℕ → Bool
are_escapes_from opened [] = not opened
are_escapes_from opened (x ∷ xs) = cond (fault_at opened x) false (are_escapes_from (opens_at opened x) xs)

unfoldable pub unescaped_from : Bool → List ℕ → List ℕ
unescaped_from opened [] = []
unescaped_from opened (x ∷ xs) = undone_at opened x ++ unescaped_from (opens_at opened x) xs

-- ---- whole texts

-- whether every escape is one that can be undone
unfoldable pub are_escapes : List ℕ → Bool
are_escapes text = are_escapes_from false text

-- a text with its escapes undone
unfoldable pub unescaped : List ℕ → List ℕ
unescaped text = unescaped_from false text

-- whether a text can stand for a name, where it is escaped and where it is not
unfoldable pub is_name : Bool → List ℕ → Bool
is_name escaped text = cond (eqb (length text) 0) false (cond (holds_of 0 text) false (cond escaped (are_escapes text) true))
