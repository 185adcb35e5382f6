-- Bytes as they are. Assumes nothing.
use Rattle.std.specs.Prelude.{ℕ, ◌-◌, Bool, true, false, cond, List, [], ◌∷◌, eqb, drop, take}

-- the bytes from a place on, up to another
abbrev pub part : ℕ → ℕ → List ℕ → List ℕ
part from to bytes = take (to - from) (drop from bytes)

-- whether a byte is among those of a text
unfoldable pub holds_of : ℕ → List ℕ → Bool
holds_of byte [] = false
holds_of byte (x ∷ xs) = cond (eqb x byte) true (holds_of byte xs)
