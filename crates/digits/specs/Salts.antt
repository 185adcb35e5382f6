-- Which words are a salt, and which salt they are. Assumes nothing.
use Rattle.std.specs.Prelude.{cond, List, [], ℕ, eqb, length, Option, None}
use Rattle.digits.specs.Hexadecimal.{bytes_from}

-- thirty-two hex digits
unfoldable pub salt_of : List ℕ → Option (List ℕ)
salt_of word = cond (eqb (length word) 32) (bytes_from [] word) None
