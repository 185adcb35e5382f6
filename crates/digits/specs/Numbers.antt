-- Which words are a number, and which number they are. Assumes nothing.
use Rattle.std.specs.Prelude.{cond, ◌&&◌, List, [], ◌∷◌, ℕ, ◌+◌, ◌*◌, leb, length, Option, None, Some, option_and_then}
use Rattle.digits.specs.Hexadecimal.{nibble_of}

-- the value of a decimal digit
unfoldable pub decimal_of : ℕ → Option ℕ
decimal_of x = option_and_then (λ value. cond (leb value 9) (Some value) None) (nibble_of x)

-- the number of decimal digits, behind digits whose number is n
unfoldable pub number_from : ℕ → List ℕ → Option ℕ
number_from n [] = Some n
number_from n (x ∷ xs) = option_and_then (λ value. number_from (10 * n + value) xs) (decimal_of x)

-- one to sixteen decimal digits
unfoldable pub number_of : List ℕ → Option ℕ
number_of word = cond (leb 1 (length word) && leb (length word) 16) (number_from 0 word) None
