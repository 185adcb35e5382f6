-- The values of hex digits, and the bytes of pairs of them. Assumes nothing.
use Rattle.std.specs.Prelude.{ℕ, ◌+◌, ◌-◌, ◌*◌, cond, ◌&&◌, List, [], ◌∷◌, ◌++◌, leb, drop, length, replicate, Option, None, Some, option_and_then}

-- the value of a digit, `0` to `9`, `A` to `F` or `a` to `f`, and none for any other byte
unfoldable pub nibble_of : ℕ → Option ℕ
nibble_of x =
    cond (leb 48 x && leb x 57) (Some (x - 48))
    (cond (leb 65 x && leb x 70) (Some (x - 65 + 10))
    (cond (leb 97 x && leb x 102) (Some (x - 97 + 10)) None))

-- the byte of a pair of digits
unfoldable pub byte_of : ℕ → ℕ → Option ℕ
byte_of x y = option_and_then (λ high. option_and_then (λ low. Some (16 * high + low)) (nibble_of y)) (nibble_of x)

-- the bytes of pairs of digits, behind bytes that are given
unfoldable pub bytes_from : List ℕ → List ℕ → Option (List ℕ)
bytes_from bytes [] = Some bytes
bytes_from bytes (x ∷ []) = None
bytes_from bytes (x ∷ y ∷ rest) = option_and_then (λ byte. bytes_from (bytes ++ (byte ∷ [])) rest) (byte_of x y)

-- at most n pairs; zeros fill the n bytes
unfoldable pub bytes_of : ℕ → List ℕ → Option (List ℕ)
bytes_of n text =
    cond (leb (length text) (2 * n)) (option_and_then (λ bytes. Some (bytes ++ drop (length bytes) (replicate n 0))) (bytes_from [] text)) None
