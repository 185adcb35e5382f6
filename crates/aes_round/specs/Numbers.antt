-- Four bytes as a number of 32 bits, the least significant first. Assumes nothing.
use Rattle.std.specs.Prelude.{List, ℕ, ◌+◌, ◌*◌, ◌/◌, ◌%◌, ◌^◌, get_or}
use Rattle.aes_round.specs.Bytes.{tab}

-- byte p of a number
unfoldable pub byte_of : ℕ → ℕ → ℕ
byte_of x p = x / 256 ^ p % 256

-- the number whose byte p is f p
unfoldable pub number : (ℕ → ℕ) → ℕ
number f = f 0 + 0x100 * f 1 + 0x10000 * f 2 + 0x1000000 * f 3

-- 4 n bytes as n numbers, and n numbers as 4 n bytes
unfoldable pub numbers : ℕ → List ℕ → List ℕ
numbers n s = tab n (λ k. number (λ p. get_or s (4 * k + p) 0))

unfoldable pub bytes_of : ℕ → List ℕ → List ℕ
bytes_of n l = tab (4 * n) (λ k. byte_of (get_or l (k / 4) 0) (k % 4))
