-- Lists of bytes. Assumes nothing.
use Rattle.std.specs.Prelude.{◌≡◌, List, [], ◌∷◌, ℕ, zero, suc, ◌<◌, length, get_or}
use Rattle.std.specs.Int.Bits.{bit_xor}

-- f i, f (i + 1), ..: n of them
abbrev pub tab_from : ℕ → ℕ → (ℕ → ℕ) → List ℕ
tab_from i zero f = []
tab_from i (suc n) f = f i ∷ tab_from (suc i) n f

-- f 0, f 1, .., f (n - 1)
unfoldable pub tab : ℕ → (ℕ → ℕ) → List ℕ
tab n f = tab_from 0 n f

-- l is a list of n bytes; `get_or l k 0` is 0 at each place past the end
pub record Bytes (n : ℕ) (l : List ℕ) : Type 0 where
  pub long : length l ≡ n
  pub small : (k : ℕ) → get_or l k 0 < 256

-- the exclusive-or of two numbers, bit by bit: what the code's `^` computes
unfoldable pub xor : ℕ → ℕ → ℕ
xor a b = bit_xor a b

-- two lists of n bytes xored
unfoldable pub xor_bytes : ℕ → List ℕ → List ℕ → List ℕ
xor_bytes n a b = tab n (λ k. xor (get_or a k 0) (get_or b k 0))
