-- FIPS 197, section 3.4: a 4 by 4 array whose entries stand column by column, entry e in row e % 4 and column e / 4.
-- The AES state has entries of w = 1 byte. The layer above has the same array with entries of w = 16 bytes. Assumes nothing.
use Rattle.std.specs.Prelude.{List, ℕ, ◌+◌, ◌*◌, ◌/◌, ◌%◌, get_or}
use Rattle.aes_round.specs.Bytes.{tab}

-- byte b of entry e
unfoldable pub entry : ℕ → List ℕ → ℕ → ℕ → ℕ
entry w s e b = get_or s (w * e + b) 0

-- the array whose entry e has f e b as its byte b
unfoldable pub array : ℕ → (ℕ → ℕ → ℕ) → List ℕ
array w f = tab (16 * w) (λ k. f (k / w) (k % w))

-- byte b of each of the four entries of column c
unfoldable pub column : ℕ → List ℕ → ℕ → ℕ → List ℕ
column w s c b = tab 4 (λ i. entry w s (4 * c + i) b)
