-- FIPS 197, sections 5.1.3 and 5.3.3: the mix of a column of four bytes, a product with a 4 by 4 matrix over the field. Assumes nothing.
use Rattle.std.specs.Prelude.{List, [], ◌∷◌, ℕ, ◌+◌, ◌*◌, get_or}
use Rattle.aes_round.specs.Bytes.{tab, xor}
use Rattle.aes_round.specs.Field.{mul}

-- 5.1.3, row by row
unfoldable pub forward : List ℕ
forward = 0x02 ∷ 0x03 ∷ 0x01 ∷ 0x01 ∷ 0x01 ∷ 0x02 ∷ 0x03 ∷ 0x01 ∷ 0x01 ∷ 0x01 ∷ 0x02 ∷ 0x03 ∷ 0x03 ∷ 0x01 ∷ 0x01 ∷ 0x02 ∷ []

-- 5.3.3, row by row
unfoldable pub backward : List ℕ
backward = 0x0e ∷ 0x0b ∷ 0x0d ∷ 0x09 ∷ 0x09 ∷ 0x0e ∷ 0x0b ∷ 0x0d ∷ 0x0d ∷ 0x09 ∷ 0x0e ∷ 0x0b ∷ 0x0b ∷ 0x0d ∷ 0x09 ∷ 0x0e ∷ []

-- four coefficients times the column c
unfoldable pub dot : ℕ → ℕ → ℕ → ℕ → List ℕ → ℕ
dot p q r s c = xor (xor (mul p (get_or c 0 0)) (mul q (get_or c 1 0))) (xor (mul r (get_or c 2 0)) (mul s (get_or c 3 0)))

-- the matrix m times the column c
unfoldable pub mix_column : List ℕ → List ℕ → List ℕ
mix_column m c = tab 4 (λ i. dot (get_or m (4 * i) 0) (get_or m (4 * i + 1) 0) (get_or m (4 * i + 2) 0) (get_or m (4 * i + 3) 0) c)
