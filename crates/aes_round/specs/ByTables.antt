-- What the path by tables computes, on columns that are numbers of 32 bits. FIPS 197 has no such tables: that a round by them is its round is a
-- theorem, `the_round_by_tables` (proofs/Theorems.antt). Assumes nothing.
use Rattle.std.specs.Prelude.{◌≡◌, List, ℕ, ◌+◌, ◌*◌, ◌%◌, ◌<◌, length, get_or}
use Rattle.aes_round.specs.declared.rows.RowTables.{RowTables}
use Rattle.aes_round.specs.Bytes.{tab, xor}
use Rattle.aes_round.specs.Field.{mul}
use Rattle.aes_round.specs.Substitution.{sub_byte}
use Rattle.aes_round.specs.Mixing.{forward, mix_column}
use Rattle.aes_round.specs.Numbers.{byte_of, number}

-- what a byte b in row i adds to a mixed column: the coefficients of column i of the matrix, times b
unfoldable pub row_number : ℕ → ℕ → ℕ
row_number i b = number (λ j. mul (get_or forward (4 * j + i) 0) b)

-- the table of row i: SubBytes, and then the mix
unfoldable pub row_table : ℕ → List ℕ
row_table i = tab 256 (λ x. row_number i (sub_byte x))

-- all four of them
unfoldable pub row_tables : RowTables
row_tables = record { row_0 = row_table 0; row_1 = row_table 1; row_2 = row_table 2; row_3 = row_table 3 }

-- t is the table of row i where sub is that of the substitution; cited by a private function alone
pub record Follows (i : ℕ) (sub t : List ℕ) : Type 0 where
  pub long : length t ≡ 256
  pub each : (x : ℕ) → x < 256 → get_or t x 0 ≡ row_number i (get_or sub x 0)

-- a column by four tables, one for each row: row 0 from the number a, row 1 from b, row 2 from c, row 3 from d
unfoldable pub table_column : List ℕ → List ℕ → List ℕ → List ℕ → ℕ → ℕ → ℕ → ℕ → ℕ
table_column t u v w a b c d = xor (xor (get_or t (byte_of a 0) 0) (get_or u (byte_of b 1) 0)) (xor (get_or v (byte_of c 2) 0) (get_or w (byte_of d 3) 0))

-- a round by four tables: row i of column j comes from column i + j (mod 4), and the key is added
unfoldable pub table_round : List ℕ → List ℕ → List ℕ → List ℕ → List ℕ → List ℕ → List ℕ
table_round t u v w s k =
    tab 4 (λ j. xor (table_column t u v w (get_or s j 0) (get_or s ((j + 1) % 4) 0) (get_or s ((j + 2) % 4) 0) (get_or s ((j + 3) % 4) 0)) (get_or k j 0))

-- four columns of four bytes, mixed at once: the bytes p of four numbers are a column
unfoldable pub mix_numbers : List ℕ → List ℕ
mix_numbers c = tab 4 (λ i. number (λ p. get_or (mix_column forward (tab 4 (λ k. byte_of (get_or c k 0) p))) i 0))
