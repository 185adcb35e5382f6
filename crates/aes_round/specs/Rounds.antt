-- FIPS 197, sections 5.1 and 5.3: the four steps of a round on a word of sixteen bytes, the round, and the way back. Assumes nothing.
-- Row shift and column mix are stated over the width w of an entry: w = 1 is the AES state.
use Rattle.std.specs.Prelude.{List, ℕ, ◌+◌, ◌*◌, ◌/◌, ◌%◌, ◌-◌, get_or}
use Rattle.aes_round.specs.Bytes.{tab, xor_bytes}
use Rattle.aes_round.specs.Array.{entry, array, column}
use Rattle.aes_round.specs.Substitution.{sub_byte, sub_byte_back}
use Rattle.aes_round.specs.Mixing.{forward, backward, mix_column}

-- 5.1.1
unfoldable pub sub_bytes : List ℕ → List ℕ
sub_bytes s = tab 16 (λ k. sub_byte (get_or s k 0))

-- 5.1.2: row i is turned by i places to the left: the entry in row i, column j comes from column i + j (mod 4)
abbrev pub shift_from : ℕ → ℕ
shift_from e = e % 4 + 4 * ((e % 4 + e / 4) % 4)

unfoldable pub shift_rows : ℕ → List ℕ → List ℕ
shift_rows w s = array w (λ e b. entry w s (shift_from e) b)

-- 5.1.3: each column times the matrix m, at each byte position of an entry
unfoldable pub mix_columns : ℕ → List ℕ → List ℕ → List ℕ
mix_columns w m s = array w (λ e b. get_or (mix_column m (column w s (e / 4) b)) (e % 4) 0)

-- 5.1.4
unfoldable pub add_round_key : List ℕ → List ℕ → List ℕ
add_round_key s k = xor_bytes 16 s k

-- 5.1: one full round
unfoldable pub aes_round : List ℕ → List ℕ → List ℕ
aes_round s k = add_round_key (mix_columns 1 forward (shift_rows 1 (sub_bytes s))) k

-- 5.3.1: row i is turned by i places to the right
abbrev pub shift_back_from : ℕ → ℕ
shift_back_from e = e % 4 + 4 * ((e / 4 + 4 - e % 4) % 4)

unfoldable pub shift_rows_back : ℕ → List ℕ → List ℕ
shift_rows_back w s = array w (λ e b. entry w s (shift_back_from e) b)

-- 5.3.2
unfoldable pub sub_bytes_back : List ℕ → List ℕ
sub_bytes_back s = tab 16 (λ k. sub_byte_back (get_or s k 0))

-- 5.3: the round's steps undone, the last first; 5.3.3 is the mix by `backward`, and 5.3.4 adds the same key
unfoldable pub aes_round_back : List ℕ → List ℕ → List ℕ
aes_round_back s k = sub_bytes_back (shift_rows_back 1 (mix_columns 1 backward (add_round_key s k)))
