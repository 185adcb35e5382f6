-- Sections 1 and 3: the square S, sixteen words of 16 bytes in a 4 by 4 array column by column, and the rounds. Assumes nothing.
-- The square is the array of FIPS 197 with entries of 16 bytes.
use Rattle.std.specs.Prelude.{ℕ, zero, suc, ◌+◌, ◌*◌, ◌/◌, ◌%◌, ◌^◌, List, [], ◌∷◌, ◌++◌, replicate, slice_index}
use Rattle.aes_round.specs.Array.{array, entry}
use Rattle.aes_round.specs.Bytes.{tab}
use Rattle.aes_round.specs.Mixing.{backward, forward, mix_column}
use Rattle.aes_round.specs.Rounds.{aes_round, aes_round_back, mix_columns, shift_rows, shift_rows_back}
use Rattle.echo.specs.Numbers.{little_endian}

-- the word w_i
unfoldable pub word : List ℕ → ℕ → List ℕ
word s i = tab 16 (λ b. entry 16 s i b)

-- 3.1: the subkey k_1 of the 64-bit internal counter κ: κ and 64 zero bits
unfoldable pub counter_key : ℕ → List ℕ
counter_key κ = little_endian 8 κ ++ replicate 8 0

-- 3.1: BIG.SubWords: each word goes through two AES rounds, with the subkeys k_1 = key i and k_2 = salt
unfoldable pub big_sub_words : (ℕ → List ℕ) → List ℕ → List ℕ → List ℕ
big_sub_words key salt s = array 16 (λ i b. slice_index (aes_round (aes_round (word s i) (key i)) salt) b)

-- 3.2: BIG.ShiftRows, the exact analogue of ShiftRows: the word at i + 4 j comes from i + 4 ((i + j) mod 4)
unfoldable pub big_shift_rows : List ℕ → List ℕ
big_shift_rows s = shift_rows 16 s

-- 3.3: BIG.MixColumns, the exact analogue of MixColumns, on 64 columns each a byte wide
unfoldable pub big_mix_columns : List ℕ → List ℕ
big_mix_columns s = mix_columns 16 forward s

-- 3: BIG.Round
unfoldable pub big_round : (ℕ → List ℕ) → List ℕ → List ℕ → List ℕ
big_round key salt s = big_mix_columns (big_shift_rows (big_sub_words key salt s))

-- 3, 3.1: n rounds. The internal counter rises by one after each word, through all rounds, so that word i of round r, both from 0, is
-- the word number 16 r + i of the run: `key` gives the subkey k_1 of each number
unfoldable pub rounds : ℕ → (ℕ → List ℕ) → List ℕ → List ℕ → List ℕ
rounds zero key salt s = s
rounds (suc n) key salt s = big_round (λ i. key (16 * n + i)) salt (rounds n key salt s)

-- 3.1: the subkeys of a run whose internal counter is initialised with C
abbrev pub keys_from : ℕ → ℕ → List ℕ
keys_from C number = counter_key (C + number)

-- 3.1: the subkey k_1 of the 128-bit internal counter κ: κ itself
unfoldable pub wide_key : ℕ → List ℕ
wide_key κ = little_endian 16 κ

-- 3.1: the subkeys of a run whose 128-bit internal counter is initialised with C, and incremented modulo 2^128
abbrev pub wide_keys_from : ℕ → ℕ → List ℕ
wide_keys_from C number = wide_key ((C + number) % 2 ^ 128)

-- the way back: each step undone, the last round first
unfoldable pub big_sub_words_back : (ℕ → List ℕ) → List ℕ → List ℕ → List ℕ
big_sub_words_back key salt s = array 16 (λ i b. slice_index (aes_round_back (aes_round_back (word s i) salt) (key i)) b)

unfoldable pub big_shift_rows_back : List ℕ → List ℕ
big_shift_rows_back s = shift_rows_back 16 s

unfoldable pub big_mix_columns_back : List ℕ → List ℕ
big_mix_columns_back s = mix_columns 16 backward s

unfoldable pub big_round_back : (ℕ → List ℕ) → List ℕ → List ℕ → List ℕ
big_round_back key salt s = big_sub_words_back key salt (big_shift_rows_back (big_mix_columns_back s))

unfoldable pub rounds_back : ℕ → (ℕ → List ℕ) → List ℕ → List ℕ → List ℕ
rounds_back zero key salt s = s
rounds_back (suc n) key salt s = rounds_back n key salt (big_round_back (λ i. key (16 * n + i)) salt s)

-- ---- a step of the code, which only contracts of private functions cite

-- 3.3: one column of the square, four words in a row, times the matrix m at each byte position
unfoldable pub mix_words : List ℕ → List ℕ → List ℕ
mix_words m c = tab 64 (λ k. slice_index (mix_column m (slice_index c (k % 16) ∷ slice_index c (16 + k % 16) ∷ slice_index c (32 + k % 16) ∷ slice_index c (48 + k % 16) ∷ [])) (k / 16))
