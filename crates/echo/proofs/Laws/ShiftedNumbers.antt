-- BIG.ShiftRows on the numbers of the square, where BIG.MixColumns reads them. Assumes nothing.
use Rattle.std.proofs.Common.{◌≡◌, ℕ, ◌+◌, ◌*◌, ◌%◌, ◌<◌, ◌≤◌, List, [], ◌∷◌, length, get_or, sym, ap, ◌∙◌, arith, lit<, w32, Fits}
use Rattle.aes_round.specs.ByTables.{mix_numbers}
use Rattle.aes_round.specs.Numbers.{bytes_of, numbers}
use Rattle.aes_round.proofs.Promises.{bytes_of_bytes, bytes_of_numbers, get_or-numbers, numbers_of_bytes, shift_bytes}
use Rattle.echo.specs.Square.{big_mix_columns, big_shift_rows}
use Rattle.echo.proofs.Laws.MixedNumbers.{Stored, all_stored, next_stored}
use Rattle.echo.proofs.Laws.SquareNumbers.{four_by, number_of, numbers_of_word, put_by}
use Rattle.echo.proofs.Laws.Words.{shifted_word}

-- the numbers of a square of the numbers s, its rows shifted
abbrev pub shifted : List ℕ → List ℕ
shifted s = numbers 64 (big_shift_rows (bytes_of 64 s))

-- the four of a column where they come from: the word i from i columns further on
abbrev pub four_from : List ℕ → ℕ → List ℕ
four_from s at = get_or s at 0 ∷ get_or s ((at + 20) % 64) 0 ∷ get_or s ((at + 40) % 64) 0 ∷ get_or s ((at + 60) % 64) 0 ∷ []

module _ (s : List ℕ) (long : length s ≡ 64) (fit : (k : ℕ) → Fits w32 (get_or s k 0)) where
  module _ (c j : ℕ) (hc : c < 4) (hj : j < 4) where
    -- the number j of the word i in the column c
    comes_from : (i at from : ℕ) → i < 4 → at ≡ 16 * c + j + 4 * i → from ≡ 4 * (5 * (4 * c + i) % 16) + j → get_or s from 0 ≡ get_or (shifted s) at 0
    comes_from i at from hi ea ef =
        let square = bytes_of 64 s in
        let place = 4 * (5 * (4 * c + i) % 16) + j in
        ap (λ (k : ℕ). get_or s k 0) ef
        ∙ ap (λ (l : List ℕ). get_or l place 0) (sym (numbers_of_bytes 64 s long (λ k. (fit k).fits)))
        ∙ get_or-numbers 64 square place (omega arith)
        ∙ sym (numbers_of_word square (5 * (4 * c + i) % 16) j hj)
        ∙ ap (λ (w : List ℕ). get_or (numbers 4 w) j 0) (sym (shifted_word square (4 * c + i) (omega arith)))
        ∙ numbers_of_word (big_shift_rows square) (4 * c + i) j hj
        ∙ ap (number_of (big_shift_rows square)) (sym (ea ∙ apart))
        ∙ sym (get_or-numbers 64 (big_shift_rows square) at (omega arith))
      where
        apart : 16 * c + j + 4 * i ≡ 4 * (4 * c + i) + j
        apart = omega arith

    four_from_lem : four_from s (16 * c + j) ≡ four_by 4 (shifted s) (16 * c + j)
    four_from_lem =
        rw (
          comes_from 0 (16 * c + j) (16 * c + j) (lit< tt) (omega arith) (omega arith),
          comes_from 1 (16 * c + j + 4) ((16 * c + j + 20) % 64) (lit< tt) (omega arith) (omega arith),
          comes_from 2 (16 * c + j + 8) ((16 * c + j + 40) % 64) (lit< tt) (omega arith) (omega arith),
          comes_from 3 (16 * c + j + 12) ((16 * c + j + 60) % 64) (lit< tt) (omega arith) (omega arith),
        )

  -- a turn of the inner loop
  pub next_shifted : (c j : ℕ) (r v : List ℕ) → Stored (shifted s) (16 * j + 4 * c) r → c < 4 → j < 4 → v ≡ mix_numbers (four_from s (16 * c + j))
      → Stored (shifted s) (16 * j + 4 * (c + 1)) (put_by 4 r (16 * c + j) v)
  next_shifted c j r v S hc hj ev = next_stored (shifted s) c j r v S hc hj (ev ∙ ap mix_numbers (four_from_lem c j hc hj))

pub all_shifted : (s : List ℕ) (j : ℕ) (r : List ℕ) → Stored (shifted s) (16 * j) r → 4 ≤ j → r ≡ numbers 64 (big_mix_columns (big_shift_rows (bytes_of 64 s)))
unfolding big_shift_rows
all_shifted s j r S h =
    all_stored (shifted s) j r S h
    ∙ ap (λ (q : List ℕ). numbers 64 (big_mix_columns q)) (bytes_of_numbers 64 _ (shift_bytes 16 (bytes_of 64 s) (bytes_of_bytes 64 s)))
