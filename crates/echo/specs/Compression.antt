-- Sections 3, 4 and 5: compression, over the size c of the chaining variable in bytes and the number n of rounds. Assumes nothing.
use Rattle.std.specs.Prelude.{ℕ, zero, suc, ◌+◌, ◌*◌, ◌/◌, List, ◌++◌, length, slice_index}
use Rattle.aes_round.specs.Bytes.{tab, xor, xor_bytes}
use Rattle.echo.specs.Square.{rounds}

-- f 0 xored with f 1 and so on, n of them
abbrev pub xor_sum : ℕ → (ℕ → ℕ) → ℕ
xor_sum zero f = 0
xor_sum (suc n) f = xor (xor_sum n f) (f n)

-- the fold of a list to c bytes: its parts of c bytes xored. Of a square, c = 32 gives two words, word i the xor of w_i, w_{i+2} and so on
-- to w_{i+14}; c = 64 gives four, word i the xor of w_i, w_{i+4}, w_{i+8} and w_{i+12}; c = 128 gives eight, word i the xor of w_i and w_{i+8}
unfoldable pub fold : ℕ → List ℕ → List ℕ
fold c s = tab c (λ k. xor_sum (length s / c) (λ j. slice_index s (c * j + k)))

-- 3.4, 4, 5: BIG.Final: the chaining variable v, xored with the words of the message block m and with the final words of the square
unfoldable pub big_final : ℕ → List ℕ → List ℕ → List ℕ → List ℕ
big_final c v m final = xor_bytes c (xor_bytes c v (fold c m)) (fold c final)

-- 3, 4, 5: the chaining variable and the message block are loaded into the square, v first; n rounds; BIG.Final
unfoldable pub compress : ℕ → ℕ → (ℕ → List ℕ) → List ℕ → List ℕ → List ℕ → List ℕ
compress c n key salt v m = big_final c v m (rounds n key salt (v ++ m))
