-- Section 5 as it is printed, word by word. No contract cites it: the general compression, with a chaining variable of 32 and of 64 bytes, is proved equal
-- to it. Assumes nothing.
use Rattle.std.specs.Prelude.{ℕ, List, ◌++◌}
use Rattle.aes_round.specs.Bytes.{xor_bytes}
use Rattle.echo.specs.Square.{rounds, word}

infixl 30 ◌⊕◌
-- two words xored
abbrev pub ◌⊕◌ : List ℕ → List ℕ → List ℕ
a ⊕ b = xor_bytes 16 a b

-- a row of the square as it is printed
pub data Row : Type 0 where
  row : List ℕ → List ℕ → List ℕ → List ℕ → Row

-- the square of four rows: it stands column by column
unfoldable pub table : Row → Row → Row → Row → List ℕ
table (row a e i m) (row b f j n) (row c g k o) (row d h l p) =
    a ++ (b ++ (c ++ (d
    ++ (e ++ (f ++ (g ++ (h
    ++ (i ++ (j ++ (k ++ (l
    ++ (m ++ (n ++ (o ++ p))))))))))))))

-- ---- 5.1, up to 256 bits: the chaining variable is v0 || v1 and the message block m0 || .. || m13

unfoldable pub loading51 : (ℕ → List ℕ) → (ℕ → List ℕ) → List ℕ
loading51 v m =
    table
    (row (v 0) (m 2) (m 6) (m 10))
    (row (v 1) (m 3) (m 7) (m 11))
    (row (m 0) (m 4) (m 8) (m 12))
    (row (m 1) (m 5) (m 9) (m 13))

unfoldable pub output51 : (ℕ → List ℕ) → (ℕ → List ℕ) → (ℕ → List ℕ) → List ℕ
output51 v m w =
    let x0 = v 0 ⊕ m 2 ⊕ m 6 ⊕ m 10 ⊕ w 0 ⊕ w 4 ⊕ w 8 ⊕ w 12 in
    let x1 = v 1 ⊕ m 3 ⊕ m 7 ⊕ m 11 ⊕ w 1 ⊕ w 5 ⊕ w 9 ⊕ w 13 in
    let x2 = m 0 ⊕ m 4 ⊕ m 8 ⊕ m 12 ⊕ w 2 ⊕ w 6 ⊕ w 10 ⊕ w 14 in
    let x3 = m 1 ⊕ m 5 ⊕ m 9 ⊕ m 13 ⊕ w 3 ⊕ w 7 ⊕ w 11 ⊕ w 15 in
    (x0 ⊕ x2) ++ (x1 ⊕ x3)

unfoldable pub compress51 : (ℕ → List ℕ) → List ℕ → List ℕ → List ℕ → List ℕ
compress51 key salt chaining block =
    output51 (word chaining) (word block) (word (rounds 8 key salt (loading51 (word chaining) (word block))))

-- ---- 5.2, above 256 bits: the chaining variable is v0 || .. || v3 and the message block m0 || .. || m11

unfoldable pub loading52 : (ℕ → List ℕ) → (ℕ → List ℕ) → List ℕ
loading52 v m =
    table
    (row (v 0) (m 0) (m 4) (m 8))
    (row (v 1) (m 1) (m 5) (m 9))
    (row (v 2) (m 2) (m 6) (m 10))
    (row (v 3) (m 3) (m 7) (m 11))

unfoldable pub output52 : (ℕ → List ℕ) → (ℕ → List ℕ) → (ℕ → List ℕ) → List ℕ
output52 v m w =
    (v 0 ⊕ m 0 ⊕ m 4 ⊕ m 8 ⊕ w 0 ⊕ w 4 ⊕ w 8 ⊕ w 12)
    ++ ((v 1 ⊕ m 1 ⊕ m 5 ⊕ m 9 ⊕ w 1 ⊕ w 5 ⊕ w 9 ⊕ w 13)
    ++ ((v 2 ⊕ m 2 ⊕ m 6 ⊕ m 10 ⊕ w 2 ⊕ w 6 ⊕ w 10 ⊕ w 14)
    ++ (v 3 ⊕ m 3 ⊕ m 7 ⊕ m 11 ⊕ w 3 ⊕ w 7 ⊕ w 11 ⊕ w 15)))

unfoldable pub compress52 : (ℕ → List ℕ) → List ℕ → List ℕ → List ℕ → List ℕ
compress52 key salt chaining block =
    output52 (word chaining) (word block) (word (rounds 10 key salt (loading52 (word chaining) (word block))))
