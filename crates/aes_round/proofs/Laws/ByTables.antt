-- The path by tables: each table follows its rule, and a round by the four tables is the round of FIPS 197. Assumes nothing.
use mathlib.Core.Path.{◌≡◌, refl, sym, ap, ap₂, ◌∙◌}
use mathlib.Core.List.{List, [], ◌∷◌}
use Prim.Native.Nat.{ℕ, zero, suc, ◌+◌, ◌*◌, ◌/◌, ◌%◌, ◌<◌}
use native.Mathlib.Nat.{add-zero, mod-lt}
use native.Mathlib.Omega.{arith}
use lib.Bits.{bit_xor}
use lib.Dec.{T, lit<, ltb, ltb→lt}
use lib.ListN.{length, get_or}
use Rattle.aes_round.specs.declared.rows.RowTables.{RowTables}
use Rattle.aes_round.specs.Bytes.{Bytes, tab, xor, xor_bytes}
use Rattle.aes_round.specs.Array.{array, column, entry}
use Rattle.aes_round.specs.Field.{mul}
use Rattle.aes_round.specs.Mixing.{dot, forward, mix_column}
use Rattle.aes_round.specs.Substitution.{Table, sub_byte}
use Rattle.aes_round.specs.Rounds.{add_round_key, aes_round, mix_columns, shift_rows, sub_bytes}
use Rattle.aes_round.specs.Numbers.{byte_of, number, numbers}
use Rattle.aes_round.specs.ByTables.{Follows, row_number, row_table, row_tables, table_column, table_round}
use Rattle.aes_round.proofs.Laws.Every.{Agree, agree, below, every}
use Rattle.aes_round.proofs.Laws.Bytes.{bytes_below, get_or-tab, is_tab, tab_ext}
use Rattle.aes_round.proofs.Laws.Xor.{code_xor, xor_lt}
use Rattle.aes_round.proofs.Laws.Field.{mul_lt, mul_one_l, mul_three, mul_zero_l}
use Rattle.aes_round.proofs.Laws.Mixing.{forward_bytes, mix_bytes}
use Rattle.aes_round.proofs.Laws.Substitution.{sub_lt, table_at}
use Rattle.aes_round.proofs.Laws.Numbers.{byte_0, byte_number, get_or-numbers, number_ext, xor_number}

-- ---- the tables

-- a byte doubled, and a coefficient of the matrix times a byte by one doubling at most: the test of a table computes these, a small part of the
-- field's own product
abbrev doubled : ℕ → ℕ
doubled b = bit_xor (b * 2 % 256) (b / 128 * 0x1b)

doubled_is : (b : ℕ) → b < 256 → doubled b ≡ mul 2 b
unfolding mul xor
doubled_is = agree doubled (mul 2) 256 tt

abbrev quick : ℕ → ℕ → ℕ
quick zero b = 0
quick (suc zero) b = b
quick (suc (suc zero)) b = doubled b
quick (suc (suc (suc c))) b = bit_xor (doubled b) b

quick_is : (c b : ℕ) → c < 4 → b < 256 → quick c b ≡ mul c b
quick_is zero b hc h = sym (mul_zero_l b)
quick_is (suc zero) b hc h = sym (mul_one_l b h)
quick_is (suc (suc zero)) b hc h = doubled_is b h
quick_is (suc (suc (suc zero))) b hc h = code_xor (doubled b) b ∙ ap (λ (d : ℕ). xor d b) (doubled_is b h) ∙ mul_three b h
quick_is (suc (suc (suc (suc c)))) b hc h = absurd (omega arith)

forward_lt : (k : ℕ) → k < 16 → get_or forward k 0 < 4
unfolding forward
forward_lt k h = ltb→lt _ _ (below (λ k. ltb (get_or forward k 0) 4) 16 tt k h)

abbrev pub quick_row : ℕ → ℕ → ℕ
quick_row i b = number (λ j. quick (get_or forward (4 * j + i) 0) b)

quick_row_lem : (i b : ℕ) → i < 4 → b < 256 → quick_row i b ≡ row_number i b
unfolding row_number
quick_row_lem i b hi h = number_ext _ _ (λ j hj. quick_is (get_or forward (4 * j + i) 0) b (forward_lt (4 * j + i) (omega arith)) h)

-- a table follows where one test over the 256 entries passes
pub follows : (i : ℕ) (sub t : List ℕ) → i < 4 → length t ≡ 256 → T (every (λ x. ltb (get_or sub x 0) 256) 256)
    → T (Agree (λ x. get_or t x 0) (λ x. quick_row i (get_or sub x 0)) 256) → Follows i sub t
follows i sub t hi e bytes test = record {
  long = e;
  each = λ x h.
      agree (λ x. get_or t x 0) (λ x. quick_row i (get_or sub x 0)) 256 test x h
      ∙ quick_row_lem i (get_or sub x 0) hi (ltb→lt (get_or sub x 0) 256 (below (λ x. ltb (get_or sub x 0) 256) 256 bytes x h));
}

row_table_is : (i : ℕ) (sub t : List ℕ) → Follows i sub t → Table sub_byte sub → t ≡ row_table i
unfolding row_table
row_table_is i sub t F rule = is_tab 256 t _ F.long (λ x h. F.each x h ∙ ap (row_number i) (table_at sub_byte sub rule x h))

pub row_tables_are : (sub : List ℕ) (r : RowTables) → Table sub_byte sub → Follows 0 sub r.row_0 → Follows 1 sub r.row_1 → Follows 2 sub r.row_2
    → Follows 3 sub r.row_3 → r ≡ row_tables
unfolding row_tables
row_tables_are sub r rule F G H I =
    four (row_table_is 0 sub _ F rule) (row_table_is 1 sub _ G rule) (row_table_is 2 sub _ H rule) (row_table_is 3 sub _ I rule)
  where
    four : {t u v w t' u' v' w' : List ℕ} → t ≡ t' → u ≡ u' → v ≡ v' → w ≡ w'
        → ◌≡◌ {A = RowTables} (record { row_0 = t; row_1 = u; row_2 = v; row_3 = w })
        (record { row_0 = t'; row_1 = u'; row_2 = v'; row_3 = w' })
    four p q r s = rw (p, q, r, s)

-- and each of the four taken out
module _ (r : RowTables) (e : r ≡ row_tables) where
  pub row_0 : r.row_0 ≡ row_table 0
  unfolding row_tables
  row_0 = ap (λ (t : RowTables). t.row_0) e

  pub row_1 : r.row_1 ≡ row_table 1
  unfolding row_tables
  row_1 = ap (λ (t : RowTables). t.row_1) e

  pub row_2 : r.row_2 ≡ row_table 2
  unfolding row_tables
  row_2 = ap (λ (t : RowTables). t.row_2) e

  pub row_3 : r.row_3 ≡ row_table 3
  unfolding row_tables
  row_3 = ap (λ (t : RowTables). t.row_3) e

pub row_entry : (i x : ℕ) → x < 256 → get_or (row_table i) x 0 ≡ row_number i (sub_byte x)
unfolding row_table
row_entry i x h = get_or-tab 256 _ x h

-- ---- what the code's steps compute

pub column_is : (t u v w : List ℕ) (a b c d : ℕ)
    → bit_xor (bit_xor (get_or t (a % 256) 0) (get_or u (b / 256 % 256) 0)) (bit_xor (get_or v (c / 65536 % 256) 0) (get_or w (d / 16777216 % 256) 0))
    ≡ table_column t u v w a b c d
unfolding table_column byte_of xor
column_is t u v w a b c d =
    ap (λ (q : ℕ). bit_xor (bit_xor (get_or t q 0) (get_or u (b / 256 % 256) 0)) (bit_xor (get_or v (c / 65536 % 256) 0) (get_or w (d / 16777216 % 256) 0)))
    (byte_0 a)

pub round_is : (t u v w s k : List ℕ) (a b c d : ℕ)
    → a ≡ table_column t u v w (get_or s 0 0) (get_or s 1 0) (get_or s 2 0) (get_or s 3 0)
    → b ≡ table_column t u v w (get_or s 1 0) (get_or s 2 0) (get_or s 3 0) (get_or s 0 0)
    → c ≡ table_column t u v w (get_or s 2 0) (get_or s 3 0) (get_or s 0 0) (get_or s 1 0)
    → d ≡ table_column t u v w (get_or s 3 0) (get_or s 0 0) (get_or s 1 0) (get_or s 2 0)
    → bit_xor a (get_or k 0 0) ∷ bit_xor b (get_or k 1 0) ∷ bit_xor c (get_or k 2 0) ∷ bit_xor d (get_or k 3 0) ∷ [] ≡ table_round t u v w s k
unfolding table_round tab xor
round_is t u v w s k a b c d e f g h = rw (e, f, g, h)

-- ---- the round

-- what goes into column j: row i comes from column i + j (mod 4)
abbrev into : List ℕ → ℕ → List ℕ
into s j =
    sub_byte (get_or s (4 * j + 0) 0) ∷ sub_byte (get_or s (4 * ((j + 1) % 4) + 1) 0) ∷ sub_byte (get_or s (4 * ((j + 2) % 4) + 2) 0)
    ∷ sub_byte (get_or s (4 * ((j + 3) % 4) + 3) 0) ∷ []

round_column : (s k : List ℕ) (j : ℕ) → j < 4
    → number (λ p. xor (get_or (mix_column forward (into s j)) p 0) (get_or k (4 * j + p) 0)) ≡ number (λ p. get_or (aes_round s k) (4 * j + p) 0)
unfolding number aes_round add_round_key xor_bytes mix_columns shift_rows sub_bytes array column entry tab
round_column s k zero h = refl
round_column s k (suc zero) h = refl
round_column s k (suc (suc zero)) h = refl
round_column s k (suc (suc (suc zero))) h = refl
round_column s k (suc (suc (suc (suc j)))) h = absurd (omega arith)

four_bytes : (a b c d : ℕ) → a < 256 → b < 256 → c < 256 → d < 256 → Bytes 4 (a ∷ b ∷ c ∷ d ∷ [])
four_bytes a b c d ha hb hc hd = bytes_below 4 (a ∷ b ∷ c ∷ d ∷ []) refl each
  where
    each : (k : ℕ) → k < 4 → get_or (a ∷ b ∷ c ∷ d ∷ []) k 0 < 256
    each zero h = ha
    each (suc zero) h = hb
    each (suc (suc zero)) h = hc
    each (suc (suc (suc zero))) h = hd
    each (suc (suc (suc (suc k)))) h = absurd (omega arith)

-- a byte's part of a column, and the sum of four such parts
part_lt : (i b : ℕ) → b < 256 → (p : ℕ) → p < 4 → mul (get_or forward (4 * p + i) 0) b < 256
part_lt i b h p l = mul_lt _ b (forward_bytes.small (4 * p + i)) h

parts : (a b c d p : ℕ) → p < 4
    → xor (xor (mul (get_or forward (4 * p + 0) 0) a) (mul (get_or forward (4 * p + 1) 0) b))
    (xor (mul (get_or forward (4 * p + 2) 0) c) (mul (get_or forward (4 * p + 3) 0) d))
    ≡ get_or (mix_column forward (a ∷ b ∷ c ∷ d ∷ [])) p 0
unfolding mix_column dot
parts a b c d p l =
    ap (λ (n : ℕ). dot (get_or forward n 0) (get_or forward (4 * p + 1) 0) (get_or forward (4 * p + 2) 0) (get_or forward (4 * p + 3) 0) (a ∷ b ∷ c ∷ d ∷ []))
    (add-zero (4 * p)) ∙ sym (get_or-tab 4 _ p l)

rows_mixed : (a b c d : ℕ) → a < 256 → b < 256 → c < 256 → d < 256
    → xor (xor (row_number 0 a) (row_number 1 b)) (xor (row_number 2 c) (row_number 3 d)) ≡ number (λ p. get_or (mix_column forward (a ∷ b ∷ c ∷ d ∷ [])) p 0)
unfolding row_number
rows_mixed a b c d ha hb hc hd =
    ap₂ xor (xor_number _ _ (part_lt 0 a ha) (part_lt 1 b hb)) (xor_number _ _ (part_lt 2 c hc) (part_lt 3 d hd))
    ∙ xor_number _ _ (λ p l. xor_lt 8 _ _ (part_lt 0 a ha p l) (part_lt 1 b hb p l)) (λ p l. xor_lt 8 _ _ (part_lt 2 c hc p l) (part_lt 3 d hd p l))
    ∙ number_ext _ _ (parts a b c d)

-- a column by the four tables, of numbers whose bytes are a, b, c and d
column_mixed : (a b c d : ℕ → ℕ) → ((p : ℕ) → p < 4 → a p < 256) → ((p : ℕ) → p < 4 → b p < 256) → ((p : ℕ) → p < 4 → c p < 256)
    → ((p : ℕ) → p < 4 → d p < 256)
    → table_column (row_table 0) (row_table 1) (row_table 2) (row_table 3) (number a) (number b) (number c) (number d)
    ≡ number (λ p. get_or (mix_column forward (sub_byte (a 0) ∷ sub_byte (b 1) ∷ sub_byte (c 2) ∷ sub_byte (d 3) ∷ [])) p 0)
unfolding table_column
column_mixed a b c d ha hb hc hd =
    ap₂ xor (ap₂ xor (looked_up 0 a ha (lit< tt)) (looked_up 1 b hb (lit< tt))) (ap₂ xor (looked_up 2 c hc (lit< tt)) (looked_up 3 d hd (lit< tt)))
    ∙ rows_mixed _ _ _ _ (sub_lt _ (ha 0 (lit< tt))) (sub_lt _ (hb 1 (lit< tt))) (sub_lt _ (hc 2 (lit< tt))) (sub_lt _ (hd 3 (lit< tt)))
  where
    looked_up : (i : ℕ) (f : ℕ → ℕ) → ((p : ℕ) → p < 4 → f p < 256) → i < 4 → get_or (row_table i) (byte_of (number f) i) 0 ≡ row_number i (sub_byte (f i))
    looked_up i f h l = ap (λ (x : ℕ). get_or (row_table i) x 0) (byte_number f h i l) ∙ row_entry i (f i) (h i l)

-- a round by the four tables, on the numbers of a word and of a key, gives the numbers of the round
pub table_round_lem : (s k : List ℕ) → Bytes 16 s → Bytes 16 k
    → table_round (row_table 0) (row_table 1) (row_table 2) (row_table 3) (numbers 4 s) (numbers 4 k) ≡ numbers 4 (aes_round s k)
unfolding table_round numbers
table_round_lem s k S K = tab_ext 4 _ _ column_of
  where
    byte : (j p : ℕ) → get_or s (4 * j + p) 0 < 256
    byte j p = S.small (4 * j + p)

    into_bytes : (j : ℕ) → Bytes 4 (into s j)
    into_bytes j =
        four_bytes _ _ _ _ (sub_lt _ (byte j 0)) (sub_lt _ (byte ((j + 1) % 4) 1)) (sub_lt _ (byte ((j + 2) % 4) 2)) (sub_lt _ (byte ((j + 3) % 4) 3))

    column_of : (j : ℕ) → j < 4
        → xor
        (table_column (row_table 0) (row_table 1) (row_table 2) (row_table 3) (get_or (numbers 4 s) j 0) (get_or (numbers 4 s) ((j + 1) % 4) 0)
        (get_or (numbers 4 s) ((j + 2) % 4) 0) (get_or (numbers 4 s) ((j + 3) % 4) 0)) (get_or (numbers 4 k) j 0)
        ≡ number (λ p. get_or (aes_round s k) (4 * j + p) 0)
    column_of j h =
        rw (
          get_or-numbers 4 s j h,
          get_or-numbers 4 s ((j + 1) % 4) (mod-lt _ (lit< tt)),
          get_or-numbers 4 s ((j + 2) % 4) (mod-lt _ (lit< tt)),
          get_or-numbers 4 s ((j + 3) % 4) (mod-lt _ (lit< tt)),
          get_or-numbers 4 k j h,
          column_mixed _ _ _ _ (λ p l. byte j p) (λ p l. byte ((j + 1) % 4) p) (λ p l. byte ((j + 2) % 4) p) (λ p l. byte ((j + 3) % 4) p),
        )
        (xor_number _ _ (λ p l. (mix_bytes forward (into s j) forward_bytes (into_bytes j)).small p) (λ p l. K.small (4 * j + p)) ∙ round_column s k j h)
