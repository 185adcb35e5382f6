-- The rounds by tables: what a step does to the numbers of the square it does to the square. Assumes nothing.
use Rattle.std.proofs.Common.{◌≡◌, ℕ, ◌+◌, ◌*◌, ◌/◌, ◌%◌, ◌^◌, ◌<◌, ◌≤◌, List, [], ◌∷◌, length, get_or, set, sym, ap, ◌∙◌, subst, ap₂, mod-eq_of_lt, mul_assoc, one-mul, div-one, arith, lit<, lit≤, pow-add, w32, Fits}
use native.Mathlib.Nat.{add-mul-div_left, add-mul-mod_self_left, div-div-eq-div-mul}
use Rattle.aes_round.specs.Bytes.{Bytes}
use Rattle.aes_round.specs.ByTables.{row_table, table_round}
use Rattle.aes_round.specs.Numbers.{bytes_of, number, numbers}
use Rattle.aes_round.specs.Rounds.{aes_round}
use Rattle.aes_round.proofs.Promises.{Filled, byte_is, bytes_of_bytes, bytes_of_numbers, fill_more, fill_none, get_or-tab, number_ext, number_low}
use Rattle.aes_round.proofs.Promises.{numbers_of_bytes, round_bytes, table_round_lem}
use Rattle.echo.specs.Numbers.{little_endian}
use Rattle.echo.specs.Numbers.{halves}
use Rattle.echo.specs.Square.{big_mix_columns, big_shift_rows, big_sub_words, rounds, wide_key, wide_keys_from, word}
use Rattle.echo.proofs.Laws.Numbers.{upper_part, wide_key_bytes}
use Rattle.echo.proofs.Laws.Square.{one_more, rounds_are_squares, sub_words_bytes, sub_words_word, word_bytes}
use Rattle.echo.proofs.Laws.SquareNumbers.{four_stores, four_by, number_of, numbers_of_word, put_by, square_numbers, word_numbers, word_of_four}

-- ---- a word through two rounds

-- four bytes of a counter's key
key_number : (κ i : ℕ) → i ≤ 12 → κ / 256 ^ i % 2 ^ 32 ≡ number (λ p. get_or (wide_key κ) (i + p) 0)
unfolding wide_key little_endian
key_number κ i most =
    sym (number_low (κ / 256 ^ i))
    ∙ number_ext _ _ (λ p l. byte_is (κ / 256 ^ i) p ∙ sym (get_or-tab 16 _ (i + p) (omega arith) ∙ ap (λ (q : ℕ). q % 256) (further p)))
  where
    further : (p : ℕ) → κ / 256 ^ (i + p) ≡ κ / 256 ^ i / 256 ^ p
    further p = ap (λ (q : ℕ). κ / q) (pow-add 256 i p) ∙ sym (div-div-eq-div-mul κ (256 ^ i) (256 ^ p))

-- the key of a counter's halves: two numbers for each
module _ (low high : ℕ) (l : low < 2 ^ 64) (h : high < 2 ^ 64) where
  upper : halves low high / 2 ^ 64 ≡ high
  upper = upper_part (2 ^ 64) low high (lit< tt) l

  by_numbers : halves low high ≡ low + 2 ^ 32 * (2 ^ 32 * high)
  by_numbers = ap (λ (x : ℕ). low + x) (mul_assoc (2 ^ 32) (2 ^ 32) high)

  number_0 : low % 2 ^ 32 ≡ halves low high / 256 ^ 0 % 2 ^ 32
  number_0 = sym (ap (λ (x : ℕ). x % 2 ^ 32) (div-one (halves low high) ∙ by_numbers) ∙ add-mul-mod_self_left low (2 ^ 32) (2 ^ 32 * high))

  number_1 : low / 2 ^ 32 ≡ halves low high / 256 ^ 4 % 2 ^ 32
  number_1 =
      sym (ap (λ (q : ℕ). q % 2 ^ 32) (ap (λ (x : ℕ). x / 2 ^ 32) by_numbers ∙ add-mul-div_left low (2 ^ 32 * high) (lit< tt))
      ∙ add-mul-mod_self_left (low / 2 ^ 32) (2 ^ 32) high
      ∙ mod-eq_of_lt (omega arith))

  number_2 : high % 2 ^ 32 ≡ halves low high / 256 ^ 8 % 2 ^ 32
  number_2 = ap (λ (q : ℕ). q % 2 ^ 32) (sym upper)

  number_3 : high / 2 ^ 32 ≡ halves low high / 256 ^ 12 % 2 ^ 32
  number_3 =
      sym (ap (λ (q : ℕ). q % 2 ^ 32) (sym (div-div-eq-div-mul (halves low high) (2 ^ 64) (2 ^ 32)) ∙ ap (λ (q : ℕ). q / 2 ^ 32) upper)
      ∙ mod-eq_of_lt (omega arith))

  counter_numbers : low % 2 ^ 32 ∷ low / 2 ^ 32 ∷ high % 2 ^ 32 ∷ high / 2 ^ 32 ∷ [] ≡ numbers 4 (wide_key (halves low high))
  counter_numbers =
      word_numbers (wide_key (halves low high)) _ _ _ _
      (number_0 ∙ key_number _ 0 (lit≤ tt))
      (number_1 ∙ key_number _ 4 (lit≤ tt))
      (number_2 ∙ key_number _ 8 (lit≤ tt))
      (number_3 ∙ key_number _ 12 (lit≤ tt))

-- two rounds by the four tables, with the numbers of the keys
abbrev pub twice : List ℕ → List ℕ → List ℕ → List ℕ
twice key salt word =
    table_round (row_table 0) (row_table 1) (row_table 2) (row_table 3)
    (table_round (row_table 0) (row_table 1) (row_table 2) (row_table 3) word key) salt

twice_is : (key salt word : List ℕ) → Bytes 16 key → Bytes 16 salt → Bytes 16 word
    → twice (numbers 4 key) (numbers 4 salt) (numbers 4 word) ≡ numbers 4 (aes_round (aes_round word key) salt)
twice_is key salt word K L W =
    ap (λ (w : List ℕ). table_round (row_table 0) (row_table 1) (row_table 2) (row_table 3) w (numbers 4 salt)) (table_round_lem word key W K)
    ∙ table_round_lem _ salt (round_bytes word key W K) L

-- as the code has it
pub two_by_tables : (t u v w word salt once r : List ℕ) (low high κ : ℕ) → t ≡ row_table 0 → u ≡ row_table 1 → v ≡ row_table 2 → w ≡ row_table 3
    → once ≡ table_round t u v w word (low % 2 ^ 32 ∷ low / 2 ^ 32 ∷ high % 2 ^ 32 ∷ high / 2 ^ 32 ∷ []) → r ≡ table_round t u v w once salt
    → length word ≡ 4 → ((k : ℕ) → Fits w32 (get_or word k 0)) → length salt ≡ 4 → ((k : ℕ) → Fits w32 (get_or salt k 0)) → low < 2 ^ 64 → high < 2 ^ 64
    → halves low high ≡ κ → r ≡ numbers 4 (aes_round (aes_round (bytes_of 4 word) (wide_key κ)) (bytes_of 4 salt))
two_by_tables t u v w word salt once r low high κ et eu ev ew eo er lw fw ls fs l h at =
    er ∙ rw (eo, et, eu, ev, ew)
    (ap (λ (k : List ℕ). twice k salt word) (counter_numbers low high l h ∙ ap (λ (k : ℕ). numbers 4 (wide_key k)) at)
    ∙ ap₂ (twice _) (sym (numbers_of_bytes 4 salt ls (λ k. (fs k).fits))) (sym (numbers_of_bytes 4 word lw (λ k. (fw k).fits)))
    ∙ twice_is _ (bytes_of 4 salt) (bytes_of 4 word) (wide_key_bytes _) (bytes_of_bytes 4 salt) (bytes_of_bytes 4 word))

-- ---- BIG.SubWords, a word a turn

-- the numbers of a word of the square
pub word_by_tables : (key : ℕ → List ℕ) (salt s : List ℕ) (i : ℕ) → Bytes 16 (key i) → Bytes 16 salt → Bytes 256 s → i < 16
    → numbers 4 (word (big_sub_words key salt s) i) ≡ twice (numbers 4 (key i)) (numbers 4 salt) (numbers 4 (word s i))
word_by_tables key salt s i K L S h = ap (numbers 4) (sub_words_word key salt s i h) ∙ sym (twice_is (key i) salt (word s i) K L (word_bytes s i S))

module _ (s salt : List ℕ) (key : ℕ → List ℕ) where
  -- the square that the numbers s have, substituted
  substituted : List ℕ
  substituted = big_sub_words key (bytes_of 4 salt) (bytes_of 64 s)

  -- the first i words of r are there, and the others are still those of s
  pub Substituted : ℕ → List ℕ → Type 0
  Substituted i r = Filled 64 (number_of substituted) s (4 * i) r

  pub none_substituted : length s ≡ 64 → Substituted 0 s
  unfolding Substituted
  none_substituted = fill_none 64 (number_of substituted) s

  -- the word i of r, which is still that of s
  word_of : (i : ℕ) (r : List ℕ) → Filled 64 (number_of substituted) s (4 * i) r → i < 16
      → aes_round (aes_round (bytes_of 4 (four_by 1 r (4 * i))) (key i)) (bytes_of 4 salt) ≡ word substituted i
  unfolding substituted
  word_of i r F h =
      ap (λ (w : List ℕ). aes_round (aes_round w (key i)) (bytes_of 4 salt)) (ap (bytes_of 4) same ∙ word_of_four s i h)
      ∙ sym (sub_words_word key (bytes_of 4 salt) (bytes_of 64 s) i h)
    where
      same : four_by 1 r (4 * i) ≡ four_by 1 s (4 * i)
      same = rw (F.rest (4 * i) (omega arith), F.rest (4 * i + 1) (omega arith), F.rest (4 * i + 2) (omega arith), F.rest (4 * i + 3) (omega arith))

  pub more_substituted : (i : ℕ) (r v : List ℕ) → Substituted i r → i < 16
      → v ≡ numbers 4 (aes_round (aes_round (bytes_of 4 (four_by 1 r (4 * i))) (key i)) (bytes_of 4 salt))
      → Substituted (i + 1) (put_by 1 r (4 * i) v)
  unfolding Substituted
  more_substituted i r v F h ev =
      subst (λ (m : ℕ). Filled 64 (number_of substituted) s m (put_by 1 r (4 * i) v)) (steps i)
      (four_stores (Filled 64 (number_of substituted) s) 1 (4 * i) (4 * i) r v one F)
    where
      steps : (i : ℕ) → 4 * i + 4 ≡ 4 * (i + 1)
      steps i = omega arith

      one : (k : ℕ) → k < 4 → (q : List ℕ) → Filled 64 (number_of substituted) s (4 * i + k) q
          → Filled 64 (number_of substituted) s (4 * i + k + 1) (set q (4 * i + 1 * k) (get_or v k 0))
      one k l q G =
          subst (λ (m : ℕ). Filled 64 (number_of substituted) s (4 * i + k + 1) (set q m (get_or v k 0))) (ap (λ (m : ℕ). 4 * i + m) (sym (one-mul k)))
          (fill_more 64 (number_of substituted) s (4 * i + k) q (get_or v k 0) G (omega arith)
          (ap (λ (w : List ℕ). get_or w k 0) (ev ∙ ap (numbers 4) (word_of i r F h)) ∙ numbers_of_word substituted i k l))

  pub all_substituted : (i : ℕ) (r : List ℕ) → Substituted i r → 16 ≤ i → r ≡ numbers 64 (big_sub_words key (bytes_of 4 salt) (bytes_of 64 s))
  unfolding Substituted substituted
  all_substituted i r F h = square_numbers _ s r (4 * i) F (omega arith)

-- ---- a round

module _ (C : ℕ) (salt s₀ : List ℕ) where
  -- the square after n rounds under the salt of these numbers
  ran : ℕ → List ℕ
  ran n = rounds n (wide_keys_from C) (bytes_of 4 salt) s₀

  -- n rounds are done, from the square s₀ to the numbers a
  pub RanBy : ℕ → List ℕ → Type 0
  RanBy n a = a ≡ numbers 64 (ran n)

  pub ran_by_none : (a : List ℕ) → a ≡ numbers 64 s₀ → RanBy 0 a
  unfolding RanBy ran rounds
  ran_by_none a e = e

  ran_bytes : Bytes 256 s₀ → (n : ℕ) → Bytes 256 (ran n)
  unfolding ran
  ran_bytes S n = rounds_are_squares (wide_keys_from C) _ (λ i. wide_key_bytes _) (bytes_of_bytes 4 salt) n s₀ S

  pub ran_by_more : (n : ℕ) (a b c : List ℕ) → RanBy n a → Bytes 256 s₀
      → b ≡ numbers 64 (big_sub_words (λ i. wide_keys_from C (16 * n + i)) (bytes_of 4 salt) (bytes_of 64 a))
      → c ≡ numbers 64 (big_mix_columns (big_shift_rows (bytes_of 64 b))) → RanBy (n + 1) c
  unfolding RanBy ran
  ran_by_more n a b c ea S eb ec =
      ec ∙ ap (λ (x : List ℕ). numbers 64 (big_mix_columns (big_shift_rows x))) same ∙ ap (numbers 64) (one_more (wide_keys_from C) (bytes_of 4 salt) s₀ n)
    where
      sub : List ℕ → List ℕ
      sub = big_sub_words (λ i. wide_keys_from C (16 * n + i)) (bytes_of 4 salt)

      same : bytes_of 64 b ≡ sub (ran n)
      same =
          ap (bytes_of 64) (eb ∙ ap (λ (x : List ℕ). numbers 64 (sub x)) (ap (bytes_of 64) ea ∙ bytes_of_numbers 64 (ran n) (ran_bytes S n)))
          ∙ bytes_of_numbers 64 _ (sub_words_bytes _ _ (λ i. wide_key_bytes _) (bytes_of_bytes 4 salt) (ran n) (ran_bytes S n))

  pub ran_by_all : (n count : ℕ) (a t w : List ℕ) → t ≡ bytes_of 64 a → RanBy n a → n ≤ count → count ≤ n → Bytes 256 s₀
      → salt ≡ numbers 4 w → Bytes 16 w → t ≡ rounds count (wide_keys_from C) w s₀
  unfolding RanBy ran
  ran_by_all n count a t w et ea most least S es L =
      let same : n ≡ count = omega arith in
      et ∙ ap (bytes_of 64) ea ∙ bytes_of_numbers 64 (ran n) (ran_bytes S n)
      ∙ ap₂ (λ (m : ℕ) (x : List ℕ). rounds m (wide_keys_from C) x s₀) same (ap (bytes_of 4) es ∙ bytes_of_numbers 4 w L)
