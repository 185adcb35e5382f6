-- The routines with a counter of 64 bits are those with one of 128 whose upper half is zero, wherever they refuse nothing. Assumes nothing.
use Rattle.std.proofs.Common.{◌≡◌, ℕ, zero, suc, ◌+◌, ◌-◌, ◌*◌, ◌%◌, ◌^◌, ◌<◌, ◌≤◌, List, ◌++◌, length, get_or, sym, refl, ap, ◌∙◌, lt_trans, mod-eq_of_lt, mul-suc, arith, lit<}
use Rattle.aes_round.specs.Bytes.{tab}
use Rattle.aes_round.specs.Rounds.{aes_round, aes_round_back}
use Rattle.aes_round.proofs.Promises.{array_ext}
use Rattle.echo.specs.declared.mode.Mode.{Mode}
use Rattle.echo.specs.Compression.{big_final, compress}
use Rattle.echo.specs.Families.{round_count}
use Rattle.echo.specs.Numbers.{halves}
use Rattle.echo.specs.Refusals.{unless}
use Rattle.echo.specs.Routines.{compress_leaves, compress_refusal, compress_wide_leaves, compress_wide_refusal}
use Rattle.echo.specs.Routines.{rounds_back_leave, rounds_back_wide_leave, rounds_leave, rounds_refusal, rounds_wide_leave, rounds_wide_refusal}
use Rattle.echo.specs.Square.{big_mix_columns, big_mix_columns_back, big_round, big_round_back, big_shift_rows, big_shift_rows_back, big_sub_words, big_sub_words_back}
use Rattle.echo.specs.Square.{counter_key, keys_from, rounds, rounds_back, wide_key, wide_keys_from, word}
use Rattle.echo.proofs.Laws.Numbers.{sixteen_of_eight}
use Rattle.echo.proofs.Laws.Refusals.{compress_counters, compress_within, done, rounds_counters, rounds_done, rounds_salt, rounds_square}
use Rattle.echo.proofs.Laws.Refusals.{rounds_within, rounds_words}

-- ---- the subkeys

-- below 2^64 the subkeys of both counters are one
pub keys_agree : (κ : ℕ) → κ < 2 ^ 64 → wide_key κ ≡ counter_key κ
unfolding wide_key
keys_agree = sixteen_of_eight

module _ (counter n : ℕ) (h : counter + 16 * n ≤ 2 ^ 64) where
  run_agrees : (i : ℕ) → i < 16 * n → wide_keys_from (halves counter 0) i ≡ keys_from counter i
  run_agrees i l = ap wide_key (ap (λ (x : ℕ). x % 2 ^ 128) (alone i) ∙ mod-eq_of_lt (lt_trans (small i l) (lit< tt))) ∙ keys_agree (counter + i) (small i l)
    where
      alone : (i : ℕ) → halves counter 0 + i ≡ counter + i
      alone i = omega arith

      small : (i : ℕ) → i < 16 * n → counter + i < 2 ^ 64
      small i l = omega arith

-- ---- rounds whose subkeys agree

module _ (key other : ℕ → List ℕ) (salt : List ℕ) where
  Agree : ℕ → Type 0
  Agree n = (i : ℕ) → i < 16 * n → key i ≡ other i

  here : (n i : ℕ) → i < 16 → 16 * n + i < 16 * suc n
  here n i l = omega (arith, mul-suc 16 n)

  less : (n : ℕ) → Agree (suc n) → Agree n
  unfolding Agree
  less n A i l = A i (omega (arith, mul-suc 16 n))

  rounds_agree : (n : ℕ) (s : List ℕ) → Agree n → rounds n key salt s ≡ rounds n other salt s
  unfolding Agree rounds big_round big_sub_words
  rounds_agree zero s A = refl
  rounds_agree (suc n) s A =
      ap (big_round (λ i. key (16 * n + i)) salt) (rounds_agree n s (less n A))
      ∙ ap (λ (x : List ℕ). big_mix_columns (big_shift_rows x))
      (array_ext 16 _ _
      (λ i b hi hb. ap (λ (k : List ℕ). get_or (aes_round (aes_round (word (rounds n other salt s) i) k) salt) b 0) (A (16 * n + i) (here n i hi))))

  rounds_back_agree : (n : ℕ) (s : List ℕ) → Agree n → rounds_back n key salt s ≡ rounds_back n other salt s
  unfolding Agree rounds_back big_round_back big_sub_words_back
  rounds_back_agree zero s A = refl
  rounds_back_agree (suc n) s A =
      ap (rounds_back n key salt)
      (array_ext 16 _ _
      (λ i b hi hb.
      ap (λ (k : List ℕ). get_or (aes_round_back (aes_round_back (word (big_shift_rows_back (big_mix_columns_back s)) i) salt) k) b 0)
      (A (16 * n + i) (here n i hi))))
      ∙ rounds_back_agree n _ (less n A)

-- a compression whose counter does not outgrow 64 bits
pub compression_agrees : (c n counter : ℕ) (salt v m last : List ℕ) → counter + 16 * n ≤ 2 ^ 64
    → last ≡ compress c n (wide_keys_from (halves counter 0)) salt v m → last ≡ compress c n (keys_from counter) salt v m
unfolding compress Agree
compression_agrees c n counter salt v m last h e =
    e ∙ ap (big_final c v m) (rounds_agree (wide_keys_from (halves counter 0)) (keys_from counter) salt n (v ++ m) (run_agrees counter n h))

-- ---- the rounds, wherever those with a counter of 64 bits refuse nothing

module _ (square : List ℕ) (count counter : ℕ) (salt : List ℕ) (none : 0 ≡ rounds_refusal (length square) count counter (length salt)) where
  within : (rounds_wide_refusal (length square) count (length salt) ≡ 0) × (counter ≤ 2 ^ 64 - 161)
  within = rounds_within (length square) count counter (length salt) (sym none)

  counters : counter + 16 * count ≤ 2 ^ 64
  counters = rounds_counters square count salt (sym within.0) counter within.1

  pub same_rounds_refusal : (q : ℕ) → q ≡ rounds_wide_refusal (length square) count (length salt)
      → q ≡ rounds_refusal (length square) count counter (length salt)
  same_rounds_refusal q p = p ∙ within.0 ∙ none

  -- rounds f, forward or backward, to which only the subkeys that they use matter
  module _ (f : ℕ → (ℕ → List ℕ) → List ℕ → List ℕ → List ℕ)
      (agree : (key other : ℕ → List ℕ) (x : List ℕ) (n : ℕ) (s : List ℕ) → Agree key other x n → f n key x s ≡ f n other x s) where
    leave : unless (rounds_wide_refusal (length square) count (length salt)) (f count (wide_keys_from (halves counter 0)) salt square) square
        ≡ unless (rounds_refusal (length square) count counter (length salt)) (f count (keys_from counter) salt square) square
    unfolding Agree
    leave =
        done _ _ _ within.0
        ∙ agree (wide_keys_from (halves counter 0)) (keys_from counter) salt count square (run_agrees counter count counters)
        ∙ sym (done _ _ _ (sym none))

  pub same_rounds : (last : List ℕ) → last ≡ rounds_wide_leave square count (halves counter 0) salt → last ≡ rounds_leave square count counter salt
  unfolding rounds_wide_leave rounds_leave
  same_rounds last p = p ∙ leave rounds rounds_agree

  pub same_rounds_back : (last : List ℕ) → last ≡ rounds_back_wide_leave square count (halves counter 0) salt
      → last ≡ rounds_back_leave square count counter salt
  unfolding rounds_back_wide_leave rounds_back_leave
  same_rounds_back last p = p ∙ leave rounds_back rounds_back_agree

  -- what a run itself requires, and what it leaves
  pub same_salt : 0 + 16 ≤ length salt
  same_salt = rounds_salt square count salt (sym within.0)

  pub same_square : length square ≡ 256
  same_square = rounds_square square count salt (sym within.0)

  pub same_words : 16 * count ≤ 2 ^ 64
  same_words = rounds_words square count salt (sym within.0)

  pub same_run : (x last : List ℕ) → x ≡ tab 16 (λ k. get_or salt (0 + k) 0) → last ≡ rounds count (wide_keys_from (halves counter 0)) x square
      → last ≡ rounds_leave square count counter salt
  unfolding rounds_wide_leave
  same_run x last s d = same_rounds last (rounds_done rounds square count (halves counter 0) salt (sym within.0) x last s d)

-- ---- compression likewise

module _ (mode : Mode) (chaining block : List ℕ) (counter : ℕ) (salt : List ℕ)
    (none : 0 ≡ compress_refusal mode (length chaining) (length block) counter (length salt)) where
  withins : (compress_wide_refusal mode (length chaining) (length block) (length salt) ≡ 0) × (counter ≤ 2 ^ 64 - 161)
  withins = compress_within mode (length chaining) (length block) counter (length salt) (sym none)

  pub same_compress_refusal : (q : ℕ) → q ≡ compress_wide_refusal mode (length chaining) (length block) (length salt)
      → q ≡ compress_refusal mode (length chaining) (length block) counter (length salt)
  same_compress_refusal q p = p ∙ withins.0 ∙ none

  pub same_compression : (last : List ℕ) → last ≡ compress_wide_leaves mode chaining block (halves counter 0) salt
      → last ≡ compress_leaves mode chaining block counter salt
  unfolding compress_wide_leaves compress_leaves
  same_compression last p =
      compression_agrees (length chaining) (round_count mode (length chaining)) counter salt chaining block last
      (compress_counters mode chaining block salt (sym withins.0) counter withins.1)
      (p ∙ done _ _ _ withins.0)
      ∙ sym (done _ _ _ (sym none))

-- ---- all of it in one

pub rounds_agree_with_the_upper_half_zero : (square : List ℕ) (count counter : ℕ) (salt : List ℕ)
    → rounds_refusal (length square) count counter (length salt) ≡ 0
    → (rounds_wide_refusal (length square) count (length salt) ≡ 0)
    × (rounds_wide_leave square count (halves counter 0) salt ≡ rounds_leave square count counter salt)
    × (rounds_back_wide_leave square count (halves counter 0) salt ≡ rounds_back_leave square count counter salt)
rounds_agree_with_the_upper_half_zero square count counter salt z = (
  (within square count counter salt (sym z)).0,
  same_rounds square count counter salt (sym z) _ refl,
  same_rounds_back square count counter salt (sym z) _ refl,
)

pub compression_agrees_with_the_upper_half_zero : (mode : Mode) (chaining block : List ℕ) (counter : ℕ) (salt : List ℕ)
    → compress_refusal mode (length chaining) (length block) counter (length salt) ≡ 0
    → (compress_wide_refusal mode (length chaining) (length block) (length salt) ≡ 0)
    × (compress_wide_leaves mode chaining block (halves counter 0) salt ≡ compress_leaves mode chaining block counter salt)
compression_agrees_with_the_upper_half_zero mode chaining block counter salt z = (
  (withins mode chaining block counter salt (sym z)).0,
  same_compression mode chaining block counter salt (sym z) _ refl,
)
