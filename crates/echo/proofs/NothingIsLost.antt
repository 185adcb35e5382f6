-- Nothing is lost before the fold. For each number n of rounds, 8 and 10 among them, each salt of sixteen bytes and each starting counter, of 64
-- bits or of 128: the rounds send different squares of 256 bytes to different squares and reach every square; the way back undoes them, and they
-- undo it, exactly, as definitions and as routines; row shift and word-column mix of two squares xored are their two results xored; and the new
-- chaining value is the fold of the starting square xored with the fold of the finished one, in either mode; in single-pipe it is what section 5 prints.
-- Of a counter only that its subkeys are words is used, and so each is stated once over the subkeys.
-- Assumes nothing.
use Rattle.std.proofs.Common.{◌≡◌, ℕ, ◌+◌, ◌-◌, ◌*◌, ◌/◌, ◌%◌, ◌^◌, ◌<◌, List, ◌++◌, length, sym, refl, ap, ◌∙◌, arith}
use Rattle.aes_round.specs.Bytes.{Bytes, xor_bytes}
use Rattle.aes_round.specs.Mixing.{forward}
use Rattle.aes_round.proofs.Promises.{mix_columns_xor, shift_xor}
use Rattle.echo.specs.declared.mode.Mode.{Mode}
use Rattle.echo.specs.declared.mode.Mode.TheVariants.{SinglePipe}
use Rattle.echo.specs.Compression.{big_final, compress, fold}
use Rattle.echo.specs.Families.{chaining_size, round_count}
use Rattle.echo.specs.Routines.{compress_leaves, compress_refusal, compress_wide_leaves, compress_wide_refusal}
use Rattle.echo.specs.Routines.{rounds_back_leave, rounds_back_wide_leave, rounds_leave, rounds_refusal, rounds_wide_leave, rounds_wide_refusal}
use Rattle.echo.specs.SinglePipe.{compress51, compress52}
use Rattle.echo.specs.Square.{big_mix_columns, big_shift_rows, keys_from, rounds, rounds_back, wide_keys_from}
use Rattle.echo.proofs.Laws.Compression.{block_parts, fold_loaded}
use Rattle.echo.proofs.Laws.Numbers.{key_bytes, wide_key_bytes}
use Rattle.echo.proofs.Laws.Refusals.{compress_parts, compress_some, compress_square, compress_within, done, rounds_fit, rounds_within}
use Rattle.echo.proofs.Laws.SinglePipe.{as_printed_51, as_printed_52}
use Rattle.echo.proofs.Laws.Square.{Keys, rounds_are_squares, rounds_back_are_squares, rounds_back_undone, rounds_undone}
use Rattle.echo.proofs.Laws.Undone.{undo_each_other}

-- the subkeys of a counter of 64 bits, and of one of 128
pub keys : (start : ℕ) → Keys (keys_from start)
keys start number = key_bytes (start + number)

pub wide_keys : (start : ℕ) → Keys (wide_keys_from start)
wide_keys start number = wide_key_bytes ((start + number) % 2 ^ 128)

module _ (n : ℕ) (key : ℕ → List ℕ) (K : Keys key) (salt : List ℕ) (L : Bytes 16 salt) where
  pub squares_go_to_squares : (s : List ℕ) → Bytes 256 s → Bytes 256 (rounds n key salt s)
  squares_go_to_squares = rounds_are_squares key salt K L n

  -- squares that go to one square are one
  pub different_squares_go_to_different_squares : (s t : List ℕ) → Bytes 256 s → Bytes 256 t → rounds n key salt s ≡ rounds n key salt t → s ≡ t
  different_squares_go_to_different_squares s t S T e =
      sym (rounds_undone key salt K L n s S) ∙ ap (rounds_back n key salt) e ∙ rounds_undone key salt K L n t T

  pub every_square_is_reached : (t : List ℕ) → Bytes 256 t → (s : List ℕ) × Bytes 256 s × (rounds n key salt s ≡ t)
  every_square_is_reached t T = (rounds_back n key salt t, rounds_back_are_squares key salt K L n t T, rounds_back_undone key salt K L n t T)

  pub backward_undoes_forward : (s : List ℕ) → Bytes 256 s → rounds_back n key salt (rounds n key salt s) ≡ s
  backward_undoes_forward = rounds_undone key salt K L n

  pub forward_undoes_backward : (s : List ℕ) → Bytes 256 s → rounds n key salt (rounds_back n key salt s) ≡ s
  forward_undoes_backward = rounds_back_undone key salt K L n

-- the routines themselves, for every square and salt of bytes, count and counter: where nothing is refused each undoes the other, and a
-- refusal changes nothing
module _ (square : List ℕ) (count counter : ℕ) (salt : List ℕ) (S : Bytes (length square) square) (L : Bytes (length salt) salt) where
  fit : rounds_wide_refusal (length square) count (length salt) ≡ 0 → (length square ≡ 256) × (length salt ≡ 16)
  fit z = let F = rounds_fit (length square) count (length salt) z in (F.square_fits, F.salt_fits)

  pub the_routines_undo_each_other :
      (rounds_back_leave (rounds_leave square count counter salt) count counter salt ≡ square) ×
      (rounds_leave (rounds_back_leave square count counter salt) count counter salt ≡ square)
  unfolding rounds_leave rounds_back_leave
  the_routines_undo_each_other =
      undo_each_other (λ n. rounds_refusal n count counter (length salt)) count (keys_from counter) salt (keys counter) square S L
      (λ z. fit (rounds_within (length square) count counter (length salt) z).0)

  pub the_wide_routines_undo_each_other :
      (rounds_back_wide_leave (rounds_wide_leave square count counter salt) count counter salt ≡ square) ×
      (rounds_wide_leave (rounds_back_wide_leave square count counter salt) count counter salt ≡ square)
  unfolding rounds_wide_leave rounds_back_wide_leave
  the_wide_routines_undo_each_other =
      undo_each_other (λ n. rounds_wide_refusal n count (length salt)) count (wide_keys_from counter) salt (wide_keys counter) square S L fit

pub row_shift_of_xor : (s t : List ℕ) → big_shift_rows (xor_bytes 256 s t) ≡ xor_bytes 256 (big_shift_rows s) (big_shift_rows t)
unfolding big_shift_rows
row_shift_of_xor = shift_xor 16

pub column_mix_of_xor : (s t : List ℕ) → big_mix_columns (xor_bytes 256 s t) ≡ xor_bytes 256 (big_mix_columns s) (big_mix_columns t)
unfolding big_mix_columns
column_mix_of_xor = mix_columns_xor 16 forward

-- for a chaining variable v of c bytes and a block m of so many parts of c bytes: c = 32 with 7 parts, c = 64 with 3, c = 128 with 1
pub new_chaining_value : (c parts n : ℕ) (key : ℕ → List ℕ) (salt v m : List ℕ) → 0 < c → length v ≡ c → length m ≡ c * parts
    → compress c n key salt v m ≡ xor_bytes c (fold c (v ++ m)) (fold c (rounds n key salt (v ++ m)))
unfolding compress big_final
new_chaining_value c parts n key salt v m h lv lm =
    ap (λ (x : List ℕ). xor_bytes c x (fold c (rounds n key salt (v ++ m)))) (sym (fold_loaded c v m parts h lv lm))

-- what the routines leave in either mode, wherever they refuse nothing
module _ (mode : Mode) (chaining block salt : List ℕ) where
  by_folds : (key : ℕ → List ℕ) → compress_wide_refusal mode (length chaining) (length block) (length salt) ≡ 0
      → compress (length chaining) (round_count mode (length chaining)) key salt chaining block
      ≡ xor_bytes (length chaining) (fold (length chaining) (chaining ++ block))
      (fold (length chaining) (rounds (round_count mode (length chaining)) key salt (chaining ++ block)))
  by_folds key z =
      new_chaining_value (length chaining) (256 / length chaining - 1) (round_count mode (length chaining)) key salt chaining block
      (compress_some mode chaining block salt (sym z)) refl
      (block_parts (length chaining) (length block) (256 / length chaining)
      (compress_square mode chaining block salt (sym z)) (compress_parts mode chaining block salt (sym z)))

  module _ (counter : ℕ) where
    pub compress_leaves_the_folds : compress_refusal mode (length chaining) (length block) counter (length salt) ≡ 0
        → compress_leaves mode chaining block counter salt
        ≡ xor_bytes (length chaining) (fold (length chaining) (chaining ++ block))
        (fold (length chaining) (rounds (round_count mode (length chaining)) (keys_from counter) salt (chaining ++ block)))
    unfolding compress_leaves
    compress_leaves_the_folds z =
        done _ _ chaining z ∙ by_folds (keys_from counter) (compress_within mode (length chaining) (length block) counter (length salt) z).0

    pub compress_wide_leaves_the_folds : compress_wide_refusal mode (length chaining) (length block) (length salt) ≡ 0
        → compress_wide_leaves mode chaining block counter salt
        ≡ xor_bytes (length chaining) (fold (length chaining) (chaining ++ block))
        (fold (length chaining) (rounds (round_count mode (length chaining)) (wide_keys_from counter) salt (chaining ++ block)))
    unfolding compress_wide_leaves
    compress_wide_leaves_the_folds z = done _ _ chaining z ∙ by_folds (wide_keys_from counter) z

-- what it leaves in single-pipe, as section 5 prints it
module _ (chaining block : List ℕ) (counter : ℕ) (salt : List ℕ)
    (z : compress_refusal SinglePipe (length chaining) (length block) counter (length salt) ≡ 0) where
  leaves : (c n : ℕ) → length chaining ≡ c → round_count SinglePipe c ≡ n
      → (compress_leaves SinglePipe chaining block counter salt ≡ compress c n (keys_from counter) salt chaining block) × (c + length block ≡ 256)
  unfolding compress_leaves
  leaves c n l r = (
    done _ _ chaining z
        ∙ ap (λ (x : ℕ). compress x (round_count SinglePipe x) (keys_from counter) salt chaining block) l
        ∙ ap (λ (x : ℕ). compress c x (keys_from counter) salt chaining block) r,
    ap (λ (x : ℕ). x + length block) (sym l)
        ∙ compress_square SinglePipe chaining block salt (sym (compress_within SinglePipe (length chaining) (length block) counter (length salt) z).0),
  )

  pub compress_leaves_section_5_1 : length chaining ≡ 32
      → compress_leaves SinglePipe chaining block counter salt ≡ compress51 (keys_from counter) salt chaining block
  unfolding chaining_size
  compress_leaves_section_5_1 l = let L = leaves 32 8 l refl in L.0 ∙ as_printed_51 (keys_from counter) salt chaining block l (omega (arith, L.1))

  pub compress_leaves_section_5_2 : length chaining ≡ 64
      → compress_leaves SinglePipe chaining block counter salt ≡ compress52 (keys_from counter) salt chaining block
  unfolding chaining_size
  compress_leaves_section_5_2 l = let L = leaves 64 10 l refl in L.0 ∙ as_printed_52 (keys_from counter) salt chaining block l (omega (arith, L.1))
