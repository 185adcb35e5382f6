-- The steps of a round, the round, and their ways back: ways back undo in both orders, row shift and column mix go through xor, results are
-- bytes again. Assumes nothing.
use mathlib.Core.Path.{◌≡◌, sym, ap, ap₂, ◌∙◌}
use mathlib.Core.List.{List, []}
use Prim.Native.Nat.{ℕ, ◌+◌, ◌*◌, ◌/◌, ◌%◌, ◌<◌}
use native.Mathlib.Nat.{mod-lt}
use native.Mathlib.Omega.{arith}
use lib.Dec.{lit<}
use lib.ListN.{length, get_or}
use Rattle.aes_round.specs.Bytes.{Bytes, tab, xor_bytes}
use Rattle.aes_round.specs.Array.{array, column, entry}
use Rattle.aes_round.specs.Mixing.{backward, forward, mix_column}
use Rattle.aes_round.specs.Substitution.{sub_byte, sub_byte_back}
use Rattle.aes_round.specs.Rounds.{add_round_key, aes_round, aes_round_back, mix_columns, shift_back_from, shift_from, shift_rows, shift_rows_back}
use Rattle.aes_round.specs.Rounds.{sub_bytes, sub_bytes_back}
use Rattle.aes_round.proofs.Laws.Every.{agree}
use Rattle.aes_round.proofs.Laws.Bytes.{get_or-tab, is_tab, length-tab, tab_bytes, tab_ext}
use Rattle.aes_round.proofs.Laws.Xor.{get_or-xor, length-xor, xor_bytes_lem, xor_bytes_twice}
use Rattle.aes_round.proofs.Laws.Array.{array_bytes, array_ext, column_bytes, column_xor, entry_array, entry_byte, entry_xor, get_or-column}
use Rattle.aes_round.proofs.Laws.Array.{is_array, length-array, tab_array, xor_array}
use Rattle.aes_round.proofs.Laws.Substitution.{sub_back_lt, sub_back_undone, sub_lt, sub_undone}
use Rattle.aes_round.proofs.Laws.Mixing.{backward_bytes, forward_bytes, length_mix, mix_back_undone, mix_bytes, mix_undone, mix_xor}

-- ---- SubBytes

-- a map of bytes and its way back, on lists
module _ (n : ℕ) (f g : ℕ → ℕ) (undo : (x : ℕ) → x < 256 → g (f x) ≡ x) where
  map_undone : (s : List ℕ) → Bytes n s → tab n (λ k. g (get_or (tab n (λ k. f (get_or s k 0))) k 0)) ≡ s
  map_undone s B = sym (is_tab n s _ B.long (λ k h. sym (ap g (get_or-tab n _ k h) ∙ undo (get_or s k 0) (B.small k))))

pub sub_bytes_lem : (s : List ℕ) → Bytes 16 s → Bytes 16 (sub_bytes s)
unfolding sub_bytes
sub_bytes_lem s B = tab_bytes 16 _ (λ k h. sub_lt _ (B.small k))

pub sub_bytes_back_lem : (s : List ℕ) → Bytes 16 s → Bytes 16 (sub_bytes_back s)
unfolding sub_bytes_back
sub_bytes_back_lem s B = tab_bytes 16 _ (λ k h. sub_back_lt _ (B.small k))

pub sub_bytes_undone : (s : List ℕ) → Bytes 16 s → sub_bytes_back (sub_bytes s) ≡ s
unfolding sub_bytes sub_bytes_back
sub_bytes_undone = map_undone 16 sub_byte sub_byte_back sub_undone

pub sub_bytes_back_undone : (s : List ℕ) → Bytes 16 s → sub_bytes (sub_bytes_back s) ≡ s
unfolding sub_bytes sub_bytes_back
sub_bytes_back_undone = map_undone 16 sub_byte_back sub_byte sub_back_undone

-- ---- ShiftRows

shift_lt : (e : ℕ) → e < 16 → shift_from e < 16
shift_lt e h = omega arith

shift_back_lt : (e : ℕ) → e < 16 → shift_back_from e < 16
shift_back_lt e h = omega arith

shift_from_lem : (e : ℕ) → e < 16 → shift_from (shift_back_from e) ≡ e
shift_from_lem = agree (λ e. shift_from (shift_back_from e)) (λ e. e) 16 tt

shift_back_from_lem : (e : ℕ) → e < 16 → shift_back_from (shift_from e) ≡ e
shift_back_from_lem = agree (λ e. shift_back_from (shift_from e)) (λ e. e) 16 tt

-- entries moved: f and g say whence
module _ (w : ℕ) (f g : ℕ → ℕ) (inside : (e : ℕ) → e < 16 → g e < 16) (undo : (e : ℕ) → e < 16 → f (g e) ≡ e) where
  moved_undone : (s : List ℕ) → length s ≡ 16 * w → array w (λ e b. entry w (array w (λ e b. entry w s (f e) b)) (g e) b) ≡ s
  moved_undone s l =
      sym (is_array w s _ l (λ e b he hb. sym (entry_array w _ (g e) b (inside e he) hb ∙ ap (λ (d : ℕ). entry w s d b) (undo e he))))

module _ (w : ℕ) where
  -- entry e comes from 5 e (mod 16), and on the way back from 13 e
  pub entry_shift : (s : List ℕ) (e b : ℕ) → e < 16 → b < w → entry w (shift_rows w s) e b ≡ entry w s (5 * e % 16) b
  unfolding shift_rows
  entry_shift s e b he hb = entry_array w _ e b he hb ∙ ap (λ (d : ℕ). entry w s d b) (agree shift_from (λ e. 5 * e % 16) 16 tt e he)

  pub entry_shift_back : (s : List ℕ) (e b : ℕ) → e < 16 → b < w → entry w (shift_rows_back w s) e b ≡ entry w s (13 * e % 16) b
  unfolding shift_rows_back
  entry_shift_back s e b he hb = entry_array w _ e b he hb ∙ ap (λ (d : ℕ). entry w s d b) (agree shift_back_from (λ e. 13 * e % 16) 16 tt e he)

  pub length_shift : (s : List ℕ) → length (shift_rows w s) ≡ 16 * w
  unfolding shift_rows
  length_shift s = length-array w _

  pub length_shift_back : (s : List ℕ) → length (shift_rows_back w s) ≡ 16 * w
  unfolding shift_rows_back
  length_shift_back s = length-array w _

  pub shift_bytes : (s : List ℕ) → Bytes (16 * w) s → Bytes (16 * w) (shift_rows w s)
  unfolding shift_rows
  shift_bytes s B = array_bytes w _ (λ e b he hb. entry_byte w s B (shift_from e) b)

  pub shift_back_bytes : (s : List ℕ) → Bytes (16 * w) s → Bytes (16 * w) (shift_rows_back w s)
  unfolding shift_rows_back
  shift_back_bytes s B = array_bytes w _ (λ e b he hb. entry_byte w s B (shift_back_from e) b)

  pub shift_undone : (s : List ℕ) → length s ≡ 16 * w → shift_rows_back w (shift_rows w s) ≡ s
  unfolding shift_rows shift_rows_back
  shift_undone = moved_undone w shift_from shift_back_from shift_back_lt shift_from_lem

  pub shift_back_undone : (s : List ℕ) → length s ≡ 16 * w → shift_rows w (shift_rows_back w s) ≡ s
  unfolding shift_rows shift_rows_back
  shift_back_undone = moved_undone w shift_back_from shift_from shift_lt shift_back_from_lem

  pub shift_xor : (s t : List ℕ) → shift_rows w (xor_bytes (16 * w) s t) ≡ xor_bytes (16 * w) (shift_rows w s) (shift_rows w t)
  unfolding shift_rows
  shift_xor s t = array_ext w _ _ (λ e b he hb. entry_xor w s t (shift_from e) b (shift_lt e he) hb) ∙ sym (xor_array w _ _)

-- ---- MixColumns

module _ (w : ℕ) where
  pub entry_mix : (m s : List ℕ) (e b : ℕ) → e < 16 → b < w → entry w (mix_columns w m s) e b ≡ get_or (mix_column m (column w s (e / 4) b)) (e % 4) 0
  unfolding mix_columns
  entry_mix m s e b he hb = entry_array w _ e b he hb

  pub length_mix_columns : (m s : List ℕ) → length (mix_columns w m s) ≡ 16 * w
  unfolding mix_columns
  length_mix_columns m s = length-array w _

  pub mix_columns_bytes : (m s : List ℕ) → Bytes 16 m → Bytes (16 * w) s → Bytes (16 * w) (mix_columns w m s)
  unfolding mix_columns
  mix_columns_bytes m s M B = array_bytes w _ (λ e b he hb. (mix_bytes m _ M (column_bytes w s B (e / 4) b)).small (e % 4))

  pub mix_columns_xor : (m s t : List ℕ) → mix_columns w m (xor_bytes (16 * w) s t) ≡ xor_bytes (16 * w) (mix_columns w m s) (mix_columns w m t)
  unfolding mix_columns
  mix_columns_xor m s t =
      array_ext w _ _
      (λ e b he hb.
      ap (λ (c : List ℕ). get_or (mix_column m c) (e % 4) 0) (column_xor w s t (e / 4) b (omega arith) hb)
      ∙ ap (λ (c : List ℕ). get_or c (e % 4) 0) (mix_xor m (column w s (e / 4) b) (column w t (e / 4) b))
      ∙ get_or-xor 4 _ _ (e % 4) (mod-lt e (lit< tt)))
      ∙ sym (xor_array w _ _)

  -- a column of the mixed array is the mixed column
  column_mix : (m s : List ℕ) (c b : ℕ) → c < 4 → b < w → column w (mix_columns w m s) c b ≡ mix_column m (column w s c b)
  unfolding column
  column_mix m s c b hc hb =
      sym (is_tab 4 (mix_column m (column w s c b)) _ (length_mix m _)
      (λ i hi. sym
      (entry_mix m s (4 * c + i) b (omega arith) hb ∙ ap₂ (λ (q r : ℕ). get_or (mix_column m (column w s q b)) r 0) (quotient c i hi) (remainder c i hi))))
    where
      quotient : (c i : ℕ) → i < 4 → (4 * c + i) / 4 ≡ c
      quotient c i h = omega arith

      remainder : (c i : ℕ) → i < 4 → (4 * c + i) % 4 ≡ i
      remainder c i h = omega arith

  mix_columns_back : (N M : List ℕ) → ((c : List ℕ) → Bytes 4 c → mix_column N (mix_column M c) ≡ c) → (s : List ℕ) → Bytes (16 * w) s
      → mix_columns w N (mix_columns w M s) ≡ s
  unfolding mix_columns
  mix_columns_back N M undo s B =
      sym (is_array w s _ B.long
      (λ e b he hb.
      sym (ap (λ (c : List ℕ). get_or (mix_column N c) (e % 4) 0) (column_mix M s (e / 4) b (omega arith) hb)
      ∙ ap (λ (c : List ℕ). get_or c (e % 4) 0) (undo (column w s (e / 4) b) (column_bytes w s B (e / 4) b))
      ∙ get_or-column w s (e / 4) b (e % 4) (mod-lt e (lit< tt))
      ∙ ap (λ (d : ℕ). entry w s d b) (whole e))))
    where
      whole : (e : ℕ) → 4 * (e / 4) + e % 4 ≡ e
      whole e = omega arith

  pub mix_columns_undone : (s : List ℕ) → Bytes (16 * w) s → mix_columns w backward (mix_columns w forward s) ≡ s
  mix_columns_undone = mix_columns_back backward forward mix_undone

  pub mix_columns_back_undone : (s : List ℕ) → Bytes (16 * w) s → mix_columns w forward (mix_columns w backward s) ≡ s
  mix_columns_back_undone = mix_columns_back forward backward mix_back_undone

-- ---- AddRoundKey

pub key_bytes : (s k : List ℕ) → Bytes 16 s → Bytes 16 k → Bytes 16 (add_round_key s k)
unfolding add_round_key
key_bytes = xor_bytes_lem 16

pub key_undone : (s k : List ℕ) → length s ≡ 16 → add_round_key (add_round_key s k) k ≡ s
unfolding add_round_key
key_undone = xor_bytes_twice 16

-- ---- the round

pub length_round : (s k : List ℕ) → length (aes_round s k) ≡ 16
unfolding aes_round add_round_key
length_round s k = length-xor 16 _ k

pub length_round_back : (s k : List ℕ) → length (aes_round_back s k) ≡ 16
unfolding aes_round_back sub_bytes_back
length_round_back s k = length-tab 16 _

pub round_bytes : (s k : List ℕ) → Bytes 16 s → Bytes 16 k → Bytes 16 (aes_round s k)
unfolding aes_round
round_bytes s k S K = key_bytes _ k (mix_columns_bytes 1 forward _ forward_bytes (shift_bytes 1 _ (sub_bytes_lem s S))) K

pub round_back_bytes : (s k : List ℕ) → Bytes 16 s → Bytes 16 k → Bytes 16 (aes_round_back s k)
unfolding aes_round_back
round_back_bytes s k S K = sub_bytes_back_lem _ (shift_back_bytes 1 _ (mix_columns_bytes 1 backward _ backward_bytes (key_bytes s k S K)))

pub round_undone : (s k : List ℕ) → Bytes 16 s → aes_round_back (aes_round s k) k ≡ s
unfolding aes_round aes_round_back
round_undone s k S =
    let A : Bytes 16 (sub_bytes s) = sub_bytes_lem s S in
    let B : Bytes 16 (shift_rows 1 (sub_bytes s)) = shift_bytes 1 _ A in
    ap (λ (x : List ℕ). sub_bytes_back (shift_rows_back 1 (mix_columns 1 backward x))) (key_undone _ k (mix_columns_bytes 1 forward _ forward_bytes B).long)
    ∙ ap (λ (x : List ℕ). sub_bytes_back (shift_rows_back 1 x)) (mix_columns_undone 1 _ B)
    ∙ ap sub_bytes_back (shift_undone 1 _ A.long)
    ∙ sub_bytes_undone s S

pub round_back_undone : (s k : List ℕ) → Bytes 16 s → Bytes 16 k → aes_round (aes_round_back s k) k ≡ s
unfolding aes_round aes_round_back
round_back_undone s k S K =
    let A : Bytes 16 (add_round_key s k) = key_bytes s k S K in
    let B : Bytes 16 (mix_columns 1 backward (add_round_key s k)) = mix_columns_bytes 1 backward _ backward_bytes A in
    let C : Bytes 16 (shift_rows_back 1 (mix_columns 1 backward (add_round_key s k))) = shift_back_bytes 1 _ B in
    ap (λ (x : List ℕ). add_round_key (mix_columns 1 forward (shift_rows 1 x)) k) (sub_bytes_back_undone _ C)
    ∙ ap (λ (x : List ℕ). add_round_key (mix_columns 1 forward x) k) (shift_back_undone 1 _ B.long)
    ∙ ap (λ (x : List ℕ). add_round_key x k) (mix_columns_back_undone 1 _ A)
    ∙ key_undone s k S.long

-- ---- what the code's steps compute

-- the four columns of a word, mixed one by one
pub mix_columns_are : (m s : List ℕ) (c : List (List ℕ)) → ((j : ℕ) → j < 4 → get_or c j [] ≡ mix_column m (column 1 s j 0))
    → tab 16 (λ k. get_or (get_or c (k / 4) []) (k % 4) 0) ≡ mix_columns 1 m s
unfolding mix_columns
mix_columns_are m s c e =
    tab_array 1 _ _
    (λ k b hk hb.
    let z : b ≡ 0 = omega arith in
    let w : 1 * k + b ≡ k = omega arith in
    rw (w, z) (ap (λ (c : List ℕ). get_or c (k % 4) 0) (e (k / 4) (omega arith))))

-- a column of a word
pub column_is : (s : List ℕ) (j : ℕ) → tab 4 (λ i. get_or s (4 * j + i) 0) ≡ column 1 s j 0
unfolding column entry
column_is s j = tab_ext 4 _ _ (λ i h. let w : 1 * (4 * j + i) + 0 ≡ 4 * j + i = omega arith in ap (λ (k : ℕ). get_or s k 0) (sym w))

-- the steps of a round and of the way back
pub round_steps : (s k a b c d : List ℕ) → d ≡ add_round_key c k → c ≡ mix_columns 1 forward b → b ≡ shift_rows 1 a
    → a ≡ tab 16 (λ i. sub_byte (get_or s i 0)) → d ≡ aes_round s k
unfolding aes_round sub_bytes
round_steps s k a b c d e f g h = rw (e, f, g, h)

pub round_steps_back : (s k a b c d : List ℕ) → d ≡ tab 16 (λ i. sub_byte_back (get_or c i 0)) → c ≡ shift_rows_back 1 b
    → b ≡ mix_columns 1 backward a → a ≡ add_round_key s k → d ≡ aes_round_back s k
unfolding aes_round_back sub_bytes_back
round_steps_back s k a b c d e f g h = rw (e, f, g, h)
