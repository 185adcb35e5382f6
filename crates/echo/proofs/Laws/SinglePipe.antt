-- Section 5 as it is printed is the general compression. Assumes nothing.
use Rattle.std.proofs.Common.{◌≡◌, ℕ, zero, suc, ◌+◌, ◌*◌, ◌<◌, ◌≤◌, List, [], ◌++◌, length, get_or, take, drop, sym, ap, ◌∙◌, ap₂, append_assoc, append-nil, arith, lit<, length-append, length-drop, take-append-drop, drop_of_length-le, length-take-le, get_or-drop, get_or-take, drop-drop}
use Rattle.aes_round.specs.Bytes.{xor, xor_bytes}
use Rattle.aes_round.proofs.Promises.{get_or-tab, get_or-xor, length_mix_columns, length-tab, length-xor, same_list, tab_ext, xor_assoc, xor_swap}
use Rattle.aes_round.proofs.Promises.{xor_tab}
use Rattle.echo.specs.Compression.{big_final, compress, fold}
use Rattle.echo.specs.SinglePipe.{◌⊕◌, compress51, compress52, loading51, loading52, output51, output52, table}
use Rattle.echo.specs.Square.{big_mix_columns, big_round, rounds, word}
use Rattle.echo.proofs.Laws.Compression.{fold_loaded}
use Rattle.echo.proofs.Laws.Folded.{fold_short, fold_single}
use Rattle.echo.proofs.Laws.Joined.{first_part, second_part}
use Rattle.echo.proofs.Laws.Words.{word_is}

-- ---- words xored

⊕_assoc : (a b c : List ℕ) → a ⊕ b ⊕ c ≡ a ⊕ (b ⊕ c)
⊕_assoc a b c =
    same_list 16 _ _ (length-xor 16 _ c) (length-xor 16 a _)
    (λ k h.
    get_or-xor 16 _ c k h
    ∙ ap (λ (x : ℕ). xor x (get_or c k 0)) (get_or-xor 16 a b k h)
    ∙ xor_assoc _ _ _
    ∙ sym (get_or-xor 16 a _ k h ∙ ap (xor (get_or a k 0)) (get_or-xor 16 b c k h)))

⊕_swap : (a b c d : List ℕ) → (a ⊕ b) ⊕ (c ⊕ d) ≡ (a ⊕ c) ⊕ (b ⊕ d)
⊕_swap a b c d =
    same_list 16 _ _ (length-xor 16 _ _) (length-xor 16 _ _)
    (λ k h.
    get_or-xor 16 _ _ k h
    ∙ ap₂ xor (get_or-xor 16 a b k h) (get_or-xor 16 c d k h)
    ∙ xor_swap (get_or a k 0) _ _ _
    ∙ sym (get_or-xor 16 _ _ k h ∙ ap₂ xor (get_or-xor 16 a c k h) (get_or-xor 16 b d k h)))

-- four words, xored to another one by one
one_by_one : (f a b c d : List ℕ) → f ⊕ (a ⊕ b ⊕ c ⊕ d) ≡ f ⊕ a ⊕ b ⊕ c ⊕ d
one_by_one f a b c d =
    sym (⊕_assoc f (a ⊕ b ⊕ c) d)
    ∙ ap (λ (x : List ℕ). x ⊕ d) (sym (⊕_assoc f (a ⊕ b) c) ∙ ap (λ (x : List ℕ). x ⊕ c) (sym (⊕_assoc f a b)))

word_xor : (n i : ℕ) (a b : List ℕ) → 16 * i + 16 ≤ n → word (xor_bytes n a b) i ≡ word a i ⊕ word b i
word_xor n i a b l =
    word_is (xor_bytes n a b) i
    ∙ tab_ext 16 _ _ (λ k h. get_or-xor n a b (16 * i + k) (omega arith))
    ∙ sym (ap₂ (λ (x y : List ℕ). x ⊕ y) (word_is a i) (word_is b i) ∙ xor_tab 16 _ _)

-- ---- words joined

-- the words of s from i on, n of them, in front of a list
onto : List ℕ → ℕ → ℕ → List ℕ → List ℕ
onto s i zero rest = rest
onto s i (suc n) rest = word s i ++ onto s (suc i) n rest

word_here : (s : List ℕ) (i : ℕ) → 16 * i + 16 ≤ length s → take 16 (drop (16 * i) s) ≡ word s i
word_here s i l =
    same_list 16 _ _ (length-take-le 16 (drop (16 * i) s) (simp length-drop (omega arith))) (ap length (word_is s i) ∙ length-tab 16 _)
    (λ k h.
    get_or-take 16 (drop (16 * i) s) k 0 h
    ∙ get_or-drop (16 * i) s k 0
    ∙ sym (ap (λ (x : List ℕ). get_or x k 0) (word_is s i) ∙ get_or-tab 16 _ k h))

onto_from : (n : ℕ) (s : List ℕ) (i : ℕ) (rest : List ℕ) → length s ≡ 16 * (i + n) → drop (16 * i) s ++ rest ≡ onto s i n rest
unfolding onto
onto_from zero s i rest l = let all : length s ≤ 16 * i = omega arith in ap (λ (x : List ℕ). x ++ rest) (drop_of_length-le s all)
onto_from (suc n) s i rest l =
    ap (λ (x : List ℕ). x ++ rest)
    (sym (take-append-drop 16 (drop (16 * i) s))
    ∙ ap₂ (λ (x y : List ℕ). x ++ y) (word_here s i (omega arith)) (drop-drop 16 (16 * i) s ∙ ap (λ (k : ℕ). drop k s) (next i)))
    ∙ append_assoc (word s i) (drop (16 * suc i) s) rest
    ∙ ap (λ (x : List ℕ). word s i ++ x) (onto_from n s (suc i) rest (omega arith))
  where
    next : (i : ℕ) → 16 * i + 16 ≡ 16 * suc i
    next i = omega arith

onto_is : (n : ℕ) (s rest : List ℕ) → length s ≡ 16 * n → s ++ rest ≡ onto s 0 n rest
onto_is n s rest l = onto_from n s 0 rest (omega arith)

-- ---- the square

loaded51 : (v m : List ℕ) → length v ≡ 32 → length m ≡ 224 → loading51 (word v) (word m) ≡ v ++ m
unfolding loading51 table onto
loaded51 v m lv lm = sym (onto_is 2 v m lv ∙ ap (onto v 0 2) (sym (append-nil m) ∙ onto_is 14 m [] lm ∙ ap (onto m 0 13) (append-nil (word m 13))))

loaded52 : (v m : List ℕ) → length v ≡ 64 → length m ≡ 192 → loading52 (word v) (word m) ≡ v ++ m
unfolding loading52 table onto
loaded52 v m lv lm = sym (onto_is 4 v m lv ∙ ap (onto v 0 4) (sym (append-nil m) ∙ onto_is 12 m [] lm ∙ ap (onto m 0 11) (append-nil (word m 11))))

-- the words of a chaining variable of n words and of the block behind it
module _ (n : ℕ) (v m : List ℕ) (l : length v ≡ 16 * n) where
  word_of_chaining : (i : ℕ) → i < n → word (v ++ m) i ≡ word v i
  word_of_chaining i h =
      word_is (v ++ m) i ∙ tab_ext 16 _ _ (λ k lt. first_part (16 * n) v m l (16 * i + k) (omega arith)) ∙ sym (word_is v i)

  word_of_block : (i : ℕ) → word (v ++ m) (n + i) ≡ word m i
  word_of_block i =
      word_is (v ++ m) (n + i)
      ∙ tab_ext 16 _ _ (λ k lt. ap (λ (x : ℕ). get_or (v ++ m) x 0) (place k) ∙ second_part (16 * n) v m l (16 * i + k))
      ∙ sym (word_is m i)
    where
      place : (k : ℕ) → 16 * (n + i) + k ≡ 16 * n + (16 * i + k)
      place k = omega arith

-- ---- the output

rounds_long : (n : ℕ) (key : ℕ → List ℕ) (salt s : List ℕ) → length (rounds (suc n) key salt s) ≡ 256
unfolding rounds big_round big_mix_columns
rounds_long n key salt s = length_mix_columns 16 _ _

-- the xor of the folds to 64 bytes of a loaded square s and a finished one w, in words
module _ (s w : List ℕ) (ls : length s ≡ 256) (lw : length w ≡ 256) where
  abbrev x : ℕ → List ℕ
  x i = word s i ⊕ word s (i + 4) ⊕ word s (i + 8) ⊕ word s (i + 12) ⊕ word w i ⊕ word w (i + 4) ⊕ word w (i + 8) ⊕ word w (i + 12)

  folds : (i : ℕ) → i < 4 → word (fold 64 s) i ⊕ word (fold 64 w) i ≡ x i
  folds i h = ap₂ (λ (a b : List ℕ). a ⊕ b) (fold_short s ls i h) (fold_short w lw i h) ∙ one_by_one _ _ _ _ _

  output_64 : (i : ℕ) → i < 4 → word (xor_bytes 64 (fold 64 s) (fold 64 w)) i ≡ x i
  output_64 i h = word_xor 64 i (fold 64 s) (fold 64 w) (omega arith) ∙ folds i h

  output_32 : (i : ℕ) → i < 2 → word (xor_bytes 32 (fold 32 s) (fold 32 w)) i ≡ x i ⊕ x (i + 2)
  output_32 i h =
      word_xor 32 i (fold 32 s) (fold 32 w) (omega arith)
      ∙ ap₂ (λ (a b : List ℕ). a ⊕ b) (fold_single s ls i h) (fold_single w lw i h)
      ∙ ⊕_swap _ _ _ _
      ∙ ap₂ (λ (a b : List ℕ). a ⊕ b) (folds i (omega arith)) (folds (i + 2) (omega arith))

-- ---- both together

module _ (key : ℕ → List ℕ) (salt v m : List ℕ) where
  pub as_printed_51 : length v ≡ 32 → length m ≡ 224 → compress 32 8 key salt v m ≡ compress51 key salt v m
  unfolding compress big_final compress51 output51 onto
  as_printed_51 lv lm =
      ap (λ (a : List ℕ). xor_bytes 32 a (fold 32 w)) (sym (fold_loaded 32 v m 7 (lit< tt) lv lm))
      ∙ sym (append-nil r)
      ∙ onto_is 2 r [] (length-xor 32 _ _)
      ∙ ap₂ (λ (a b : List ℕ). a ++ b) (output_32 s w ls lw 0 (lit< tt)) (append-nil _ ∙ output_32 s w ls lw 1 (lit< tt))
      ∙ rw (
        chaining 0 (lit< tt),
        chaining 1 (lit< tt),
        block 0,
        block 1,
        block 2,
        block 3,
        block 4,
        block 5,
        block 6,
        block 7,
        block 8,
        block 9,
        block 10,
        block 11,
        block 12,
        block 13,
        loaded51 v m lv lm,
      )
    where
      s : List ℕ
      s = v ++ m

      w : List ℕ
      w = rounds 8 key salt s

      r : List ℕ
      r = xor_bytes 32 (fold 32 s) (fold 32 w)

      ls : length s ≡ 256
      ls = length-append v m ∙ omega arith

      lw : length w ≡ 256
      lw = rounds_long 7 key salt s

      chaining : (i : ℕ) → i < 2 → word s i ≡ word v i
      chaining = word_of_chaining 2 v m lv

      block : (i : ℕ) → word s (2 + i) ≡ word m i
      block = word_of_block 2 v m lv

  pub as_printed_52 : length v ≡ 64 → length m ≡ 192 → compress 64 10 key salt v m ≡ compress52 key salt v m
  unfolding compress big_final compress52 output52 onto
  as_printed_52 lv lm =
      ap (λ (a : List ℕ). xor_bytes 64 a (fold 64 w)) (sym (fold_loaded 64 v m 3 (lit< tt) lv lm))
      ∙ sym (append-nil r)
      ∙ onto_is 4 r [] (length-xor 64 _ _)
      ∙ ap₂ (λ (a b : List ℕ). a ++ b) (output_64 s w ls lw 0 (lit< tt))
      (ap₂ (λ (a b : List ℕ). a ++ b) (output_64 s w ls lw 1 (lit< tt))
      (ap₂ (λ (a b : List ℕ). a ++ b) (output_64 s w ls lw 2 (lit< tt)) (append-nil _ ∙ output_64 s w ls lw 3 (lit< tt))))
      ∙ rw (
        chaining 0 (lit< tt),
        chaining 1 (lit< tt),
        chaining 2 (lit< tt),
        chaining 3 (lit< tt),
        block 0,
        block 1,
        block 2,
        block 3,
        block 4,
        block 5,
        block 6,
        block 7,
        block 8,
        block 9,
        block 10,
        block 11,
        loaded52 v m lv lm,
      )
    where
      s : List ℕ
      s = v ++ m

      w : List ℕ
      w = rounds 10 key salt s

      r : List ℕ
      r = xor_bytes 64 (fold 64 s) (fold 64 w)

      ls : length s ≡ 256
      ls = length-append v m ∙ omega arith

      lw : length w ≡ 256
      lw = rounds_long 9 key salt s

      chaining : (i : ℕ) → i < 4 → word s i ≡ word v i
      chaining = word_of_chaining 4 v m lv

      block : (i : ℕ) → word s (4 + i) ≡ word m i
      block = word_of_block 4 v m lv
