-- The steps of a round on the square: results are squares again, the ways back undo, and row shift and column mix go through xor.
-- Assumes nothing.
use Rattle.std.proofs.Common.{◌≡◌, ℕ, zero, suc, ◌+◌, ◌-◌, ◌*◌, ◌<◌, ◌≤◌, List, length, get_or, sym, refl, ap, ◌∙◌, add-one, arith}
use Rattle.aes_round.specs.Array.{array, entry}
use Rattle.aes_round.specs.Bytes.{Bytes}
use Rattle.aes_round.specs.Mixing.{backward, forward}
use Rattle.aes_round.specs.Rounds.{aes_round, aes_round_back}
use Rattle.aes_round.proofs.Promises.{array_bytes, backward_bytes, entry_array, entry_byte, forward_bytes, get_or-tab, is_array, is_tab, length_round}
use Rattle.aes_round.proofs.Promises.{length_round_back, mix_columns_back_undone, mix_columns_bytes, mix_columns_undone, round_back_bytes}
use Rattle.aes_round.proofs.Promises.{round_bytes, shift_back_bytes, shift_back_undone, shift_bytes, shift_undone, tab_bytes}
use Rattle.aes_round.proofs.Theorems.{the_round_is_undone, the_round_undoes}
use Rattle.echo.specs.Square.{big_mix_columns, big_mix_columns_back, big_round, big_round_back, big_shift_rows, big_shift_rows_back, big_sub_words}
use Rattle.echo.specs.Square.{big_sub_words_back, rounds, rounds_back, word}

-- the subkeys are words
abbrev pub Keys : (ℕ → List ℕ) → Type 0
Keys key = (number : ℕ) → Bytes 16 (key number)

-- ---- words

pub get_or-word : (s : List ℕ) (i b : ℕ) → b < 16 → get_or (word s i) b 0 ≡ entry 16 s i b
unfolding word
get_or-word s i b h = get_or-tab 16 _ b h

pub word_bytes : (s : List ℕ) (i : ℕ) → Bytes 256 s → Bytes 16 (word s i)
unfolding word
word_bytes s i S = tab_bytes 16 _ (λ b h. entry_byte 16 s S i b)

-- words put together, and one of them taken out again
word_array : (f : ℕ → List ℕ) (i : ℕ) → i < 16 → length (f i) ≡ 16 → word (array 16 (λ i b. get_or (f i) b 0)) i ≡ f i
unfolding word
word_array f i h l = sym (is_tab 16 (f i) _ l (λ b hb. sym (entry_array 16 _ i b h hb)))

-- words rewritten one by one by f, and back by g
words_undone : (f g : ℕ → List ℕ → List ℕ) → ((i : ℕ) (w : List ℕ) → length (f i w) ≡ 16) → ((i : ℕ) (w : List ℕ) → Bytes 16 w → g i (f i w) ≡ w)
    → (s : List ℕ) → Bytes 256 s → array 16 (λ i b. get_or (g i (word (array 16 (λ i b. get_or (f i (word s i)) b 0)) i)) b 0) ≡ s
words_undone f g l undo s S =
    sym (is_array 16 s _ S.long
    (λ i b hi hb.
    sym (get_or-word s i b hb)
    ∙ sym (ap (λ (w : List ℕ). get_or w b 0) (ap (g i) (word_array (λ i. f i (word s i)) i hi (l i (word s i))) ∙ undo i (word s i) (word_bytes s i S)))))

-- the word i after BIG.SubWords
pub sub_words_word : (key : ℕ → List ℕ) (salt s : List ℕ) (i : ℕ) → i < 16 → word (big_sub_words key salt s) i ≡ aes_round (aes_round (word s i) (key i)) salt
unfolding big_sub_words
sub_words_word key salt s i h = word_array (λ i. aes_round (aes_round (word s i) (key i)) salt) i h (length_round _ salt)

module _ (key : ℕ → List ℕ) (salt : List ℕ) (K : Keys key) (L : Bytes 16 salt) where
  -- ---- BIG.SubWords

  two_bytes : (i : ℕ) (w : List ℕ) → Bytes 16 w → Bytes 16 (aes_round (aes_round w (key i)) salt)
  two_bytes i w W = round_bytes _ salt (round_bytes w (key i) W (K i)) L

  two_back_bytes : (i : ℕ) (w : List ℕ) → Bytes 16 w → Bytes 16 (aes_round_back (aes_round_back w salt) (key i))
  two_back_bytes i w W = round_back_bytes _ (key i) (round_back_bytes w salt W L) (K i)

  two_undone : (i : ℕ) (w : List ℕ) → Bytes 16 w → aes_round_back (aes_round_back (aes_round (aes_round w (key i)) salt) salt) (key i) ≡ w
  two_undone i w W =
      ap (λ (x : List ℕ). aes_round_back x (key i)) (the_round_is_undone (aes_round w (key i)) salt (round_bytes w (key i) W (K i)))
      ∙ the_round_is_undone w (key i) W

  two_back_undone : (i : ℕ) (w : List ℕ) → Bytes 16 w → aes_round (aes_round (aes_round_back (aes_round_back w salt) (key i)) (key i)) salt ≡ w
  two_back_undone i w W =
      ap (λ (x : List ℕ). aes_round x salt) (the_round_undoes (aes_round_back w salt) (key i) (round_back_bytes w salt W L) (K i))
      ∙ the_round_undoes w salt W L

  pub sub_words_bytes : (s : List ℕ) → Bytes 256 s → Bytes 256 (big_sub_words key salt s)
  unfolding big_sub_words
  sub_words_bytes s S = array_bytes 16 _ (λ i b hi hb. (two_bytes i (word s i) (word_bytes s i S)).small b)

  sub_words_back_bytes : (s : List ℕ) → Bytes 256 s → Bytes 256 (big_sub_words_back key salt s)
  unfolding big_sub_words_back
  sub_words_back_bytes s S = array_bytes 16 _ (λ i b hi hb. (two_back_bytes i (word s i) (word_bytes s i S)).small b)

  sub_words_undone : (s : List ℕ) → Bytes 256 s → big_sub_words_back key salt (big_sub_words key salt s) ≡ s
  unfolding big_sub_words big_sub_words_back
  sub_words_undone =
      words_undone (λ i w. aes_round (aes_round w (key i)) salt) (λ i w. aes_round_back (aes_round_back w salt) (key i)) (λ i w. length_round _ salt) two_undone

  sub_words_back_undone : (s : List ℕ) → Bytes 256 s → big_sub_words key salt (big_sub_words_back key salt s) ≡ s
  unfolding big_sub_words big_sub_words_back
  sub_words_back_undone =
      words_undone (λ i w. aes_round_back (aes_round_back w salt) (key i)) (λ i w. aes_round (aes_round w (key i)) salt)
      (λ i w. length_round_back _ (key i)) two_back_undone

  -- ---- BIG.Round

  round_is_square : (s : List ℕ) → Bytes 256 s → Bytes 256 (big_round key salt s)
  unfolding big_round big_shift_rows big_mix_columns
  round_is_square s S = mix_columns_bytes 16 forward _ forward_bytes (shift_bytes 16 _ (sub_words_bytes s S))

  round_back_is_square : (s : List ℕ) → Bytes 256 s → Bytes 256 (big_round_back key salt s)
  unfolding big_round_back big_shift_rows_back big_mix_columns_back
  round_back_is_square s S = sub_words_back_bytes _ (shift_back_bytes 16 _ (mix_columns_bytes 16 backward s backward_bytes S))

  big_round_undone : (s : List ℕ) → Bytes 256 s → big_round_back key salt (big_round key salt s) ≡ s
  unfolding big_round big_round_back big_shift_rows big_shift_rows_back big_mix_columns big_mix_columns_back
  big_round_undone s S =
      let A : Bytes 256 (big_sub_words key salt s) = sub_words_bytes s S in
      ap (λ (x : List ℕ). big_sub_words_back key salt (big_shift_rows_back x)) (mix_columns_undone 16 _ (shift_bytes 16 _ A))
      ∙ ap (big_sub_words_back key salt) (shift_undone 16 _ A.long)
      ∙ sub_words_undone s S

  big_round_back_undone : (s : List ℕ) → Bytes 256 s → big_round key salt (big_round_back key salt s) ≡ s
  unfolding big_round big_round_back big_shift_rows big_shift_rows_back big_mix_columns big_mix_columns_back
  big_round_back_undone s S =
      let A : Bytes 256 (big_mix_columns_back s) = mix_columns_bytes 16 backward s backward_bytes S in
      ap (λ (x : List ℕ). big_mix_columns (big_shift_rows x)) (sub_words_back_undone _ (shift_back_bytes 16 _ A))
      ∙ ap big_mix_columns (shift_back_undone 16 _ A.long)
      ∙ mix_columns_back_undone 16 s S

-- ---- the rounds, over their number

module _ (key : ℕ → List ℕ) (salt : List ℕ) (K : Keys key) (L : Bytes 16 salt) where
  keys_of : (n : ℕ) → Keys (λ i. key (16 * n + i))
  keys_of n i = K (16 * n + i)

  pub rounds_are_squares : (n : ℕ) (s : List ℕ) → Bytes 256 s → Bytes 256 (rounds n key salt s)
  unfolding rounds
  rounds_are_squares zero s S = S
  rounds_are_squares (suc n) s S = round_is_square _ salt (keys_of n) L _ (rounds_are_squares n s S)

  pub rounds_back_are_squares : (n : ℕ) (s : List ℕ) → Bytes 256 s → Bytes 256 (rounds_back n key salt s)
  unfolding rounds_back
  rounds_back_are_squares zero s S = S
  rounds_back_are_squares (suc n) s S = rounds_back_are_squares n _ (round_back_is_square _ salt (keys_of n) L s S)

  pub rounds_undone : (n : ℕ) (s : List ℕ) → Bytes 256 s → rounds_back n key salt (rounds n key salt s) ≡ s
  unfolding rounds rounds_back
  rounds_undone zero s S = refl
  rounds_undone (suc n) s S =
      ap (rounds_back n key salt) (big_round_undone _ salt (keys_of n) L _ (rounds_are_squares n s S)) ∙ rounds_undone n s S

  pub rounds_back_undone : (n : ℕ) (s : List ℕ) → Bytes 256 s → rounds n key salt (rounds_back n key salt s) ≡ s
  unfolding rounds rounds_back
  rounds_back_undone zero s S = refl
  rounds_back_undone (suc n) s S =
      ap (big_round (λ i. key (16 * n + i)) salt) (rounds_back_undone n _ (round_back_is_square _ salt (keys_of n) L s S))
      ∙ big_round_back_undone _ salt (keys_of n) L s S

-- ---- what the code's loops do, round after round

module _ (key : ℕ → List ℕ) (salt s₀ : List ℕ) where
  -- n rounds are done, from the square s₀ to s
  pub Ran : ℕ → List ℕ → Type 0
  Ran n s = s ≡ rounds n key salt s₀

  pub ran_none : Ran 0 s₀
  unfolding Ran rounds
  ran_none = refl

  -- the premises stand in the order in which `search` finds them within its bounds
  pub ran_more : (n : ℕ) (s a b c : List ℕ) → Ran n s → b ≡ big_shift_rows a → c ≡ big_mix_columns b → a ≡ big_sub_words (λ i. key (16 * n + i)) salt s
      → Ran (n + 1) c
  unfolding Ran rounds big_round
  ran_more n s a b c R shift mix sub =
      mix
      ∙ ap big_mix_columns (shift ∙ ap big_shift_rows (sub ∙ ap (big_sub_words (λ i. key (16 * n + i)) salt) R))
      ∙ ap (λ (m : ℕ). rounds m key salt s₀) (sym (add-one n))

  -- the same of the rounds themselves
  pub one_more : (n : ℕ)
      → big_mix_columns (big_shift_rows (big_sub_words (λ i. key (16 * n + i)) salt (rounds n key salt s₀))) ≡ rounds (n + 1) key salt s₀
  unfolding Ran
  one_more n = ran_more n _ _ _ _ refl refl refl refl

  pub ran_all : (n count : ℕ) (s : List ℕ) → Ran n s → n ≤ count → count ≤ n → s ≡ rounds count key salt s₀
  unfolding Ran
  ran_all n count s R most least = let same : n ≡ count = omega arith in R ∙ ap (λ (m : ℕ). rounds m key salt s₀) same

  -- the way back: n rounds of `count` are left to undo, from the square s
  pub Left : ℕ → ℕ → List ℕ → Type 0
  Left count n s = rounds_back n key salt s ≡ rounds_back count key salt s₀

  module _ (count : ℕ) where
    pub all_left : Left count count s₀
    unfolding Left
    all_left = refl

    pub less_left : (n : ℕ) (s a b c : List ℕ) → Left count n s → 0 < n → a ≡ big_mix_columns_back s → b ≡ big_shift_rows_back a
        → c ≡ big_sub_words_back (λ i. key (16 * (n - 1) + i)) salt b → Left count (n - 1) c
    unfolding Left rounds_back big_round_back
    less_left n s a b c L h mix shift sub =
        let one : suc (n - 1) ≡ n = omega arith in
        ap (rounds_back (n - 1) key salt) (sub ∙ ap (big_sub_words_back (λ i. key (16 * (n - 1) + i)) salt) (shift ∙ ap big_shift_rows_back mix))
        ∙ ap (λ (m : ℕ). rounds_back m key salt s) one
        ∙ L

    pub none_left : (n : ℕ) (s : List ℕ) → Left count n s → n ≤ 0 → s ≡ rounds_back count key salt s₀
    unfolding Left rounds_back
    none_left n s L none = let same : 0 ≡ n = omega arith in ap (λ (m : ℕ). rounds_back m key salt s) same ∙ L
