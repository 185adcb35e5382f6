-- Loops over the words of a square. Assumes nothing.
use Rattle.std.proofs.Common.{◌≡◌, ℕ, ◌+◌, ◌*◌, ◌/◌, ◌%◌, ◌<◌, ◌≤◌, List, length, get_or, sym, ap, ◌∙◌, subst, ap₂, zero-add, arith}
use Rattle.aes_round.specs.Array.{array}
use Rattle.aes_round.specs.Bytes.{tab}
use Rattle.aes_round.proofs.Promises.{Filled, entry_is, entry_shift, entry_shift_back, fill_all, fill_none, is_tab, tab_array, tab_ext}
use Rattle.echo.specs.Placed.{Placed}
use Rattle.echo.specs.Square.{big_shift_rows, big_shift_rows_back, word}
use Rattle.echo.proofs.Laws.Placed.{fill_part}

-- a word by the bytes that the code reads
pub word_is : (s : List ℕ) (i : ℕ) → word s i ≡ tab 16 (λ b. get_or s (16 * i + b) 0)
unfolding word
word_is s i = tab_ext 16 _ _ (λ b h. entry_is 16 s i b)

-- sixteen bytes read one by one
pub sixteen_are : (l : List ℕ) → length l ≡ 16 → tab 16 (λ k. get_or l (0 + k) 0) ≡ l
sixteen_are l e = sym (is_tab 16 l _ e (λ k h. ap (λ (i : ℕ). get_or l i 0) (sym (zero-add k))))

-- ---- a loop that rewrites word after word: f i is the new word i

abbrev bytes_of : (ℕ → List ℕ) → ℕ → ℕ
bytes_of f k = get_or (f (k / 16)) (k % 16) 0

module _ (f : ℕ → List ℕ) (l : List ℕ) where
  -- the first j words are new
  Words : ℕ → List ℕ → Type 0
  Words j s = Filled 256 (bytes_of f) l (16 * j) s

  no_words : length l ≡ 256 → Words 0 l
  unfolding Words
  no_words = fill_none 256 (bytes_of f) l

  -- the word j is still the old one
  old_word : (j : ℕ) (s : List ℕ) → Words j s → tab 16 (λ b. get_or s (16 * j + b) 0) ≡ word l j
  unfolding Words
  old_word j s F = tab_ext 16 _ _ (λ b h. F.rest (16 * j + b) (omega arith)) ∙ sym (word_is l j)

  next_word : (j : ℕ) (s w t : List ℕ) → Words j s → j < 16 → Placed s (16 * j) w 16 t → w ≡ f j → Words (j + 1) t
  unfolding Words
  next_word j s w t F h P e =
      subst (λ (k : ℕ). Filled 256 (bytes_of f) l k t) (steps j)
      (fill_part 256 (bytes_of f) l (16 * j) s w t 16 F P (omega arith)
      (λ b hb. ap (λ (v : List ℕ). get_or v b 0) e ∙ ap₂ (λ (q r : ℕ). get_or (f q) r 0) (quotient j b hb) (remainder j b hb)))
    where
      steps : (j : ℕ) → 16 * j + 16 ≡ 16 * (j + 1)
      steps j = omega arith

      quotient : (j b : ℕ) → b < 16 → j ≡ (16 * j + b) / 16
      quotient j b h = omega arith

      remainder : (j b : ℕ) → b < 16 → b ≡ (16 * j + b) % 16
      remainder j b h = omega arith

  all_words : (j : ℕ) (s : List ℕ) → Words j s → 16 ≤ j → s ≡ array 16 (λ i b. get_or (f i) b 0)
  unfolding Words
  all_words j s F h =
      fill_all 256 (bytes_of f) l (16 * j) s F (omega arith)
      ∙ tab_array 16 (bytes_of f) _ (λ i b hi hb. ap₂ (λ (q r : ℕ). get_or (f q) r 0) (quotient i b hb) (remainder i b hb))
    where
      quotient : (j b : ℕ) → b < 16 → (16 * j + b) / 16 ≡ j
      quotient j b h = omega arith

      remainder : (j b : ℕ) → b < 16 → (16 * j + b) % 16 ≡ b
      remainder j b h = omega arith

-- ---- word after word goes through f, each with its number from `first` on

module _ (f : List ℕ → ℕ → List ℕ) (first : ℕ) (l : List ℕ) where
  -- the first j words are through
  pub Through : ℕ → List ℕ → Type 0
  Through = Words (λ i. f (word l i) (first + i)) l

  pub none_through : length l ≡ 256 → Through 0 l
  unfolding Through
  none_through = no_words _ l

  pub next_through : (j : ℕ) (s w t r : List ℕ) → Placed s (16 * j) t (length t) r → t ≡ f w (first + j) → w ≡ tab 16 (λ b. get_or s (16 * j + b) 0)
      → length t ≡ 16 → j < 16 → Through j s → Through (j + 1) r
  unfolding Through
  next_through j s w t r P e p lt h T =
      next_word _ l j s t r T h (subst (λ (n : ℕ). Placed s (16 * j) t n r) lt P)
      (e ∙ ap (λ (x : List ℕ). f x (first + j)) (p ∙ old_word _ l j s T))

  pub all_through : (j : ℕ) (s : List ℕ) → Through j s → 16 ≤ j → s ≡ array 16 (λ i b. get_or (f (word l i) (first + i)) b 0)
  unfolding Through
  all_through = all_words _ l

-- ---- BIG.ShiftRows and its way back: the word that comes to place i

pub shifted_word : (s : List ℕ) (i : ℕ) → i < 16 → word (big_shift_rows s) i ≡ word s (5 * i % 16)
unfolding word big_shift_rows
shifted_word s i h = tab_ext 16 _ _ (λ b hb. entry_shift 16 s i b h hb)

pub shifted_back_word : (s : List ℕ) (i : ℕ) → i < 16 → word (big_shift_rows_back s) i ≡ word s (13 * i % 16)
unfolding word big_shift_rows_back
shifted_back_word s i h = tab_ext 16 _ _ (λ b hb. entry_shift_back 16 s i b h hb)
