-- Words moved along the rows of a square, in place: a word pulled up, a row turned by one place and by many, and all four rows. Assumes nothing.
use Rattle.std.proofs.Common.{◌≡◌, ℕ, ◌+◌, ◌-◌, ◌*◌, ◌/◌, ◌%◌, ◌<◌, ◌≤◌, ◌≢◌, List, length, get_or, sym, refl, ap, ◌∙◌, subst, ⊎_elim, arith, below_none, below_more}
use Rattle.std.specs.List.{CopiedTo, SameBelow, SameFrom}
use Rattle.aes_round.specs.Array.{entry}
use Rattle.aes_round.specs.Bytes.{tab}
use Rattle.aes_round.proofs.Promises.{agree, entry_is, is_array, is_tab, length_shift, length_shift_back, length-tab, lt_or_le, tab_ext}
use Rattle.echo.specs.Placed.{Placed}
use Rattle.echo.specs.Square.{big_shift_rows, big_shift_rows_back, word}
use Rattle.echo.proofs.Laws.Square.{get_or-word}
use Rattle.echo.proofs.Laws.Words.{shifted_back_word, shifted_word, word_is}

-- ---- squares by their words

length-word : (s : List ℕ) (i : ℕ) → length (word s i) ≡ 16
unfolding word
length-word s i = length-tab 16 _

same_words : (s t : List ℕ) → length s ≡ 256 → length t ≡ 256 → ((e : ℕ) → e < 16 → word s e ≡ word t e) → s ≡ t
same_words s t ls lt words =
    is_array 16 s (entry 16 t) ls
    (λ e b he hb. sym (get_or-word s e b hb) ∙ ap (λ (w : List ℕ). get_or w b 0) (words e he) ∙ get_or-word t e b hb)
    ∙ sym (is_array 16 t (entry 16 t) lt (λ e b he hb. refl))

length-forth : (s : List ℕ) → length (big_shift_rows s) ≡ 256
unfolding big_shift_rows
length-forth = length_shift 16

length_back : (s : List ℕ) → length (big_shift_rows_back s) ≡ 256
unfolding big_shift_rows_back
length_back = length_shift_back 16

-- ---- a word that becomes the next one of its row

pub pulled : (l r : List ℕ) (e : ℕ) → length r ≡ length l
    → CopiedTo l r (16 * (e + 4)) (16 * e) (16 * (e + 5) - 16 * (e + 4)) × SameBelow l r (16 * e) × SameFrom l r (16 * e + (16 * (e + 5) - 16 * (e + 4)))
    → Placed l (16 * e) (word l (e + 4)) 16 r
pulled l r e long by_index = record {
  long = long;
  before = λ k h. by_index.1 k 0 h;
  inside = λ k h.
      by_index.0 (16 * e + k) 0 (omega arith) (omega arith) ∙ ap (λ (i : ℕ). get_or l i 0) (place k)
      ∙ sym (entry_is 16 l (e + 4) k) ∙ sym (get_or-word l (e + 4) k h);
  behind = λ k h. by_index.2 k 0 (omega arith);
}
  where
    place : (k : ℕ) → 16 * (e + 4) + (16 * e + k - 16 * e) ≡ 16 * (e + 4) + k
    place k = omega arith

-- ---- the words of a square into which a word was put

put_word : (l w r : List ℕ) (i : ℕ) → Placed l (16 * i) w 16 r → length w ≡ 16 → word r i ≡ w
put_word l w r i P e = word_is r i ∙ sym (is_tab 16 w _ e (λ b h. sym (P.inside b h)))

other_word : (l w r : List ℕ) (i e : ℕ) → Placed l (16 * i) w 16 r → e ≢ i → word r e ≡ word l e
other_word l w r i e P h =
    word_is r e
    ∙ tab_ext 16 _ _ (λ b hb.
    ⊎_elim (λ (lt : e < i). P.before (16 * e + b) (omega arith)) (λ (le : i ≤ e). P.behind (16 * e + b) (omega (arith, h))) (lt_or_le e i))
    ∙ sym (word_is l e)

-- ---- one place: the first word was kept aside, the others moved up, and the first came back as the last

-- the first j words of the row have come up from the next place
pub record Up (i : ℕ) (l : List ℕ) (j : ℕ) (s : List ℕ) : Type 0 where
  pub up : (k : ℕ) → k < j → word s (i + 4 * k) ≡ word l (i + 4 * (k + 1))
  pub still : (k : ℕ) → j ≤ k → word s (i + 4 * k) ≡ word l (i + 4 * k)
  pub others : (e : ℕ) → e % 4 ≢ i → word s e ≡ word l e

pub none_up : (i : ℕ) (l : List ℕ) → Up i l 0 l
none_up i l = record { up = below_none _; still = λ k h. refl; others = λ e ne. refl }

pub next_up : (i j : ℕ) (l s t : List ℕ) → Up i l j s → Placed s (16 * (i + 4 * j)) (word s (i + 4 * j + 4)) 16 t → i < 4 → Up i l (j + 1) t
next_up i j l s t U P low = record {
  up = below_more (λ k. word t (i + 4 * k) ≡ word l (i + 4 * (k + 1))) j
      (λ k h. other_word s _ t (i + 4 * j) (i + 4 * k) P (λ q. omega arith) ∙ U.up k h)
      (put_word s _ t (i + 4 * j) P (length-word s (i + 4 * j + 4)) ∙ ap (word s) (next i j) ∙ U.still (j + 1) (omega arith));
  still = λ k h. other_word s _ t (i + 4 * j) (i + 4 * k) P (λ q. omega arith) ∙ U.still k (omega arith);
  others = λ e ne. other_word s _ t (i + 4 * j) e P (λ q. ne (omega arith)) ∙ U.others e ne;
}
  where
    next : (i j : ℕ) → i + 4 * j + 4 ≡ i + 4 * (j + 1)
    next i j = omega arith

module _ (i n : ℕ) (l s spare t : List ℕ) (P : Placed s (16 * (i + 12)) spare (length spare) t) (U : Up i l n s)
    (kept : spare ≡ tab 16 (λ k. get_or l (16 * i + k) 0)) (low : i < 4) (most : n ≤ 3) (least : 3 ≤ n) where
  put : Placed s (16 * (i + 12)) spare 16 t
  put = subst (λ (k : ℕ). Placed s (16 * (i + 12)) spare k t) (ap length kept ∙ length-tab 16 _) P

  pub once_along : (j : ℕ) → j < 4 → word t (i + 4 * j) ≡ word l (i + 4 * ((j + 1) % 4))
  once_along j h = ⊎_elim came_up came_back (lt_or_le j 3)
    where
      came_up : j < 3 → word t (i + 4 * j) ≡ word l (i + 4 * ((j + 1) % 4))
      came_up lt =
          other_word s spare t (i + 12) (i + 4 * j) put (λ q. omega arith)
          ∙ U.up j (omega arith)
          ∙ ap (λ (k : ℕ). word l (i + 4 * k)) (let next : j + 1 ≡ (j + 1) % 4 = omega arith in next)

      came_back : 3 ≤ j → word t (i + 4 * j) ≡ word l (i + 4 * ((j + 1) % 4))
      came_back le =
          ap (word t) (let last : i + 4 * j ≡ i + 12 = omega arith in last)
          ∙ put_word s spare t (i + 12) put (ap length kept ∙ length-tab 16 _)
          ∙ kept
          ∙ sym (word_is l i)
          ∙ ap (word l) (let first : i ≡ i + 4 * ((j + 1) % 4) = omega arith in first)

  pub once_others : (e : ℕ) → e % 4 ≢ i → word t e ≡ word l e
  once_others e ne = other_word s spare t (i + 12) e put (λ q. ne (omega arith)) ∙ U.others e ne

-- ---- the row i turned by n places: t is what s became

pub record Turned (i n : ℕ) (s t : List ℕ) : Type 0 where
  pub along : (j : ℕ) → j < 4 → word t (i + 4 * j) ≡ word s (i + 4 * ((j + n) % 4))
  pub others : (e : ℕ) → e % 4 ≢ i → word t e ≡ word s e

pub not_turned : (i : ℕ) (s : List ℕ) → Turned i 0 s s
not_turned i s = record { along = λ j h. ap (λ (m : ℕ). word s (i + 4 * m)) (same j h); others = λ e ne. refl }
  where
    same : (j : ℕ) → j < 4 → j ≡ (j + 0) % 4
    same j h = omega arith

pub next_turn : (i n : ℕ) (l s t : List ℕ) → ((j : ℕ) → j < 4 → word t (i + 4 * j) ≡ word s (i + 4 * ((j + 1) % 4)))
    → ((e : ℕ) → e % 4 ≢ i → word t e ≡ word s e) → Turned i n l s → i < 4 → Turned i (n + 1) l t
next_turn i n l s t along others T low = record {
  along = λ j h. along j h ∙ T.along ((j + 1) % 4) (omega arith) ∙ ap (λ (k : ℕ). word l (i + 4 * k)) (sum j);
  others = λ e ne. others e ne ∙ T.others e ne;
}
  where
    sum : (j : ℕ) → ((j + 1) % 4 + n) % 4 ≡ (j + (n + 1)) % 4
    sum j = omega arith

module _ (i n places : ℕ) (s t : List ℕ) (T : Turned i n s t) (most : n ≤ places) (least : places ≤ n) where
  pub all_along : (j : ℕ) → j < 4 → word t (i + 4 * j) ≡ word s (i + 4 * ((j + places) % 4))
  all_along j h = T.along j h ∙ ap (λ (k : ℕ). word s (i + 4 * ((j + k) % 4))) (let all : n ≡ places = omega arith in all)

pub all_others : (i n : ℕ) (s t : List ℕ) → Turned i n s t → (e : ℕ) → e % 4 ≢ i → word t e ≡ word s e
all_others i n s t T = T.others

-- ---- the four rows, each turned by its own number of places to the left

module _ (places : ℕ → ℕ) where
  -- the place from which the word e comes
  abbrev from : ℕ → ℕ
  from e = e % 4 + 4 * ((e / 4 + places (e % 4)) % 4)

  -- the rows below i are turned
  pub record Rows (l : List ℕ) (i : ℕ) (s : List ℕ) : Type 0 where
    pub done : (e : ℕ) → e < 16 → e % 4 < i → word s e ≡ word l (from e)
    pub rest : (e : ℕ) → e < 16 → i ≤ e % 4 → word s e ≡ word l e

  pub next_row : (l s t : List ℕ) (i : ℕ) → Rows l i s → ((j : ℕ) → j < 4 → word t (i + 4 * j) ≡ word s (i + 4 * ((j + places i) % 4)))
      → ((e : ℕ) → e % 4 ≢ i → word t e ≡ word s e) → i < 4 → Rows l (i + 1) t
  next_row l s t i R along others low = record {
    done = λ e h lt. ⊎_elim (before e h) (now e h lt) (lt_or_le (e % 4) i);
    rest = λ e h le. others e (λ q. omega arith) ∙ R.rest e h (omega arith);
  }
    where
      before : (e : ℕ) → e < 16 → e % 4 < i → word t e ≡ word l (from e)
      before e h lt = others e (λ q. omega arith) ∙ R.done e h lt

      now : (e : ℕ) → e < 16 → e % 4 < i + 1 → i ≤ e % 4 → word t e ≡ word l (from e)
      now e h lt le =
          ap (word t) (let here : e ≡ i + 4 * (e / 4) = omega arith in here)
          ∙ along (e / 4) (omega arith)
          ∙ R.rest (i + 4 * ((e / 4 + places i) % 4)) (omega arith) (omega arith)
          ∙ ap (λ (k : ℕ). word l (k + 4 * ((e / 4 + places k) % 4))) (let row : i ≡ e % 4 = omega arith in row)

-- to the left, the row i by i places and, on the way back, by 4 - i
abbrev pub forth : ℕ → ℕ
forth i = i

abbrev pub back : ℕ → ℕ
back i = 4 - i

module _ (l s : List ℕ) (long : length s ≡ 256) where
  pub rows_forth : ((e : ℕ) → e < 16 → word s e ≡ word l (from forth e)) → s ≡ big_shift_rows l
  rows_forth comes =
      same_words s _ long (length-forth l)
      (λ e h. comes e h ∙ sym (shifted_word l e h ∙ ap (word l) (agree (λ e. 5 * e % 16) (from forth) 16 tt e h)))

  pub rows_back : ((e : ℕ) → e < 16 → word s e ≡ word l (from back e)) → s ≡ big_shift_rows_back l
  rows_back comes =
      same_words s _ long (length_back l)
      (λ e h. comes e h ∙ sym (shifted_back_word l e h ∙ ap (word l) (agree (λ e. 13 * e % 16) (from back) 16 tt e h)))
