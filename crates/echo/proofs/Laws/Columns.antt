-- The mix of a column of four words, byte position after byte position, and of the four columns of a square. Assumes nothing.
use Rattle.std.proofs.Common.{◌≡◌, ℕ, zero, suc, ◌+◌, ◌-◌, ◌*◌, ◌/◌, ◌%◌, ◌<◌, ◌≤◌, List, [], ◌∷◌, ◌++◌, length, get_or, take, drop, set, sym, refl, ap, ◌∙◌, subst, ⊎_elim, le_of_suc-le-suc, not-suc-le-zero, mod-lt, eq-or-lt_of_le, zero-add, arith, lit<, lit≤, length-set, get_or-drop, get_or-set_other, get_or-take, get_or-set_same, ext_get_or}
use Rattle.aes_round.specs.Array.{column}
use Rattle.aes_round.specs.Mixing.{mix_column}
use Rattle.aes_round.specs.Rounds.{mix_columns}
use Rattle.aes_round.proofs.Promises.{Filled, entry_is, entry_mix, fill_all, fill_none, get_or-column, get_or-tab, is_array, is_tab, length-column}
use Rattle.aes_round.proofs.Promises.{length_mix_columns, length-tab, tab_array}
use Rattle.echo.specs.Placed.{Placed}
use Rattle.echo.specs.Square.{mix_words}
use Rattle.echo.proofs.Laws.Placed.{fill_part, part_placed}

abbrev column_at : List ℕ → ℕ → List ℕ
column_at c b = get_or c b 0 ∷ get_or c (16 + b) 0 ∷ get_or c (32 + b) 0 ∷ get_or c (48 + b) 0 ∷ []

-- byte i of it, wherever i is
column_at_lem : (c : List ℕ) (b i : ℕ) → i < 4 → get_or (column_at c b) i 0 ≡ get_or c (16 * i + b) 0
column_at_lem c b zero h = ap (λ (k : ℕ). get_or c k 0) (omega arith)
column_at_lem c b (suc zero) h = refl
column_at_lem c b (suc (suc zero)) h = refl
column_at_lem c b (suc (suc (suc zero))) h = refl
column_at_lem c b (suc (suc (suc (suc i)))) h = absurd (omega arith)

-- ---- four stores

-- c with the first n of the four bytes of v at the byte position b of its four words
abbrev put : List ℕ → ℕ → List ℕ → ℕ → List ℕ
put c b v zero = c
put c b v (suc n) = set (put c b v n) (16 * n + b) (get_or v n 0)

module _ (c : List ℕ) (b : ℕ) (v : List ℕ) (l : length c ≡ 64) (h : b < 16) where
  put_long : (n : ℕ) → length (put c b v n) ≡ 64
  put_long zero = l
  put_long (suc n) = length-set (put c b v n) (16 * n + b) (get_or v n 0) ∙ put_long n

  put_same : (n q : ℕ) → n ≤ 4 → q < n → get_or (put c b v n) (16 * q + b) 0 ≡ get_or v q 0
  put_same zero q hn hq = absurd (not-suc-le-zero hq)
  put_same (suc n) q hn hq =
      ⊎_elim
      (λ (e : q ≡ n). ap (λ (k : ℕ). get_or (put c b v (suc n)) (16 * k + b) 0) e
      ∙ get_or-set_same (put c b v n) (16 * n + b) (get_or v n 0) 0 (subst (λ (m : ℕ). 16 * n + b < m) (sym (put_long n)) (omega arith))
      ∙ ap (λ (k : ℕ). get_or v k 0) (sym e))
      (λ (lt : q < n). get_or-set_other (put c b v n) (16 * n + b) (16 * q + b) (get_or v n 0) 0 (λ e. omega arith) ∙ put_same n q (omega arith) lt)
      (eq-or-lt_of_le (le_of_suc-le-suc hq))

  put_other : (n k : ℕ) → (k % 16 ≡ b → ⊥) → get_or (put c b v n) k 0 ≡ get_or c k 0
  put_other zero k o = refl
  put_other (suc n) k o = get_or-set_other (put c b v n) (16 * n + b) k (get_or v n 0) 0 (λ e. o (place n e)) ∙ put_other n k o
    where
      place : (n : ℕ) → k ≡ 16 * n + b → k % 16 ≡ b
      place n e = omega arith

-- ---- the loop over the byte positions of a column

module _ (m c₀ : List ℕ) where
  -- the positions below b are mixed
  pub record Mixed (b : ℕ) (c : List ℕ) : Type 0 where
    pub long : length c ≡ 64
    pub reach : b ≤ 16
    pub done : (q x : ℕ) → q < 4 → x < b → get_or c (16 * q + x) 0 ≡ get_or (mix_column m (column_at c₀ x)) q 0
    pub rest : (k : ℕ) → b ≤ k % 16 → get_or c k 0 ≡ get_or c₀ k 0

  -- the column at the position b is still the old one
  old_column : (b : ℕ) (c : List ℕ) → Mixed b c → b < 16 → column_at c b ≡ column_at c₀ b
  old_column b c M h = four (M.rest b (omega arith)) (M.rest (16 + b) (omega arith)) (M.rest (32 + b) (omega arith)) (M.rest (48 + b) (omega arith))
    where
      four : {x y z w x' y' z' w' : ℕ} → x ≡ x' → y ≡ y' → z ≡ z' → w ≡ w' → x ∷ y ∷ z ∷ w ∷ [] ≡ x' ∷ y' ∷ z' ∷ w' ∷ []
      four p q r s = cc

  mixed_put : (b : ℕ) (c v : List ℕ) → Mixed b c → b < 16 → v ≡ mix_column m (column_at c₀ b) → Mixed (b + 1) (put c b v 4)
  mixed_put b c v M h e = record {
    long = put_long c b v M.long h 4;
    reach = omega arith;
    done = λ q x hq hx.
        ⊎_elim
        (λ (p : x ≡ b). ap (λ (k : ℕ). get_or (put c b v 4) (16 * q + k) 0) p
        ∙ put_same c b v M.long h 4 q (lit≤ tt) hq
        ∙ ap (λ (u : List ℕ). get_or u q 0) e
        ∙ ap (λ (k : ℕ). get_or (mix_column m (column_at c₀ k)) q 0) (sym p))
        (λ (lt : x < b). put_other c b v M.long h 4 (16 * q + x) (other q x (omega arith) (λ p. omega arith)) ∙ M.done q x hq lt)
        (eq-or-lt_of_le (last x hx));
    rest = λ k le. put_other c b v M.long h 4 k (λ p. omega arith) ∙ M.rest k (omega arith);
  }
    where
      other : (q x : ℕ) → x < 16 → (x ≡ b → ⊥) → (16 * q + x) % 16 ≡ b → ⊥
      other q x hx n p = n (sym (inside q x hx) ∙ p)
        where
          inside : (q x : ℕ) → x < 16 → (16 * q + x) % 16 ≡ x
          inside q x hx = omega arith

      last : (x : ℕ) → x < b + 1 → x ≤ b
      last x hx = omega arith

  -- a turn, with the four stores as the code writes them
  pub mixed_more : (b : ℕ) (c v : List ℕ) → v ≡ mix_column m (column_at c b) → Mixed b c → b < 16
      → Mixed (b + 1) (set (set (set (set c b (get_or v 0 0)) (16 + b) (get_or v 1 0)) (32 + b) (get_or v 2 0)) (48 + b) (get_or v 3 0))
  mixed_more b c v e M h =
      subst (λ (i : ℕ). Mixed (b + 1) (set (set (set (set c i (get_or v 0 0)) (16 + b) (get_or v 1 0)) (32 + b) (get_or v 2 0)) (48 + b) (get_or v 3 0)))
      (zero-add b)
      (mixed_put b c v M h (e ∙ ap (mix_column m) (old_column b c M h)))

  pub mixed_all : (b : ℕ) (c : List ℕ) → Mixed b c → 16 ≤ b → c ≡ mix_words m c₀
  unfolding mix_words
  mixed_all b c M h =
      is_tab 64 c _ M.long
      (λ k lt. ap (λ (n : ℕ). get_or c n 0) (whole k) ∙ M.done (k / 16) (k % 16) (omega arith) (omega arith))
    where
      whole : (k : ℕ) → k ≡ 16 * (k / 16) + k % 16
      whole k = omega arith

length_mix_words : (m c : List ℕ) → length (mix_words m c) ≡ 64
unfolding mix_words
length_mix_words m c = length-tab 64 _

-- ---- the loop over the four columns of a square

three : (f : ℕ → ℕ → ℕ → ℕ) {x y z x' y' z' : ℕ} → x ≡ x' → y ≡ y' → z ≡ z' → f x y z ≡ f x' y' z'
three f p q r = cc

-- the part of s that the code lends, from 64 j to 64 j + 64, and s when the callee has left w there
abbrev part : ℕ → List ℕ → List ℕ
part j s = take (64 * j + 64 - 64 * j) (drop (64 * j) s)

abbrev turned : ℕ → List ℕ → List ℕ → List ℕ
turned j s w = take (64 * j) s ++ (w ++ drop (64 * j + 64 - 64 * j) (drop (64 * j) s))

module _ (m l : List ℕ) where
  mixed_byte : ℕ → ℕ
  mixed_byte k = get_or (mix_column m (column 16 l (k / 64) (k % 16))) (k / 16 % 4) 0

  -- the first j columns are mixed
  pub Columns : ℕ → List ℕ → Type 0
  Columns j s = Filled 256 mixed_byte l (64 * j) s

  pub no_columns : length l ≡ 256 → Columns 0 l
  unfolding Columns
  no_columns = fill_none 256 mixed_byte l

  next_column : (j : ℕ) (s c t : List ℕ) → Columns j s → j < 4 → Placed s (64 * j) (mix_words m c) 64 t
      → ((k : ℕ) → k < 64 → get_or c k 0 ≡ get_or s (64 * j + k) 0)
      → Columns (j + 1) t
  unfolding Columns mixed_byte mix_words
  next_column j s c t F h P e =
      subst (λ (k : ℕ). Filled 256 mixed_byte l k t) (steps j)
      (fill_part 256 mixed_byte l (64 * j) s (mix_words m c) t 64 F P (omega arith)
      (λ k hk.
      get_or-tab 64 _ k hk
      ∙ ap (λ (u : List ℕ). get_or (mix_column m u) (k / 16) 0) (same (k % 16) (mod-lt k (lit< tt)))
      ∙ sym (three (λ c b r. get_or (mix_column m (column 16 l c b)) r 0) (group k hk) (byte k) (row k hk))))
    where
      group : (k : ℕ) → k < 64 → (64 * j + k) / 64 ≡ j
      group k h = omega arith

      byte : (k : ℕ) → (64 * j + k) % 16 ≡ k % 16
      byte k = omega arith

      row : (k : ℕ) → k < 64 → (64 * j + k) / 16 % 4 ≡ k / 16
      row k h = omega arith

      -- the column of the part is that of the square as it was
      same : (b : ℕ) → b < 16 → column_at c b ≡ column 16 l j b
      same b hb =
          ext_get_or 0 (column_at c b) (column 16 l j b) (sym (length-column 16 l j b))
          (λ i hi.
          column_at_lem c b i hi ∙ e (16 * i + b) (within i b hi hb) ∙ F.rest (64 * j + (16 * i + b)) (omega arith)
          ∙ sym (get_or-column 16 l j b i hi ∙ entry_is 16 l (4 * j + i) b ∙ ap (λ (n : ℕ). get_or l n 0) (place i b)))
        where
          within : (i b : ℕ) → i < 4 → b < 16 → 16 * i + b < 64
          within i b hi hb = omega arith

          place : (i b : ℕ) → 16 * (4 * j + i) + b ≡ 64 * j + (16 * i + b)
          place i b = omega arith

      steps : (j : ℕ) → 64 * j + 64 ≡ 64 * (j + 1)
      steps j = omega arith

  pub all_columns : (j : ℕ) (s : List ℕ) → Columns j s → 4 ≤ j → s ≡ mix_columns 16 m l
  unfolding Columns mixed_byte
  all_columns j s F h =
      fill_all 256 mixed_byte l (64 * j) s F (omega arith)
      ∙ tab_array 16 mixed_byte (λ e b. get_or (mix_column m (column 16 l (e / 4) b)) (e % 4) 0)
      (λ e b he hb. three (λ c b r. get_or (mix_column m (column 16 l c b)) r 0) (group e b hb) (byte e b hb) (row e b hb))
      ∙ sym (is_array 16 (mix_columns 16 m l) _ (length_mix_columns 16 m l) (entry_mix 16 m l))
    where
      group : (e b : ℕ) → b < 16 → (16 * e + b) / 64 ≡ e / 4
      group e b h = omega arith

      byte : (e b : ℕ) → b < 16 → (16 * e + b) % 16 ≡ b
      byte e b h = omega arith

      row : (e b : ℕ) → b < 16 → (16 * e + b) / 16 % 4 ≡ e % 4
      row e b h = omega arith

  module _ (j : ℕ) (s w : List ℕ) (F : Columns j s) (h : j < 4) (ls : length s ≡ 256) (e : w ≡ mix_words m (part j s)) where
    size : 64 * j + 64 - 64 * j ≡ 64
    size = omega arith

    placed : Placed s (64 * j) w (64 * j + 64 - 64 * j) (turned j s w)
    placed = part_placed s w (64 * j) (64 * j + 64 - 64 * j) (omega arith) (ap length e ∙ length_mix_words m (part j s) ∙ sym size)

    pub turn_mixes : Columns (j + 1) (turned j s w)
    turn_mixes =
        next_column j s (part j s) (turned j s w) F h
        (subst (λ (i : ℕ). Placed s (64 * j) (mix_words m (part j s)) i (turned j s w)) size
        (subst (λ (v : List ℕ). Placed s (64 * j) v (64 * j + 64 - 64 * j) (turned j s w)) e placed))
        (λ k hk. get_or-take (64 * j + 64 - 64 * j) (drop (64 * j) s) k 0 (omega arith) ∙ get_or-drop (64 * j) s k 0)
