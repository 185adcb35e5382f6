-- Xored bytes, folds and BIG.Final, as the code's loops make them. Assumes nothing.
use Rattle.std.proofs.Common.{◌≡◌, ℕ, zero, suc, ◌+◌, ◌-◌, ◌*◌, ◌/◌, ◌<◌, ◌≤◌, List, ◌++◌, length, get_or, take, drop, sym, refl, ap, ◌∙◌, subst, ap₂, ⊎_elim, le_refl, not-suc-le-zero, add_comm, mul-zero, zero-add, mul-suc, add-one, arith, length-append, length-drop, add-zero, drop_at, take_at, get_or-drop, get_or-take}
use native.Mathlib.Nat.{div-eq_of_lt, mul-add-div, mul-div_cancel_left}
use lib.Bits.{bit_xor}
use lib.Seq.{drop-drop}
use Rattle.aes_round.specs.Bytes.{tab, xor, xor_bytes}
use Rattle.aes_round.proofs.Promises.{Filled, code_xor, fill_all, get_or-tab, get_or-xor, length-tab, length-xor, lt_or_le, same_list, tab_ext, xor_assoc}
use Rattle.aes_round.proofs.Promises.{xor_is_tab, xor_zero_l, xor_zero_r}
use Rattle.echo.specs.Compression.{big_final, compress, fold, xor_sum}
use Rattle.echo.specs.Placed.{Placed}
use Rattle.echo.specs.Square.{rounds}
use Rattle.echo.proofs.Laws.Joined.{first_part, second_part}

-- ---- the loop that xors a list into another

-- the element that comes next is still the old one
pub xor_old : (n k x : ℕ) (f : ℕ → ℕ) (l r : List ℕ) → Filled n f l k r → bit_xor (get_or r k 0) x ≡ xor (get_or l k 0) x
xor_old n k x f l r F = code_xor (get_or r k 0) x ∙ ap (λ (y : ℕ). xor y x) (F.rest k (le_refl k))

pub xor_all : (n k : ℕ) (l m r : List ℕ) → Filled n (λ j. xor (get_or l j 0) (get_or m j 0)) l k r → n ≡ length l → n ≤ k → r ≡ xor_bytes (length l) l m
xor_all n k l m r F e h = fill_all n _ l k r F h ∙ xor_is_tab n l m ∙ ap (λ (i : ℕ). xor_bytes i l m) e

-- ---- the loop over parts

module _ (c : ℕ) (v₀ src : List ℕ) where
  -- v with the first j parts of src xored in
  pub parts_in : ℕ → List ℕ
  parts_in j = xor_bytes c v₀ (tab c (λ k. xor_sum j (λ i. get_or src (c * i + k) 0)))

  parts_long : (j : ℕ) → length (parts_in j) ≡ c
  unfolding parts_in
  parts_long j = length-xor c v₀ _

  summed : (n k : ℕ) → k < c → get_or (parts_in n) k 0 ≡ xor (get_or v₀ k 0) (xor_sum n (λ i. get_or src (c * i + k) 0))
  unfolding parts_in
  summed n k h = get_or-xor c v₀ _ k h ∙ ap (xor (get_or v₀ k 0)) (get_or-tab c _ k h)

  pub no_parts : length v₀ ≡ c → v₀ ≡ parts_in 0
  no_parts l = same_list c v₀ _ l (parts_long 0) (λ k h. sym (summed 0 k h ∙ xor_zero_r _))

  module _ (j : ℕ) (v : List ℕ) (e : v ≡ parts_in j) where
    -- the part j is what stands in src from c * j to its end
    next_part_in : length v ≡ c → (part r : List ℕ) → part ≡ take c (drop (c * j) src) → r ≡ xor_bytes (length v) v part → r ≡ parts_in (j + 1)
    next_part_in l part r p x =
        x
        ∙ ap (λ (m : ℕ). xor_bytes m v part) l
        ∙ same_list c _ _ (length-xor c v part) (parts_long (j + 1))
        (λ k h.
        get_or-xor c v part k h
        ∙ ap₂ xor (ap (λ (y : List ℕ). get_or y k 0) e ∙ summed j k h) (at k h)
        ∙ xor_assoc (get_or v₀ k 0) _ _
        ∙ ap (λ (n : ℕ). xor (get_or v₀ k 0) (xor_sum n (λ i. get_or src (c * i + k) 0))) (sym (add-one j))
        ∙ sym (summed (j + 1) k h))
      where
        at : (k : ℕ) → k < c → get_or part k 0 ≡ get_or src (c * j + k) 0
        at k h = ap (λ (u : List ℕ). get_or u k 0) p ∙ get_or-take c (drop (c * j) src) k 0 h ∙ get_or-drop (c * j) src k 0

    all_parts : j ≡ length src / c → v ≡ xor_bytes c v₀ (fold c src)
    unfolding parts_in fold
    all_parts all =
        e ∙ ap (xor_bytes c v₀) (tab_ext c _ _ (λ k hk. ap (λ (m : ℕ). xor_sum m (λ i. get_or src (c * i + k) 0)) all))

-- the iterator's parts: j have come, and `rest` is left of src
pub record Parts (c : ℕ) (v₀ src : List ℕ) (j : ℕ) (size : ℕ) (rest v : List ℕ) : Type 0 where
  pub sized : size ≡ c
  pub within : c * j ≤ length src
  pub left : rest ≡ drop (c * j) src
  pub folded : v ≡ parts_in c v₀ src j

module _ (c : ℕ) (v₀ src : List ℕ) where
  pub parts_none : (size : ℕ) (rest : List ℕ) → length v₀ ≡ c → size ≡ c → rest ≡ src → Parts c v₀ src 0 size rest v₀
  parts_none size rest l s r = record {
    sized = s;
    within = omega (arith, mul-zero c);
    left = r ∙ ap (λ (k : ℕ). drop k src) (sym (mul-zero c));
    folded = no_parts c v₀ src l;
  }

  module _ (j size : ℕ) (rest v : List ℕ) (P : Parts c v₀ src j size rest v) where
    -- one part more, by what the iterator ensures of a step, of which B is not needed here
    pub parts_more : {B : Type 0} → length v ≡ c → (j' size' : ℕ) (part rest' r : List ℕ) → j' ≡ j + 1
        → (size' ≡ size) × ((rest ≡ part ++ rest') × (length part ≡ size)) × B → r ≡ xor_bytes (length v) v part
        → Parts c v₀ src j' size' rest' r
    parts_more lv j' size' part rest' r count steps x = subst (λ (k : ℕ). Parts c v₀ src k size' rest' r) (sym count) record {
      sized = steps.0 ∙ P.sized;
      within = omega (arith, next, long, lc);
      left = sym (drop_at part rest' c lc) ∙ ap (drop c) (sym cut ∙ P.left) ∙ drop-drop c (c * j) src ∙ ap (λ (k : ℕ). drop k src) (sym next);
      folded = next_part_in c v₀ src j v P.folded lv part r (sym (take_at part rest' c lc) ∙ ap (take c) (sym cut ∙ P.left)) x;
    }
      where
        cut : rest ≡ part ++ rest'
        cut = steps.1.0

        lc : length part ≡ c
        lc = steps.1.1 ∙ P.sized

        next : c * (j + 1) ≡ c * j + c
        next = ap (λ (k : ℕ). c * k) (add-one j) ∙ mul-suc c j

        long : c * j + (length part + length rest') ≡ length src
        long = omega (arith, P.within, length-drop (c * j) src, ap length (sym P.left ∙ cut) ∙ length-append part rest')

    -- and no more
    pub parts_all : 0 < c → length rest < size → v ≡ xor_bytes c v₀ (fold c src)
    parts_all some short =
        all_parts c v₀ src j v P.folded
        (sym
        (ap (λ (n : ℕ). n / c) apart ∙ mul-add-div some j (length src - c * j) ∙ ap (λ (n : ℕ). j + n) (div-eq_of_lt few) ∙ add-zero j))
      where
        apart : length src ≡ c * j + (length src - c * j)
        apart = omega (arith, P.within)

        few : length src - c * j < c
        few = omega (arith, P.sized, ap length P.left ∙ length-drop (c * j) src)

-- ---- the fold of a loaded square

pub sum_ext : (n : ℕ) (f g : ℕ → ℕ) → ((i : ℕ) → f i ≡ g i) → xor_sum n f ≡ xor_sum n g
sum_ext zero f g e = refl
sum_ext (suc n) f g e = ap₂ xor (sum_ext n f g e) (e n)

-- a sum by its first term
xor_sum_first : (n : ℕ) (f : ℕ → ℕ) → xor_sum (suc n) f ≡ xor (f 0) (xor_sum n (λ i. f (suc i)))
xor_sum_first zero f = xor_zero_l (f 0) ∙ sym (xor_zero_r (f 0))
xor_sum_first (suc n) f = ap (λ (x : ℕ). xor x (f (suc n))) (xor_sum_first n f) ∙ xor_assoc (f 0) _ _

-- the chaining variable is the first part of the square that it is loaded into
pub fold_loaded : (c : ℕ) (v m : List ℕ) (n : ℕ) → 0 < c → length v ≡ c → length m ≡ c * n → fold c (v ++ m) ≡ xor_bytes c v (fold c m)
unfolding fold
fold_loaded c v m n h lv lm =
    same_list c _ _ (length-tab c _) (length-xor c v _)
    (λ k hk.
    get_or-tab c _ k hk
    ∙ ap (λ (i : ℕ). xor_sum i (λ j. get_or (v ++ m) (c * j + k) 0)) parts
    ∙ xor_sum_first n (λ j. get_or (v ++ m) (c * j + k) 0)
    ∙ ap₂ xor
    (ap (λ (i : ℕ). get_or (v ++ m) i 0) (ap (λ (x : ℕ). x + k) (mul-zero c) ∙ zero-add k) ∙ first_part c v m lv k hk)
    (sum_ext n _ _ (λ j. ap (λ (i : ℕ). get_or (v ++ m) i 0) (behind j k) ∙ second_part c v m lv (c * j + k))
    ∙ ap (λ (i : ℕ). xor_sum i (λ j. get_or m (c * j + k) 0)) (sym (ap (λ (x : ℕ). x / c) lm ∙ mul-div_cancel_left n h)))
    ∙ sym (get_or-xor c v _ k hk ∙ ap (xor (get_or v k 0)) (get_or-tab c _ k hk)))
  where
    parts : length (v ++ m) / c ≡ suc n
    parts =
        ap (λ (x : ℕ). x / c) (length-append v m ∙ ap₂ (λ (x y : ℕ). x + y) lv lm ∙ add_comm c (c * n) ∙ sym (mul-suc c n))
        ∙ mul-div_cancel_left (suc n) h

    behind : (j k : ℕ) → c * suc j + k ≡ c + (c * j + k)
    behind j k = omega (arith, mul-suc c j)

-- ---- what the code does

-- a square of 256 bytes in parts of c bytes: how many the block has
pub some_parts : (c p : ℕ) → 256 ≡ c * p → 0 < p
some_parts c zero e = absurd (no (e ∙ mul-zero c))
  where
    no : ◌≡◌ {A = ℕ} 256 0 → ⊥
    no e = omega arith
some_parts c (suc p) e = omega arith

pub block_parts : (c b p : ℕ) → c + b ≡ 256 → 256 ≡ c * p → b ≡ c * (p - 1)
block_parts c b zero h e = absurd (not-suc-le-zero (some_parts c zero e))
block_parts c b (suc p) h e = omega (arith, mul-suc c p, ap (λ (n : ℕ). c * n) (less p))
  where
    less : (p : ℕ) → suc p - 1 ≡ p
    less p = omega arith

-- the chaining variable and the block, copied into a square one behind the other
loaded : (z v m s t : List ℕ) → length z ≡ 256 → length v + length m ≡ 256 → Placed z 0 v (length v) s → Placed s (length v) m (length m) t → t ≡ v ++ m
loaded z v m s t lz l P Q =
    same_list 256 t (v ++ m) (Q.long ∙ P.long ∙ lz) (length-append v m ∙ l)
    (λ k lt.
    ⊎_elim (λ (h : k < length v). Q.before k h ∙ ap (λ (i : ℕ). get_or s i 0) (sym (zero-add k)) ∙ P.inside k h ∙ sym (first_part (length v) v m refl k h))
    (λ (g : length v ≤ k).
    ap (λ (i : ℕ). get_or t i 0) (sym (back k g))
    ∙ Q.inside (k - length v) (left k g lt)
    ∙ sym (second_part (length v) v m refl (k - length v))
    ∙ ap (λ (i : ℕ). get_or (v ++ m) i 0) (back k g))
    (lt_or_le k (length v)))
  where
    back : (k : ℕ) → length v ≤ k → length v + (k - length v) ≡ k
    back k g = omega arith

    left : (k : ℕ) → length v ≤ k → k < 256 → k - length v < length m
    left k g lt = omega arith

-- a square loaded and run, and the two folds
pub compressed : (n : ℕ) (key : ℕ → List ℕ) (salt v m z s q w r t : List ℕ) → t ≡ xor_bytes (length r) r (fold (length r) w)
    → r ≡ xor_bytes (length v) v (fold (length v) m) → length r ≡ length v → w ≡ rounds n key salt q
    → Placed s (length v) m (length m) q → Placed z 0 v (length v) s → length z ≡ 256 → length v + length m ≡ 256
    → t ≡ compress (length v) n key salt v m
unfolding compress big_final
compressed n key salt v m z s q w r t fin p lr run second first lz l =
    fin
    ∙ ap (λ (k : ℕ). xor_bytes k r (fold k w)) lr
    ∙ ap₂ (λ (x y : List ℕ). xor_bytes (length v) x (fold (length v) y)) p (run ∙ ap (rounds n key salt) (loaded z v m s q lz l first second))
