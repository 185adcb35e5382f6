-- A list by its elements: `tab`, and lists of n bytes. Assumes nothing.
use mathlib.Core.Path.{◌≡◌, refl, sym, ap, ◌∙◌, subst}
use mathlib.Core.Logic.{◌⊎◌, inl, inr, ⊎_elim}
use mathlib.Core.List.{List}
use Prim.Native.Nat.{ℕ, zero, suc, ◌+◌, ◌<◌, ◌≤◌}
use native.Mathlib.Nat.{not-suc-le-zero, le_of_suc-le-suc, zero-add, suc-add, add-suc, add-zero}
use native.Mathlib.Omega.{arith}
use mir.Syntax.{w8}
use mir.Val.{Fits}
use lib.Dec.{T, lit<, ltb, ltb→lt}
use lib.ListN.{length, get_or, get_or-eq_default}
use lib.Seq.{ext_get_or}
use Rattle.aes_round.specs.Bytes.{Bytes, tab, tab_from}
use Rattle.aes_round.proofs.Laws.Every.{below, every}

length-tab_from : (i n : ℕ) (f : ℕ → ℕ) → length (tab_from i n f) ≡ n
length-tab_from i zero f = refl
length-tab_from i (suc n) f = ap suc (length-tab_from (suc i) n f)

pub length-tab : (n : ℕ) (f : ℕ → ℕ) → length (tab n f) ≡ n
unfolding tab
length-tab = length-tab_from 0

get_or-tab_from : (i n : ℕ) (f : ℕ → ℕ) (k : ℕ) → k < n → get_or (tab_from i n f) k 0 ≡ f (i + k)
get_or-tab_from i zero f k h = absurd (not-suc-le-zero h)
get_or-tab_from i (suc n) f zero h = ap f (sym (add-zero i))
get_or-tab_from i (suc n) f (suc k) h = get_or-tab_from (suc i) n f k (le_of_suc-le-suc h) ∙ ap f (suc-add i k ∙ sym (add-suc i k))

pub get_or-tab : (n : ℕ) (f : ℕ → ℕ) (k : ℕ) → k < n → get_or (tab n f) k 0 ≡ f k
unfolding tab
get_or-tab n f k h = get_or-tab_from 0 n f k h ∙ ap f (zero-add k)

-- two lists of n numbers are equal by their elements
pub same_list : (n : ℕ) (l m : List ℕ) → length l ≡ n → length m ≡ n → ((k : ℕ) → k < n → get_or l k 0 ≡ get_or m k 0) → l ≡ m
same_list n l m hl hm h = ext_get_or 0 l m (hl ∙ sym hm) (λ k lt. h k (subst (λ (i : ℕ). k < i) hl lt))

-- a list of n numbers is the tab of them
pub is_tab : (n : ℕ) (l : List ℕ) (f : ℕ → ℕ) → length l ≡ n → ((k : ℕ) → k < n → get_or l k 0 ≡ f k) → l ≡ tab n f
is_tab n l f e h = same_list n l (tab n f) e (length-tab n f) (λ k lt. h k lt ∙ sym (get_or-tab n f k lt))

pub tab_ext : (n : ℕ) (f g : ℕ → ℕ) → ((k : ℕ) → k < n → f k ≡ g k) → tab n f ≡ tab n g
tab_ext n f g h = is_tab n (tab n f) g (length-tab n f) (λ k l. get_or-tab n f k l ∙ h k l)

pub lt_or_le : (k n : ℕ) → (k < n) ⊎ (n ≤ k)
lt_or_le k zero = inr (omega arith)
lt_or_le zero (suc n) = inl (omega arith)
lt_or_le (suc k) (suc n) = ⊎_elim (λ p. inl (omega arith)) (λ p. inr (omega arith)) (lt_or_le k n)

-- it is enough to look at places before the end
pub bytes_below : (n : ℕ) (l : List ℕ) → length l ≡ n → ((k : ℕ) → k < n → get_or l k 0 < 256) → Bytes n l
bytes_below n l e h = record {
  long = e;
  small = λ k.
      ⊎_elim (h k) (λ (g : n ≤ k). subst (λ (x : ℕ). x < 256) (sym (get_or-eq_default l 0 (subst (λ (m : ℕ). m ≤ k) (sym e) g))) (lit< tt))
      (lt_or_le k n);
}

pub tab_bytes : (n : ℕ) (f : ℕ → ℕ) → ((k : ℕ) → k < n → f k < 256) → Bytes n (tab n f)
tab_bytes n f h = bytes_below n (tab n f) (length-tab n f) (λ k l. subst (λ (x : ℕ). x < 256) (sym (get_or-tab n f k l)) (h k l))

-- a list that is written out, by one test
pub bytes_are : (n : ℕ) (l : List ℕ) → length l ≡ n → T (every (λ k. ltb (get_or l k 0) 256) n) → Bytes n l
bytes_are n l e t = bytes_below n l e (λ k h. ltb→lt _ _ (below (λ k. ltb (get_or l k 0) 256) n t k h))

-- an array of the code, of which each element fits a byte
pub bytes_fit : (n : ℕ) (l : List ℕ) → length l ≡ n → ((k : ℕ) → Fits w8 (get_or l k 0)) → Bytes n l
bytes_fit n l e h = record { long = e; small = λ k. (h k).fits }
