-- The mix of a column: it goes through xor, two matrices whose product is one undo each other, and its results are bytes. Assumes nothing.
use mathlib.Core.Path.{◌≡◌, refl, sym, ap₂, ◌∙◌}
use mathlib.Core.Bool.{Bool, true, false}
use mathlib.Core.List.{List, [], ◌∷◌}
use Prim.Native.Nat.{ℕ, zero, suc, ◌+◌, ◌*◌, ◌^◌, ◌<◌}
use native.Mathlib.Omega.{arith}
use lib.Dec.{T, eqb, lit<}
use lib.ListN.{get_or, length}
use Rattle.aes_round.specs.Bytes.{Bytes, tab, xor, xor_bytes}
use Rattle.aes_round.specs.Field.{mul}
use Rattle.aes_round.specs.Mixing.{backward, dot, forward, mix_column}
use Rattle.aes_round.proofs.Laws.Every.{Agree, agree, below, every}
use Rattle.aes_round.proofs.Laws.Bytes.{bytes_are, is_tab, length-tab, tab_bytes, tab_ext}
use Rattle.aes_round.proofs.Laws.Xor.{xor_lt, xor_self, xor_swap, xor_tab, xor_zero_l, xor_zero_r}
use Rattle.aes_round.proofs.Laws.Linear.{Linear, lin_after, lin_ext, lin_sum}
use Rattle.aes_round.proofs.Laws.Field.{mul_lt, mul_xor}

-- four bytes, each by its own equation
pub four : {a b c d a' b' c' d' : ℕ} → a ≡ a' → b ≡ b' → c ≡ c' → d ≡ d' → a ∷ b ∷ c ∷ d ∷ [] ≡ a' ∷ b' ∷ c' ∷ d' ∷ []
four p q r s = cc

abbrev pub sum4 : ℕ → ℕ → ℕ → ℕ → ℕ
sum4 a b c d = xor (xor a b) (xor c d)

sum4_xor : (a b c d a' b' c' d' : ℕ) → xor (sum4 a b c d) (sum4 a' b' c' d') ≡ sum4 (xor a a') (xor b b') (xor c c') (xor d d')
sum4_xor a b c d a' b' c' d' =
    xor_swap (xor a b) (xor c d) (xor a' b') (xor c' d') ∙ ap₂ xor (xor_swap a b a' b') (xor_swap c d c' d')

sum4_ap : {a b c d a' b' c' d' : ℕ} → a ≡ a' → b ≡ b' → c ≡ c' → d ≡ d' → sum4 a b c d ≡ sum4 a' b' c' d'
sum4_ap p q r s = ap₂ xor (ap₂ xor p q) (ap₂ xor r s)

-- ---- through xor

module _ (p q r s : ℕ) where
  dot_xor : (c d : List ℕ) → dot p q r s (xor_bytes 4 c d) ≡ xor (dot p q r s c) (dot p q r s d)
  unfolding dot xor_bytes tab
  dot_xor c d = sum4_ap (mul_xor p _ _) (mul_xor q _ _) (mul_xor r _ _) (mul_xor s _ _) ∙ sym (sum4_xor _ _ _ _ _ _ _ _)

  dot_lt : p < 256 → q < 256 → r < 256 → s < 256 → (c : List ℕ) → Bytes 4 c → dot p q r s c < 256
  unfolding dot
  dot_lt hp hq hr hs c C =
      xor_lt 8 _ _ (xor_lt 8 _ _ (mul_lt p _ hp (C.small 0)) (mul_lt q _ hq (C.small 1)))
      (xor_lt 8 _ _ (mul_lt r _ hr (C.small 2)) (mul_lt s _ hs (C.small 3)))

pub mix_xor : (m c d : List ℕ) → mix_column m (xor_bytes 4 c d) ≡ xor_bytes 4 (mix_column m c) (mix_column m d)
unfolding mix_column
mix_xor m c d = tab_ext 4 _ _ (λ i h. dot_xor _ _ _ _ c d) ∙ sym (xor_tab 4 _ _)

pub length_mix : (m c : List ℕ) → length (mix_column m c) ≡ 4
unfolding mix_column
length_mix m c = length-tab 4 _

pub mix_bytes : (m c : List ℕ) → Bytes 16 m → Bytes 4 c → Bytes 4 (mix_column m c)
unfolding mix_column
mix_bytes m c M C = tab_bytes 4 _ (λ i h. dot_lt _ _ _ _ (M.small _) (M.small _) (M.small _) (M.small _) c C)

-- ---- the way back

-- rows and columns of a 4 by 4 sum change places
turned : (f : ℕ → ℕ → ℕ)
    → sum4 (sum4 (f 0 0) (f 0 1) (f 0 2) (f 0 3)) (sum4 (f 1 0) (f 1 1) (f 1 2) (f 1 3)) (sum4 (f 2 0) (f 2 1) (f 2 2) (f 2 3))
    (sum4 (f 3 0) (f 3 1) (f 3 2) (f 3 3))
    ≡ sum4 (sum4 (f 0 0) (f 1 0) (f 2 0) (f 3 0)) (sum4 (f 0 1) (f 1 1) (f 2 1) (f 3 1)) (sum4 (f 0 2) (f 1 2) (f 2 2) (f 3 2))
    (sum4 (f 0 3) (f 1 3) (f 2 3) (f 3 3))
turned f = ap₂ xor (sum4_xor _ _ _ _ _ _ _ _) (sum4_xor _ _ _ _ _ _ _ _) ∙ sum4_xor _ _ _ _ _ _ _ _

mul_sum4 : (m a b c d : ℕ) → mul m (sum4 a b c d) ≡ sum4 (mul m a) (mul m b) (mul m c) (mul m d)
mul_sum4 m a b c d = mul_xor m (xor a b) (xor c d) ∙ ap₂ xor (mul_xor m a b) (mul_xor m c d)

abbrev keep : Bool → ℕ → ℕ
keep true x = x
keep false x = 0

keep_linear : (b : Bool) → Linear (keep b)
keep_linear true x y = refl
keep_linear false x y = sym (xor_self 0)

-- entry i k of the product N M, times x
abbrev product : List ℕ → List ℕ → ℕ → ℕ → ℕ → ℕ
product N M i k x =
    sum4 (mul (get_or N (4 * i) 0) (mul (get_or M k 0) x)) (mul (get_or N (4 * i + 1) 0) (mul (get_or M (4 + k) 0) x))
    (mul (get_or N (4 * i + 2) 0) (mul (get_or M (8 + k) 0) x)) (mul (get_or N (4 * i + 3) 0) (mul (get_or M (12 + k) 0) x))

-- the product is one: a test of each entry at each power of x below x^8
abbrev One : List ℕ → List ℕ → Bool
One N M = every (λ i. every (λ k. Agree (λ b. product N M i k (2 ^ b)) (λ b. keep (eqb i k) (2 ^ b)) 8) 4) 4

module _ (N M : List ℕ) (t : T (One N M)) where
  product_is : (i k : ℕ) → i < 4 → k < 4 → (x : ℕ) → x < 256 → product N M i k x ≡ keep (eqb i k) x
  product_is i k hi hk =
      lin_ext (product N M i k) (keep (eqb i k))
      (lin_sum _ _ (lin_sum _ _ (both _ _) (both _ _)) (lin_sum _ _ (both _ _) (both _ _)))
      (keep_linear (eqb i k)) 8
      (agree (λ b. product N M i k (2 ^ b)) (λ b. keep (eqb i k) (2 ^ b)) 8
      (below (λ k. Agree (λ b. product N M i k (2 ^ b)) (λ b. keep (eqb i k) (2 ^ b)) 8) 4
      (below (λ i. every (λ k. Agree (λ b. product N M i k (2 ^ b)) (λ b. keep (eqb i k) (2 ^ b)) 8) 4) 4 t i hi) k hk))
    where
      both : (m n : ℕ) → Linear (λ x. mul m (mul n x))
      both m n = lin_after (mul m) (mul n) (mul_xor m) (mul_xor n)

  -- the one of four that is kept
  kept : (c : List ℕ) (i : ℕ) → i < 4
      → sum4 (keep (eqb i 0) (get_or c 0 0)) (keep (eqb i 1) (get_or c 1 0)) (keep (eqb i 2) (get_or c 2 0)) (keep (eqb i 3) (get_or c 3 0)) ≡ get_or c i 0
  kept c zero h = simp (xor_zero_r)
  kept c (suc zero) h = simp (xor_zero_r, xor_zero_l)
  kept c (suc (suc zero)) h = simp (xor_zero_r, xor_zero_l)
  kept c (suc (suc (suc zero))) h = simp (xor_zero_r, xor_zero_l)
  kept c (suc (suc (suc (suc i)))) h = absurd (omega arith)

  row_undone : (c : List ℕ) → Bytes 4 c → (i : ℕ) → i < 4
      → dot (get_or N (4 * i) 0) (get_or N (4 * i + 1) 0) (get_or N (4 * i + 2) 0) (get_or N (4 * i + 3) 0) (mix_column M c) ≡ get_or c i 0
  unfolding dot mix_column tab
  row_undone c C i hi =
      sum4_ap (mul_sum4 _ _ _ _ _) (mul_sum4 _ _ _ _ _) (mul_sum4 _ _ _ _ _) (mul_sum4 _ _ _ _ _)
      ∙ turned
      (λ j k. mul (get_or (get_or N (4 * i) 0 ∷ get_or N (4 * i + 1) 0 ∷ get_or N (4 * i + 2) 0 ∷ get_or N (4 * i + 3) 0 ∷ []) j 0)
      (mul (get_or M (4 * j + k) 0) (get_or c k 0)))
      ∙ sum4_ap (product_is i 0 hi (lit< tt) _ (C.small 0)) (product_is i 1 hi (lit< tt) _ (C.small 1)) (product_is i 2 hi (lit< tt) _ (C.small 2))
      (product_is i 3 hi (lit< tt) _ (C.small 3))
      ∙ kept c i hi

  undone : (c : List ℕ) → Bytes 4 c → mix_column N (mix_column M c) ≡ c
  unfolding mix_column
  undone c C = sym (is_tab 4 c _ C.long (λ i h. sym (row_undone c C i h)))

pub forward_bytes : Bytes 16 forward
unfolding forward
forward_bytes = bytes_are 16 forward refl tt

pub backward_bytes : Bytes 16 backward
unfolding backward
backward_bytes = bytes_are 16 backward refl tt

pub mix_undone : (c : List ℕ) → Bytes 4 c → mix_column backward (mix_column forward c) ≡ c
unfolding backward forward mul xor
mix_undone = undone backward forward tt

pub mix_back_undone : (c : List ℕ) → Bytes 4 c → mix_column forward (mix_column backward c) ≡ c
unfolding backward forward mul xor
mix_back_undone = undone forward backward tt
