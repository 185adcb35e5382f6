-- The 4 by 4 array of entries of w bytes, by its entries. Assumes nothing.
use mathlib.Core.Path.{◌≡◌, refl, sym, ap, ap₂, ◌∙◌}
use mathlib.Core.List.{List}
use Prim.Native.Nat.{ℕ, ◌+◌, ◌*◌, ◌/◌, ◌%◌, ◌<◌}
use native.Mathlib.Nat.{add-zero, div-add-mod, div-eq_of_lt, div-lt_iff_lt-mul, mod-eq_of_lt, mod-lt, mul-add-div, mul-add-mod_self_left, mul_comm}
use native.Mathlib.Nat.{mul-le-mul_left, mul-suc}
use native.Mathlib.Omega.{arith}
use lib.ListN.{length, get_or}
use Rattle.aes_round.specs.Bytes.{Bytes, tab, xor, xor_bytes}
use Rattle.aes_round.specs.Array.{array, column, entry}
use Rattle.aes_round.proofs.Laws.Bytes.{get_or-tab, is_tab, length-tab, tab_bytes, tab_ext}
use Rattle.aes_round.proofs.Laws.Xor.{get_or-xor, xor_tab}

module _ (w : ℕ) where
  positive : {b : ℕ} → b < w → 0 < w
  positive h = omega arith

  -- byte b of entry e stands within the array
  pub place_lt : (e b : ℕ) → e < 16 → b < w → w * e + b < 16 * w
  place_lt e b he hb = omega (arith, mul-suc w e, mul-le-mul_left w he, mul_comm w 16)

  entry_of : (e b : ℕ) → b < w → (w * e + b) / w ≡ e
  entry_of e b h = mul-add-div (positive h) e b ∙ ap (λ (q : ℕ). e + q) (div-eq_of_lt h) ∙ add-zero e

  byte_of : (e b : ℕ) → b < w → (w * e + b) % w ≡ b
  byte_of e b h = mul-add-mod_self_left w e b ∙ mod-eq_of_lt h

  pub entry_is : (s : List ℕ) (e b : ℕ) → entry w s e b ≡ get_or s (w * e + b) 0
  unfolding entry
  entry_is s e b = refl

  pub length-array : (f : ℕ → ℕ → ℕ) → length (array w f) ≡ 16 * w
  unfolding array
  length-array f = length-tab (16 * w) _

  pub entry_array : (f : ℕ → ℕ → ℕ) (e b : ℕ) → e < 16 → b < w → entry w (array w f) e b ≡ f e b
  unfolding array entry
  entry_array f e b he hb = get_or-tab (16 * w) _ (w * e + b) (place_lt e b he hb) ∙ ap₂ f (entry_of e b hb) (byte_of e b hb)

  entry_lt : (k : ℕ) → k < 16 * w → k / w < 16
  entry_lt k h = (div-lt_iff_lt-mul {y = 16} (some_width w h)).1 h
    where
      some_width : (v : ℕ) → k < 16 * v → 0 < v
      some_width v g = omega arith

  byte_lt : (k : ℕ) → k < 16 * w → k % w < w
  byte_lt k h = mod-lt k (some_width w h)
    where
      some_width : (v : ℕ) → k < 16 * v → 0 < v
      some_width v g = omega arith

  -- an array is known by its entries
  pub is_array : (l : List ℕ) (f : ℕ → ℕ → ℕ) → length l ≡ 16 * w → ((e b : ℕ) → e < 16 → b < w → entry w l e b ≡ f e b) → l ≡ array w f
  unfolding array entry
  is_array l f e h =
      is_tab (16 * w) l _ e
      (λ k lt. ap (λ (m : ℕ). get_or l m 0) (sym (div-add-mod k w)) ∙ h (k / w) (k % w) (entry_lt k lt) (byte_lt k lt))

  -- bytes in a row, as an array
  pub tab_array : (f : ℕ → ℕ) (g : ℕ → ℕ → ℕ) → ((e b : ℕ) → e < 16 → b < w → f (w * e + b) ≡ g e b) → tab (16 * w) f ≡ array w g
  tab_array f g h =
      is_array (tab (16 * w) f) g (length-tab (16 * w) f)
      (λ e b he hb. entry_is _ e b ∙ get_or-tab (16 * w) f (w * e + b) (place_lt e b he hb) ∙ h e b he hb)

  pub array_ext : (f g : ℕ → ℕ → ℕ) → ((e b : ℕ) → e < 16 → b < w → f e b ≡ g e b) → array w f ≡ array w g
  array_ext f g h = is_array (array w f) g (length-array f) (λ e b he hb. entry_array f e b he hb ∙ h e b he hb)

  pub array_bytes : (f : ℕ → ℕ → ℕ) → ((e b : ℕ) → e < 16 → b < w → f e b < 256) → Bytes (16 * w) (array w f)
  unfolding array
  array_bytes f h = tab_bytes (16 * w) _ (λ k lt. h (k / w) (k % w) (entry_lt k lt) (byte_lt k lt))

  pub entry_byte : (s : List ℕ) → Bytes (16 * w) s → (e b : ℕ) → entry w s e b < 256
  unfolding entry
  entry_byte s B e b = B.small (w * e + b)

  pub entry_xor : (s t : List ℕ) (e b : ℕ) → e < 16 → b < w → entry w (xor_bytes (16 * w) s t) e b ≡ xor (entry w s e b) (entry w t e b)
  unfolding entry
  entry_xor s t e b he hb = get_or-xor (16 * w) s t (w * e + b) (place_lt e b he hb)

  -- a sum of two arrays, by their entries
  pub xor_array : (f g : ℕ → ℕ → ℕ) → xor_bytes (16 * w) (array w f) (array w g) ≡ array w (λ e b. xor (f e b) (g e b))
  unfolding array
  xor_array f g = xor_tab (16 * w) _ _

  -- ---- columns

  pub length-column : (s : List ℕ) (c b : ℕ) → length (column w s c b) ≡ 4
  unfolding column
  length-column s c b = length-tab 4 _

  pub get_or-column : (s : List ℕ) (c b i : ℕ) → i < 4 → get_or (column w s c b) i 0 ≡ entry w s (4 * c + i) b
  unfolding column
  get_or-column s c b i h = get_or-tab 4 _ i h

  pub column_bytes : (s : List ℕ) → Bytes (16 * w) s → (c b : ℕ) → Bytes 4 (column w s c b)
  unfolding column
  column_bytes s B c b = tab_bytes 4 _ (λ i h. entry_byte s B (4 * c + i) b)

  pub column_xor : (s t : List ℕ) (c b : ℕ) → c < 4 → b < w → column w (xor_bytes (16 * w) s t) c b ≡ xor_bytes 4 (column w s c b) (column w t c b)
  unfolding column xor_bytes
  column_xor s t c b hc hb =
      tab_ext 4 _ _ (λ i hi. entry_xor s t (4 * c + i) b (omega arith) hb ∙ ap₂ xor (sym (get_or-column s c b i hi)) (sym (get_or-column t c b i hi)))
