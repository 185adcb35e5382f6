-- The fold of a square in words. Assumes nothing.
use Rattle.std.proofs.Common.{◌≡◌, ℕ, zero, suc, ◌+◌, ◌*◌, ◌/◌, ◌<◌, List, length, get_or, sym, refl, ap, ◌∙◌, ap₂, arith}
use Rattle.aes_round.specs.Array.{entry}
use Rattle.aes_round.specs.Bytes.{xor, xor_bytes}
use Rattle.aes_round.proofs.Promises.{entry_is, get_or-tab, tab_ext, xor_assoc, xor_self, xor_swap, xor_tab, xor_zero_l}
use Rattle.echo.specs.Compression.{fold, xor_sum}
use Rattle.echo.specs.Square.{word}
use Rattle.echo.proofs.Laws.Compression.{sum_ext}

twice : ℕ → ℕ
twice zero = zero
twice (suc n) = suc (suc (twice n))

twice_is : (n : ℕ) → twice n ≡ 2 * n
unfolding twice
twice_is zero = refl
twice_is (suc n) = omega (arith, twice_is n)

-- a sum by its even and its odd terms
even_and_odd : (n : ℕ) (f : ℕ → ℕ) → xor_sum (twice n) f ≡ xor (xor_sum n (λ j. f (twice j))) (xor_sum n (λ j. f (suc (twice j))))
unfolding twice
even_and_odd zero f = sym (xor_self 0)
even_and_odd (suc n) f =
    ap (λ (x : ℕ). xor (xor x (f (twice n))) (f (suc (twice n)))) (even_and_odd n f)
    ∙ xor_assoc _ _ _
    ∙ xor_swap _ _ _ _

module _ (s : List ℕ) (l : length s ≡ 256) (i : ℕ) where
  byte_at : (k e b : ℕ) → k ≡ 16 * e + b → get_or s k 0 ≡ entry 16 s e b
  byte_at k e b p = ap (λ (x : ℕ). get_or s x 0) p ∙ sym (entry_is 16 s e b)

  -- byte b of word i of the fold: the bytes in all parts of c bytes
  summed : (c b : ℕ) → 16 * i + b < c → entry 16 (fold c s) i b ≡ xor_sum (256 / c) (λ j. get_or s (c * j + (16 * i + b)) 0)
  unfolding fold
  summed c b h =
      entry_is 16 (fold c s) i b ∙ get_or-tab c _ (16 * i + b) h ∙ ap (λ (n : ℕ). xor_sum (n / c) (λ j. get_or s (c * j + (16 * i + b)) 0)) l

  pub fold_short : i < 4 → word (fold 64 s) i ≡ xor_bytes 16 (xor_bytes 16 (xor_bytes 16 (word s i) (word s (i + 4))) (word s (i + 8))) (word s (i + 12))
  unfolding word
  fold_short h =
      tab_ext 16 _ _
      (λ b lt.
      summed 64 b (omega arith)
      ∙ ap₂ xor
      (ap₂ xor (ap₂ xor (xor_zero_l _ ∙ byte_at _ i b (omega arith)) (byte_at _ (i + 4) b (omega arith))) (byte_at _ (i + 8) b (omega arith)))
      (byte_at _ (i + 12) b (omega arith)))
      ∙ sym (ap (λ (x : List ℕ). xor_bytes 16 x (word s (i + 12)))
      (ap (λ (x : List ℕ). xor_bytes 16 x (word s (i + 8))) (xor_tab 16 _ _) ∙ xor_tab 16 _ _)
      ∙ xor_tab 16 _ _)

  pub fold_long : i < 8 → word (fold 128 s) i ≡ xor_bytes 16 (word s i) (word s (i + 8))
  unfolding word
  fold_long h =
      tab_ext 16 _ _ (λ b lt. summed 128 b (omega arith) ∙ ap₂ xor (xor_zero_l _ ∙ byte_at _ i b (omega arith)) (byte_at _ (i + 8) b (omega arith)))
      ∙ sym (xor_tab 16 _ _)

-- a fold to 32 bytes is a fold to 64 and one more
pub fold_single : (s : List ℕ) → length s ≡ 256 → (i : ℕ) → i < 2 → word (fold 32 s) i ≡ xor_bytes 16 (word (fold 64 s) i) (word (fold 64 s) (i + 2))
unfolding word twice
fold_single s l i h =
    tab_ext 16 _ _
    (λ b lt.
    summed s l i 32 b (omega arith)
    ∙ even_and_odd 4 (λ j. get_or s (32 * j + (16 * i + b)) 0)
    ∙ ap₂ xor
    (sum_ext 4 _ _ (λ j. at (even j b)) ∙ sym (summed s l i 64 b (omega arith)))
    (sum_ext 4 _ _ (λ j. at (odd j b)) ∙ sym (summed s l (i + 2) 64 b (omega arith))))
    ∙ sym (xor_tab 16 _ _)
  where
    at : {k m : ℕ} → k ≡ m → get_or s k 0 ≡ get_or s m 0
    at p = ap (λ (x : ℕ). get_or s x 0) p

    even : (j b : ℕ) → 32 * twice j + (16 * i + b) ≡ 64 * j + (16 * i + b)
    even j b = omega (arith, twice_is j)

    odd : (j b : ℕ) → 32 * suc (twice j) + (16 * i + b) ≡ 64 * j + (16 * (i + 2) + b)
    odd j b = omega (arith, twice_is j)
