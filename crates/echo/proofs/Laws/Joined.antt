-- Two lists of bytes, one after the other. Assumes nothing.
use Rattle.std.proofs.Common.{◌≡◌, ℕ, ◌+◌, ◌-◌, ◌<◌, ◌≤◌, List, ◌++◌, length, get_or, sym, ap, ◌∙◌, subst, ap₂, ⊎_elim, arith, length-append, get_or-append-add}
use lib.ListN.{get_or-append}
use Rattle.aes_round.specs.Bytes.{Bytes}
use Rattle.aes_round.proofs.Promises.{bytes_below, lt_or_le}

module _ (m : ℕ) (a b : List ℕ) (l : length a ≡ m) where
  pub first_part : (k : ℕ) → k < m → get_or (a ++ b) k 0 ≡ get_or a k 0
  first_part k h = get_or-append a b 0 k (subst (λ (x : ℕ). k < x) (sym l) h)

  pub second_part : (k : ℕ) → get_or (a ++ b) (m + k) 0 ≡ get_or b k 0
  second_part k = ap (λ (x : ℕ). get_or (a ++ b) (x + k) 0) (sym l) ∙ get_or-append-add a b k 0

pub joined_bytes : (m n : ℕ) (a b : List ℕ) → Bytes m a → Bytes n b → Bytes (m + n) (a ++ b)
joined_bytes m n a b A B =
    bytes_below (m + n) (a ++ b) (length-append a b ∙ ap₂ (λ (x y : ℕ). x + y) A.long B.long)
    (λ k h.
    ⊎_elim (λ (l : k < m). subst (λ (x : ℕ). x < 256) (sym (first_part m a b A.long k l)) (A.small k))
    (λ (g : m ≤ k). subst (λ (x : ℕ). x < 256) (sym (second_part m a b A.long (k - m)) ∙ ap (λ (x : ℕ). get_or (a ++ b) x 0) (back k g)) (B.small (k - m)))
    (lt_or_le k m))
  where
    back : (k : ℕ) → m ≤ k → m + (k - m) ≡ k
    back k g = omega arith
