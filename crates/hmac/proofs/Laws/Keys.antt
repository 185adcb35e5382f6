-- Which keys have the same K0, and so the same tags. Assumes nothing.
use mathlib.Core.Path.{◌≡◌, refl, sym, ap, ap₂, ◌∙◌}
use mathlib.Core.List.{List, ◌++◌, append_assoc}
use Prim.Native.Nat.{ℕ, ◌+◌, ◌-◌, ◌<◌, ◌≤◌}
use native.Mathlib.Omega.{arith}
use borrow.Author.Tests.{le-ltb, lt-ltb}
use lib.ListN.{length, length-append, length-replicate, replicate, replicate-append-replicate, take}
use lib.Seq.{take_at}
use Rattle.hmac.specs.Hmac.{key_block, mac, with_zeros}

module _ (H : List ℕ → List ℕ) (B : ℕ) where
  pub short_key : (K : List ℕ) → length K ≤ B → key_block H B K ≡ with_zeros B K
  unfolding key_block
  short_key K l = rw (le-ltb B (length K) l)

  pub long_key : (K : List ℕ) → B < length K → key_block H B K ≡ with_zeros B (H K)
  unfolding key_block
  long_key K l = rw (lt-ltb B (length K) l)

  pub one_block_one_tag : (K K' text : List ℕ) → key_block H B K ≡ key_block H B K' → mac H B K text ≡ mac H B K' text
  unfolding mac
  one_block_one_tag K K' text e = rw e

  pub zeros_behind : (K : List ℕ) (n : ℕ) → length K + n ≤ B → key_block H B (K ++ replicate n 0) ≡ key_block H B K
  unfolding with_zeros
  zeros_behind K n l =
      let long : length (K ++ replicate n 0) ≡ length K + n = length-append K (replicate n 0) ∙ ap (λ (m : ℕ). length K + m) (length-replicate n 0) in
      let sum : n + (B - (length K + n)) ≡ B - length K = omega arith in
      short_key (K ++ replicate n 0) (omega (arith, long))
      ∙ ap (λ (m : ℕ). (K ++ replicate n 0) ++ replicate (B - m) 0) long
      ∙ append_assoc K (replicate n 0) (replicate (B - (length K + n)) 0)
      ∙ ap (λ (zeros : List ℕ). K ++ zeros) (replicate-append-replicate n (B - (length K + n)) 0 ∙ ap (λ (m : ℕ). replicate m 0) sum)
      ∙ sym (short_key K (omega arith))

  pub its_digest : (K : List ℕ) → B < length K → length (H K) ≤ B → key_block H B (H K) ≡ key_block H B K
  its_digest K l s = short_key (H K) s ∙ sym (long_key K l)

  front : (K : List ℕ) → take (length K) (with_zeros B K) ≡ K
  unfolding with_zeros
  front K = take_at K (replicate (B - length K) 0) (length K) refl

  pub different_blocks : (K K' : List ℕ) → length K ≡ length K' → length K ≤ B → key_block H B K ≡ key_block H B K' → K ≡ K'
  different_blocks K K' e l same =
      sym (front K) ∙ ap₂ (λ (n : ℕ) (x : List ℕ). take n x) e (sym (short_key K l) ∙ same ∙ short_key K' (omega (arith, e))) ∙ front K'
