-- A wrong program of must-fail/ changes a definition, since the code could be made so only by a change of its shape. A point at which the definition
-- and the changed one, which is written out, differ. Assumes nothing.
use mathlib.Core.Path.{◌≡◌, ap}
use mathlib.Core.List.{List, [], ◌∷◌}
use Prim.Native.Nat.{ℕ}
use native.Mathlib.Omega.{arith}
use lib.Dec.{ltb}
use lib.ListN.{get_or, length, take}
use Rattle.echo.specs.Families.{either}
use Rattle.hmac.specs.Hmac.{key_block, with_zeros}

abbrev cut : (List ℕ → List ℕ) → ℕ → List ℕ → List ℕ
cut H B K = with_zeros B (either (ltb B (length K)) (take B K) K)

-- a key of two bytes, blocks of one, and a hash function whose values are 7
pub long_key_cut_differs : key_block (λ l. 7 ∷ []) 1 (1 ∷ 2 ∷ []) ≡ cut (λ l. 7 ∷ []) 1 (1 ∷ 2 ∷ []) → ⊥
unfolding key_block with_zeros
long_key_cut_differs e = let z : ◌≡◌ {A = ℕ} 7 1 = ap (λ (l : List ℕ). get_or l 0 0) e in omega arith
