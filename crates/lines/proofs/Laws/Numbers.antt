-- Error numbers, as the code has them, at 32 bits with a sign. Assumes nothing.
use mathlib.Core.List.{List}
use mathlib.Core.Path.{◌≡◌, ◌∙◌}
use Prim.Native.Nat.{ℕ}
use native.Mathlib.Omega.{arith}
use lib.IntN.{ℤ, nat_abs, negsuc, pos}
use mir.Syntax.{w32}
use mir.Val.{SFits, of_z, to_z}
use mir.ValLaws.{to_z-of_z}
use Rattle.std.specs.Int.{FitsUnsignedBits}
use Rattle.std.specs.Prelude.{Err, Ok, Result}
use Rattle.std.specs.Result.{OkIff, result_unwrap_or}
use Rattle.lines.specs.Lines.{Put}
use Rattle.lines.specs.Reasons.{number_of, reason_of}

module _ {E : Type 0} (n : ℕ) where
  tried : (z : ℤ) (r : Result ℕ E) → SFits w32 z → OkIff r (FitsUnsignedBits 64 z) (nat_abs z) → n ≡ result_unwrap_or r 0 → n ≡ number_of z
  unfolding number_of
  tried (pos m) (Ok x) f p e = e ∙ p.1
  tried (pos m) (Err x) f p e = absurd (p (omega (arith, f.sfits)))
  tried (negsuc m) (Ok x) f p e = absurd p.0
  tried (negsuc m) (Err x) f p e = e

  pub number_tried : (z : ℤ) (r : Result ℕ E) → SFits w32 z → OkIff r (FitsUnsignedBits 64 (to_z w32 (of_z w32 z))) (nat_abs (to_z w32 (of_z w32 z)))
      → n ≡ result_unwrap_or r 0 → n ≡ number_of z
  number_tried z r f p e = tried z r f (rw (to_z-of_z w32 z f) at p) e

module _ (z : ℤ) (f : SFits w32 z) where
  pub reason_of_lem : (n : ℕ) → n ≡ number_of (to_z w32 (of_z w32 z)) → (room : List ℕ) (at : ℕ) (after : List ℕ) (r : ℕ)
      → Put room at (reason_of n) after r → Put room at (reason_of (number_of z)) after r
  reason_of_lem n e room at after r p = rw (e, to_z-of_z w32 z f) at p

  -- of an error number that is handed on as it is
  pub reason_handed_on : (room : List ℕ) (at : ℕ) (after : List ℕ) (r : ℕ) → Put room at (reason_of (number_of (to_z w32 (of_z w32 z)))) after r
      → Put room at (reason_of (number_of z)) after r
  reason_handed_on room at after r p = rw (to_z-of_z w32 z f) at p
