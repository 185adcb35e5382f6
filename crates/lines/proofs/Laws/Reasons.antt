-- The reason behind an error number, from the test of it. Assumes nothing.
use mathlib.Core.Path.{◌≡◌}
use mathlib.Core.List.{List}
use Prim.Native.Nat.{ℕ}
use borrow.Author.Tests.{ne_eqb}
use Rattle.lines.specs.Decimal.{decimal_of}
use Rattle.lines.specs.Lines.{Put}
use Rattle.lines.specs.Reasons.{bytes_of, reason_of}
use Rattle.lines.proofs.Laws.Lines.{put_join}

pub known : (n e : ℕ) (room : List ℕ) (at : ℕ) (after : List ℕ) (r : ℕ) → e ≡ n → Put room at (reason_of n) after r → Put room at (reason_of e) after r
known n e room at after r h p = rw h p

module _ (e : ℕ) where
  pub unknown : (e ≡ 2 → ⊥) → (e ≡ 5 → ⊥) → (e ≡ 9 → ⊥) → (e ≡ 13 → ⊥) → (e ≡ 20 → ⊥) → (e ≡ 21 → ⊥) → (e ≡ 28 → ⊥) → (e ≡ 36 → ⊥)
      → (room : List ℕ) (at : ℕ) (mid : List ℕ) (end : ℕ) (after : List ℕ) (r : ℕ)
      → Put room at (bytes_of "error ") mid end → Put mid end (decimal_of e) after r
      → Put room at (reason_of e) after r
  unfolding reason_of
  unknown a b c d f g h i room at mid end after r p q =
      simp (ne_eqb e 2 a, ne_eqb e 5 b, ne_eqb e 9 c, ne_eqb e 13 d, ne_eqb e 20 f, ne_eqb e 21 g, ne_eqb e 28 h, ne_eqb e 36 i)
      (put_join room at (bytes_of "error ") mid end (decimal_of e) after r p q)
