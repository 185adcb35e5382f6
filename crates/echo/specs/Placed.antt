-- Bytes put into a lent slice: a step of the code, which only contracts of private functions cite. Assumes nothing.
use Rattle.std.specs.Prelude.{◌≡◌, ℕ, ◌+◌, ◌<◌, ◌≤◌, List, length, slice_index}

-- r is l with the first n bytes of w from the place `at` on
pub record Placed (l : List ℕ) (at : ℕ) (w : List ℕ) (n : ℕ) (r : List ℕ) : Type 0 where
  pub long : length r ≡ length l
  pub before : (k : ℕ) → k < at → slice_index r k ≡ slice_index l k
  pub inside : (k : ℕ) → k < n → slice_index r (at + k) ≡ slice_index w k
  pub behind : (k : ℕ) → at + n ≤ k → slice_index r k ≡ slice_index l k
