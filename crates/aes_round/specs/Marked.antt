-- Examples, each a computation and what it gives. Assumes nothing.
use Rattle.std.specs.Prelude.{◌≡◌, List, [], ◌∷◌, ℕ}

infix 40 ◌gives◌
pub data Example : Type 0 where
  ◌gives◌ : List ℕ → List ℕ → Example

-- each example of a list holds
abbrev pub Hold : List Example → Type 0
Hold [] = Unit {0}
Hold ((computed gives expected) ∷ rest) = (computed ≡ expected) × Hold rest
