-- `is_same` meets its contract: the library's test for equal bytes is the definition's. Assumes nothing.
use Rattle.std.proofs.Common.{◌≡◌, ℕ, List, [], ◌∷◌, Bool, true, false, cond, ◌&&◌, eqb, refl, ◌∙◌}
use lib.Pointwise.{pointwise}
use Rattle.write_table.specs.Line.{same_of}
use Rattle.write_table.proofs.line.is_same.Goals as goal

same_pointwise : (a b : List ℕ) → pointwise eqb a b ≡ same_of a b
unfolding same_of
same_pointwise [] [] = refl
same_pointwise [] (y ∷ ys) = refl
same_pointwise (x ∷ xs) [] = refl
same_pointwise (x ∷ xs) (y ∷ ys) = by (eqb x y) (same_pointwise xs ys)
  where
    by : (t : Bool) → pointwise eqb xs ys ≡ same_of xs ys → (t && pointwise eqb xs ys) ≡ cond t (same_of xs ys) false
    by true h = h
    by false h = refl

pub returns : goal.returns
returns c = c.eq.ensures ∙ same_pointwise _ _
