-- The descriptor for the verdict. Assumes nothing.
use Rattle.std.specs.Prelude.{ℕ, ◌-◌, cond, List, [], ◌∷◌, ℤ, pos, None, Some, drop, leb, take, bytes_eq, Option}
use Rattle.command.specs.Words.{bytes_of}

-- a digit from 3 to 9, alone
abbrev pub descriptor_of : List ℕ → Option ℤ
descriptor_of [] = None
descriptor_of (x ∷ []) = cond (leb 51 x) (cond (leb x 57) (Some (pos (x - 48))) None) None
descriptor_of (x ∷ y ∷ rest) = None

abbrev pub verdict_of : List ℕ → Option ℤ
verdict_of word = cond (bytes_eq (take 13 word) (bytes_of "--verdict-fd=")) (descriptor_of (drop 13 word)) None
