-- What a word of the command line is. Assumes nothing.
use Rattle.std.specs.Prelude.{ℕ, Bool, false, cond, List, [], ◌∷◌, eqb, bytes_eq}
use Prim.Native.Char.{code}
use Prim.Native.String.{String}
use Prim.Native.String.{[] as []ˢ, ◌∷◌ as ◌∷ˢ◌}
use Rattle.command.specs.declared.words.Word.{Word}
use Rattle.command.specs.declared.words.Word.TheVariants.{End, File, Flag, Help, Version}

-- a text as bytes
unfoldable pub bytes_of : String → List ℕ
bytes_of []ˢ = []
bytes_of (c ∷ˢ s) = code c ∷ bytes_of s

-- whether a dash is in front, with something behind it
abbrev pub is_dashed : List ℕ → Bool
is_dashed [] = false
is_dashed (x ∷ []) = false
is_dashed (x ∷ y ∷ rest) = eqb x 45

abbrev pub kind_of : List ℕ → Bool → Word
kind_of word is_ended =
    cond is_ended File
    (cond (bytes_eq word (bytes_of "--")) End
    (cond (bytes_eq word (bytes_of "-h")) Help
    (cond (bytes_eq word (bytes_of "--help")) Help
    (cond (bytes_eq word (bytes_of "--version")) Version
    (cond (is_dashed word) Flag File)))))
