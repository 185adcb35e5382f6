-- What a whole text comes to: a table, or the number of the first bad line, from 1. Assumes nothing.
use Rattle.std.specs.Prelude.{ℕ, suc, ◌+◌, Bool, true, false, cond, not, ◌&&◌, List, [], ◌∷◌, ◌++◌, Err, Ok, eqb, leb, length, Result}
use Rattle.steering.specs.Records.{body_of, kind_of}
use Rattle.write_table.specs.declared.line.Line.{Line}
use Rattle.write_table.specs.declared.line.Line.TheVariants.{Count, Record, Unreadable}
use Rattle.write_table.specs.declared.text.BadLine.{BadLine}
use Rattle.write_table.specs.Line.{line_of}

pub data Text : Type 0 where
  table : List ℕ → Text
  bad_line : ℕ → Text

-- what a line comes to behind so many records, whose bytes are given: the bytes of one record more, of which at most 4096 are a table, and then
-- the rest of the text; or the end, behind which nothing comes. Each line before it was a record's, so that its own number is count + 1
abbrev pub go_on : Line → ℕ → List ℕ → Bool → (List ℕ → Text) → Text
go_on (Record r) count bytes is_last rest =
    cond (leb (length bytes + suc (length (body_of r))) 4096) (rest (bytes ++ (kind_of r ∷ body_of r))) (bad_line (count + 1))
go_on Count count bytes is_last rest = cond is_last (table bytes) (bad_line (count + 2))
go_on Unreadable count bytes is_last rest = bad_line (count + 1)

abbrev pub is_nil : List ℕ → Bool
is_nil [] = true
is_nil (x ∷ xs) = false

-- the rest of a text, behind the bytes of a line that has not ended. `more` tells whether the input goes on behind the text
unfoldable pub text_from : Bool → List ℕ → ℕ → List ℕ → List ℕ → Text
text_from more line count bytes [] = bad_line (count + 1)
text_from more line count bytes (x ∷ rest) =
    cond (eqb x 10)
    (go_on (line_of count line) count bytes (is_nil rest && not more) (λ longer. text_from more [] (count + 1) longer rest))
    (text_from more (line ++ (x ∷ [])) count bytes rest)

-- the text is the first 65,536 bytes of the input
abbrev pub text_of : Bool → List ℕ → Text
text_of more text = text_from more [] 0 [] text

-- ---- as the code answers

-- how long the table is, or the bad line
abbrev pub made_of : Text → Result ℕ BadLine
made_of (table bytes) = Ok (length bytes)
made_of (bad_line n) = Err (record { number = n })

abbrev pub bytes_made : Text → List ℕ
bytes_made (table bytes) = bytes
bytes_made (bad_line n) = []
