-- The listing of a table's records, as list_table prints it. Assumes nothing.
use Rattle.std.specs.Prelude.{ℕ, suc, ◌+◌, List, [], ◌∷◌, ◌++◌, length}
use Rattle.lines.specs.Decimal.{decimal_of}
use Rattle.lines.specs.Hexadecimal.{digits_of}
use Rattle.lines.specs.Lines.{spread}
use Rattle.steering.specs.Records.{body_of, kind_of}
use Rattle.steering.specs.declared.records.Record.{Record}
use Rattle.write_table.specs.Line.{count_line}

-- a place, the kind in hex and the body in hex, with a space between two
abbrev pub record_line : List ℕ → Record → List ℕ
record_line place r = place ++ (32 ∷ spread digits_of (kind_of r ∷ []) ++ (32 ∷ spread digits_of (body_of r)))

-- a line for each record and one for their count, each with its end; from a place on, behind so many records
unfoldable pub lines_from : ℕ → ℕ → List Record → List ℕ
lines_from place count [] = count_line count ++ (10 ∷ [])
lines_from place count (r ∷ rs) = record_line (decimal_of place) r ++ (10 ∷ lines_from (place + suc (length (body_of r))) (count + 1) rs)

abbrev pub listing_of : List Record → List ℕ
listing_of rs = lines_from 0 0 rs
