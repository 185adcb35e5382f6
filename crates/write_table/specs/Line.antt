-- What a line of a listing says, without its line end. Assumes nothing.
use Rattle.std.specs.Prelude.{ℕ, suc, ◌+◌, ◌-◌, Bool, true, false, cond, ◌&&◌, List, [], ◌∷◌, ◌++◌, eqb, leb, ltb, drop, get_or, length, take}
use Rattle.lines.specs.Decimal.{decimal_of}
use Rattle.steering.specs.Answers.{End, Found, Reading, Refused}
use Rattle.steering.specs.Reading.{read_at}
use Rattle.write_table.specs.declared.line.Line.{Line}
use Rattle.write_table.specs.declared.line.Line.TheVariants.{Count, Record, Unreadable}
use Rattle.write_table.specs.Hexadecimal.{is_hex, pairs_of}

-- ---- a record: PLACE KIND BODY

-- how many bytes at the front of a line are decimal digits
unfoldable pub digits_in : List ℕ → ℕ
digits_in [] = 0
digits_in (x ∷ xs) = cond (leb 48 x && leb x 57) (suc (digits_in xs)) 0

-- the record that is read, where it is all of the bytes
abbrev pub only_record : ℕ → Reading → Line
only_record size (Found r next) = cond (eqb next size) (Record r) Unreadable
only_record size End = Unreadable
only_record size (Refused number place) = Unreadable

-- the record that these bytes are, as a table of that record alone
unfoldable pub alone : List ℕ → Line
alone bytes = only_record (length bytes) (read_at bytes 0)

-- behind a place, of at least one digit: a space, two bytes and a space
unfoldable pub is_framed : List ℕ → ℕ → Bool
is_framed line at =
    cond (eqb at 0) false (cond (ltb (length line - at) 4) false (cond (eqb (get_or line at 0) 32) (eqb (get_or line (at + 3) 0) 32) false))

-- the digits of the kind, and those of the body
abbrev pub hex_behind : List ℕ → ℕ → List ℕ
hex_behind line at = take 2 (drop (at + 1) line) ++ drop (at + 4) line

unfoldable pub record_behind : List ℕ → ℕ → Line
record_behind line at = cond (is_hex (hex_behind line at)) (alone (pairs_of (hex_behind line at))) Unreadable

-- the place may be any digits
unfoldable pub record_in : List ℕ → Line
record_in line = cond (is_framed line (digits_in line)) (record_behind line (digits_in line)) Unreadable

-- ---- the end: records N

-- whether two texts are equal, byte by byte
unfoldable pub same_of : List ℕ → List ℕ → Bool
same_of [] [] = true
same_of [] (y ∷ ys) = false
same_of (x ∷ xs) [] = false
same_of (x ∷ xs) (y ∷ ys) = cond (eqb x y) (same_of xs ys) false

-- `records ` and the number of records in decimal
abbrev pub count_line : ℕ → List ℕ
count_line count = 114 ∷ 101 ∷ 99 ∷ 111 ∷ 114 ∷ 100 ∷ 115 ∷ 32 ∷ decimal_of count

-- ---- either, behind so many records

unfoldable pub line_of : ℕ → List ℕ → Line
line_of count line = cond (same_of line (count_line count)) Count (record_in line)
