-- A whole table: its records in order, or the refusal of the record nearest the front. Assumes nothing.
use Rattle.std.specs.Prelude.{List, [], ◌∷◌, ◌++◌, ℕ, zero, suc, length}
use Rattle.steering.specs.Answers.{Counted, End, Found, Reading, Refused}
use Rattle.steering.specs.Reading.{read_at}
use Rattle.steering.specs.Records.{Fits, body_of, kind_of}
use Rattle.steering.specs.declared.records.Record.{Record}

-- records, or a refusal number and a place
pub data Parsed : Type 0 where
  accepted : List Record → Parsed
  refused : ℕ → ℕ → Parsed

abbrev pub in_front : Record → Parsed → Parsed
in_front r (accepted rs) = accepted (r ∷ rs)
in_front r (refused number place) = refused number place

-- what was read, and the parse of the rest from the next place on
abbrev pub go_on : Reading → (ℕ → Parsed) → Parsed
go_on (Found r next) rest = in_front r (rest next)
go_on End rest = accepted []
go_on (Refused number place) rest = refused number place

-- from a place on; the first argument is above the number of records, so that its 0 is never met
unfoldable pub parse_from : ℕ → List ℕ → ℕ → Parsed
parse_from zero table place = refused 8 0
parse_from (suc n) table place = go_on (read_at table place) (parse_from n table)

-- a table has no more records than bytes
abbrev pub parse : List ℕ → Parsed
parse table = parse_from (suc (length table)) table 0

-- the count of the records, 0 where the table is refused
abbrev pub count_of : Parsed → Counted
count_of (accepted rs) = record { refusal = 0; place = 0; count = length rs }
count_of (refused number place) = record { refusal = number; place = place; count = 0 }

-- the table of a list of records: of each the kind byte and the body
abbrev pub table_of : List Record → List ℕ
table_of [] = []
table_of (r ∷ rs) = kind_of r ∷ body_of r ++ table_of rs

-- the numbers of all records fit
abbrev pub AllFit : List Record → Type 0
AllFit [] = Unit {0}
AllFit (r ∷ rs) = Fits r × AllFit rs
