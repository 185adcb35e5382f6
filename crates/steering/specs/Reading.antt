-- What stands at a place of a table. Assumes nothing.
use Rattle.std.specs.Prelude.{List, ℕ, ◌+◌, ◌-◌, eqb, ltb, drop, get_or, length, take}
use Rattle.steering.specs.Answers.{End, Found, Reading, Refused}
use Rattle.steering.specs.Numbers.{either}
use Rattle.steering.specs.Records.{body_length, record_of}

-- the record whose kind byte stands at a place: 9 where no record has that kind, 10 where the table ends within the body
unfoldable pub record_at : List ℕ → ℕ → ℕ → Reading
record_at table place kind =
    either (eqb (body_length kind) 0) (Refused 9 place)
    (either (ltb (length table - (place + 1)) (body_length kind)) (Refused 10 place)
    (Found (record_of kind (take (body_length kind) (drop (place + 1) table))) (place + 1 + body_length kind)))

-- 6 where the place is past the end, 8 where the table is over 4096 bytes
unfoldable pub read_at : List ℕ → ℕ → Reading
read_at table place =
    either (ltb (length table) place) (Refused 6 0)
    (either (ltb 4096 (length table)) (Refused 8 0)
    (either (eqb place (length table)) End
    (record_at table place (get_or table place 0))))

-- the refusal number of what was read; 0 where a record stands there, or the end
abbrev pub number_of : Reading → ℕ
number_of (Found r next) = 0
number_of End = 0
number_of (Refused number place) = number
