-- The records of a steering table: the kind of each and its body, byte by byte. Assumes nothing.
use Rattle.std.specs.Prelude.{List, ◌++◌, ℕ, ◌^◌, ◌<◌, eqb}
use Rattle.steering.specs.Numbers.{bytes_of, either, number_at}
use Rattle.steering.specs.declared.records.Radio.{Radio}
use Rattle.steering.specs.declared.records.Radio.TheVariants.{High, Low}
use Rattle.steering.specs.declared.records.Record.{Record}
use Rattle.steering.specs.declared.records.Record.TheVariants.{Floor, Hold, Node, Note}

-- 1 node address, 2 and 3 join floor at 2.4 and 5 GHz, 4 hold time, 5 note; 0 for any other kind
unfoldable pub body_length : ℕ → ℕ
body_length kind =
    either (eqb kind 1) 6
    (either (eqb kind 2) 2
    (either (eqb kind 3) 2
    (either (eqb kind 4) 4
    (either (eqb kind 5) 32 0))))

-- ---- a record's kind and body, from its values

abbrev pub floor_kind : Radio → ℕ
floor_kind Low = 2
floor_kind High = 3

abbrev pub kind_of : Record → ℕ
kind_of (Node a) = 1
kind_of (Floor f) = floor_kind f.radio
kind_of (Hold h) = 4
kind_of (Note n) = 5

abbrev pub body_of : Record → List ℕ
body_of (Node a) = bytes_of 6 a.address
body_of (Floor f) = bytes_of 2 f.level
body_of (Hold h) = bytes_of 4 h.time
body_of (Note n) = bytes_of 8 n.first ++ bytes_of 8 n.second ++ bytes_of 8 n.third ++ bytes_of 8 n.fourth

-- ---- a record from its kind and body

-- of a kind from 1 to 5
unfoldable pub record_of : ℕ → List ℕ → Record
record_of kind body =
    either (eqb kind 1) (Node (record { address = number_at 6 0 body }))
    (either (eqb kind 2) (Floor (record { radio = Low; level = number_at 2 0 body }))
    (either (eqb kind 3) (Floor (record { radio = High; level = number_at 2 0 body }))
    (either (eqb kind 4) (Hold (record { time = number_at 4 0 body }))
    (Note (record { first = number_at 8 0 body; second = number_at 8 8 body; third = number_at 8 16 body; fourth = number_at 8 24 body })))))

-- ---- numbers that fit their fields

abbrev pub Fits : Record → Type 0
Fits (Node a) = a.address < 256 ^ 6
Fits (Floor f) = f.level < 256 ^ 2
Fits (Hold h) = h.time < 256 ^ 4
Fits (Note n) = (n.first < 256 ^ 8) × (n.second < 256 ^ 8) × (n.third < 256 ^ 8) × (n.fourth < 256 ^ 8)
