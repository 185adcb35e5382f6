-- What the routines answer, as numbers and places, and what each answer of the code says in these words. Assumes nothing.
use Rattle.std.specs.Prelude.{Err, None, Ok, Option, Result, Some, ℕ}
use Rattle.steering.specs.declared.records.Record.{Record}
use Rattle.steering.specs.declared.refusals.Refusal.{Refusal}
use Rattle.steering.specs.declared.refusals.Refusal.TheVariants.{BadSalt, CutShort, LongTable, PastEnd, ShortRoom, UnknownKind}
use Rattle.steering.specs.declared.refusals.WriteRefusal.{WriteRefusal}
use Rattle.steering.specs.declared.refusals.WriteRefusal.TheVariants.{BodyLength, HighAddress, ShortRoom as NoRoom, UnknownKind as NoKind}

-- ---- the answers

-- a record and the place behind it, the end of the table, or a refusal number and its place
pub data Reading : Type 0 where
  Found : Record → ℕ → Reading
  End : Reading
  Refused : ℕ → ℕ → Reading

-- a refusal number, 0 for none, its place, and the number of records, 0 where the table is refused
pub record Counted : Type 0 where
  pub refusal : ℕ
  pub place : ℕ
  pub count : ℕ

-- a refusal number, 0 for none, and its place
pub record Fingerprinted : Type 0 where
  pub refusal : ℕ
  pub place : ℕ

-- a refusal number, 0 for none, and the place behind the record, 0 with a refusal
pub record Written : Type 0 where
  pub refusal : ℕ
  pub next : ℕ

-- ---- the numbers and places of refusals

abbrev pub refusal_number : Refusal → ℕ
refusal_number BadSalt = 2
refusal_number ShortRoom = 5
refusal_number PastEnd = 6
refusal_number LongTable = 8
refusal_number (UnknownKind place) = 9
refusal_number (CutShort place) = 10

-- the place of the kind byte, else 0
abbrev pub refusal_place : Refusal → ℕ
refusal_place BadSalt = 0
refusal_place ShortRoom = 0
refusal_place PastEnd = 0
refusal_place LongTable = 0
refusal_place (UnknownKind place) = place
refusal_place (CutShort place) = place

abbrev pub write_number : WriteRefusal → ℕ
write_number NoRoom = 5
write_number NoKind = 9
write_number BodyLength = 10
write_number HighAddress = 12

-- ---- the answer of each routine

abbrev pub reading_of : Result (Option (Record × ℕ)) Refusal → Reading
reading_of (Ok (Some found)) = Found found.0 found.1
reading_of (Ok None) = End
reading_of (Err refusal) = Refused (refusal_number refusal) (refusal_place refusal)

abbrev pub counted_of : Result ℕ Refusal → Counted
counted_of (Ok count) = record { refusal = 0; place = 0; count = count }
counted_of (Err refusal) = record { refusal = refusal_number refusal; place = refusal_place refusal; count = 0 }

abbrev pub fingerprinted_of : Result (Unit {0}) Refusal → Fingerprinted
fingerprinted_of (Ok done) = record { refusal = 0; place = 0 }
fingerprinted_of (Err refusal) = record { refusal = refusal_number refusal; place = refusal_place refusal }

abbrev pub written_of : Result ℕ WriteRefusal → Written
written_of (Ok next) = record { refusal = 0; next = next }
written_of (Err refusal) = record { refusal = write_number refusal; next = 0 }
