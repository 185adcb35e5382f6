-- What the crates above may cite of this one, besides its specs, its contracts and its theorems (Theorems.antt): each promise is in the words of specs/,
-- and its proof is a law of this crate. Assumes nothing.
use mathlib.Core.Path.{◌≡◌}
use mathlib.Core.List.{List, ◌∷◌}
use Prim.Native.Nat.{ℕ, suc, ◌+◌, ◌<◌, ◌≤◌}
use lib.ListN.{length}
use Rattle.steering.specs.Answers.{Found}
use Rattle.steering.specs.Numbers.{AreBytes}
use Rattle.steering.specs.Parsing.{AllFit, accepted, parse, table_of}
use Rattle.steering.specs.Reading.{read_at}
use Rattle.steering.specs.Records.{Fits, body_of, kind_of}
use Rattle.steering.specs.Writing.{write_answer, write_leaves}
use Rattle.steering.specs.declared.records.Record.{Record}
use Rattle.steering.proofs.Laws.Complete as complete
use Rattle.steering.proofs.Laws.Reading as reading
use Rattle.steering.proofs.Laws.WriteBack as back

-- ---- reading at a place

-- a record that was found lies in the table, and the next place behind it
pub found_within : (t : List ℕ) (place : ℕ) (r : Record) (next : ℕ) → Found r next ≡ read_at t place → (place < next) × (next ≤ length t)
found_within = reading.found_within

-- and has no more than 33 bytes
pub found_short : (t : List ℕ) (place : ℕ) (r : Record) (next : ℕ) → Found r next ≡ read_at t place → next ≤ place + 33
found_short = reading.found_short

-- a record whose numbers fit is what its own bytes are read as
pub alone_is_read : (r : Record) → Fits r → read_at (kind_of r ∷ body_of r) 0 ≡ Found r (suc (length (body_of r)))
alone_is_read = complete.alone_is_read

-- a body has two bytes at least
pub least_body : (r : Record) → 2 ≤ length (body_of r)
least_body = complete.least_body

-- the bytes of a record are bytes
pub record_bytes : (r : Record) → AreBytes (kind_of r ∷ body_of r)
record_bytes = complete.record_bytes

-- ---- whole tables

-- the table of records whose numbers fit is accepted, if it is not too long
pub table_is_accepted : (rs : List Record) → AllFit rs → length (table_of rs) ≤ 4096 → parse (table_of rs) ≡ accepted rs
table_is_accepted = complete.complete

-- ---- writing

-- in a room that is too short nothing is written
pub short_write : (room : List ℕ) (place : ℕ) (r : Record) → length room < place + 1 + length (body_of r)
    → (write_answer (length room) place r ≡ record { refusal = 5; next = 0 }) × (write_leaves room place r ≡ room)
short_write = back.short_write
