-- The theorems of this crate that the pages quote, each closed: what it assumes stands in its statement. Assumes nothing.
use mathlib.Core.Path.{◌≡◌, sym}
use mathlib.Core.Bool.{not, ◌&&◌}
use mathlib.Core.Logic.{◌⊎◌, ◌↔◌}
use mathlib.Core.List.{List, [], ◌∷◌, ◌++◌}
use Prim.Native.Nat.{ℕ, suc, ◌+◌, ◌-◌, ◌<◌, ◌≤◌}
use native.Mathlib.Omega.{arith}
use lib.Dec.{eqb, ltb}
use lib.ListN.{drop, get_or, length, take}
use Rattle.echo.specs.declared.mode.Mode.TheVariants.{DoublePipe}
use Rattle.echo.specs.Digest.{digest_of}
use Rattle.echo.specs.Refusals.{Lowest, ◌when◌, no_salt}
use Rattle.echo.specs.Session.{digest_leaves, digest_refusal}
use Rattle.steering.specs.Answers.{Found}
use Rattle.steering.specs.Fingerprint.{fingerprint_answer, fingerprint_leaves, message, refusal_of}
use Rattle.steering.specs.Numbers.{AreBytes}
use Rattle.steering.specs.Parsing.{AllFit, accepted, parse, refused, table_of}
use Rattle.steering.specs.Reading.{number_of, read_at}
use Rattle.steering.specs.Records.{Fits, body_length, body_of, kind_of, record_of}
use Rattle.steering.specs.Writing.{address_too_high, put_at, write_answer, write_body_answer, write_body_leaves, write_body_refusal}
use Rattle.steering.specs.Writing.{write_leaves, write_refusal}
use Rattle.steering.specs.declared.records.Radio.TheVariants.{High, Low}
use Rattle.steering.specs.declared.records.Record.{Record}
use Rattle.steering.specs.declared.records.Record.TheVariants.{Floor, Node}
use Rattle.steering.proofs.Laws.Example as example
use Rattle.steering.proofs.Laws.Fingerprint as fingerprints
use Rattle.steering.proofs.Laws.Lowest as lowest
use Rattle.steering.proofs.Laws.Outcomes as outcomes
use Rattle.steering.proofs.Laws.WriteBack as back

-- the table of the scope: the node address a20000000007 and the join floors 3c at 2.4 GHz and 41 at 5 GHz
pub the_table_of_the_scope_is_read : parse (1 ∷ 162 ∷ 0 ∷ 0 ∷ 0 ∷ 0 ∷ 7 ∷ 2 ∷ 0 ∷ 60 ∷ 3 ∷ 0 ∷ 65 ∷ [])
    ≡ accepted (Node (record { address = 178120883699719 }) ∷ Floor (record { radio = Low; level = 60 }) ∷ Floor (record { radio = High; level = 65 }) ∷ [])
the_table_of_the_scope_is_read = example.three_records

-- a table is accepted exactly where it is the bytes of its records in order, whose numbers fit their fields, at most 4,096 of them
pub accepted_exactly : (t : List ℕ) (rs : List Record) → AreBytes t → (parse t ≡ accepted rs) ↔ ((t ≡ table_of rs) × AllFit rs × (length t ≤ 4096))
accepted_exactly t rs b = outcomes.accepted_exactly t b rs

pub refused_by_8_exactly : (t : List ℕ) → AreBytes t → (parse t ≡ refused 8 0) ↔ (4096 < length t)
refused_by_8_exactly = outcomes.refused_8_exactly

-- the bytes of some records, `place` of them, and then a byte that is no kind
pub refused_by_9_exactly : (t : List ℕ) (place : ℕ)
    → AreBytes t
    → (parse t ≡ refused 9 place)
    ↔ ((rs : List Record)
    × (kind : ℕ)
    × (rest : List ℕ)
    × AllFit rs
    × (t ≡ table_of rs ++ (kind ∷ rest))
    × (place ≡ length (table_of rs))
    × (body_length kind ≡ 0)
    × (length t ≤ 4096))
refused_by_9_exactly t place b = outcomes.refused_9_exactly t b place

-- the bytes of some records, `place` of them, and then a kind whose body is cut short
pub refused_by_10_exactly : (t : List ℕ) (place : ℕ)
    → AreBytes t
    → (parse t ≡ refused 10 place)
    ↔ ((rs : List Record)
    × (kind : ℕ)
    × (rest : List ℕ)
    × AllFit rs
    × (t ≡ table_of rs ++ (kind ∷ rest))
    × (place ≡ length (table_of rs))
    × ((0 < body_length kind) × (length rest < body_length kind))
    × (length t ≤ 4096))
refused_by_10_exactly t place b = outcomes.refused_10_exactly t b place

pub there_is_no_other_refusal : (t : List ℕ) (number place : ℕ)
    → AreBytes t
    → parse t ≡ refused number place
    → ((number ≡ 8) × (place ≡ 0)) ⊎ ((number ≡ 9) ⊎ (number ≡ 10))
there_is_no_other_refusal t number place b = outcomes.refused_by t b number place

-- the record that was found has the kind byte and the body that stand there, and its numbers fit their fields
pub a_record_is_what_stands_there : (t : List ℕ) (place next : ℕ) (r : Record)
    → AreBytes t
    → Found r next ≡ read_at t place
    → (kind_of r ≡ get_or t place 0) × (body_of r ≡ take (next - (place + 1)) (drop (place + 1) t)) × Fits r
a_record_is_what_stands_there t place next r b e = outcomes.stands_there t b place next r e

-- of the refusals that apply at a place the lowest is given, and none where a record stands there or the end: past the end; a long table; no kind; a body
-- cut short
pub reading_a_table_is_refused_by_the_lowest : (t : List ℕ) (place : ℕ)
    → let kind = get_or t place 0 in
    Lowest (number_of (read_at t place))
    ((6 when ltb (length t) place)
    ∷ (8 when ltb 4096 (length t))
    ∷ (9 when ltb place (length t) && eqb (body_length kind) 0)
    ∷ (10 when ltb place (length t) && ltb (length t - (place + 1)) (body_length kind))
    ∷ [])
reading_a_table_is_refused_by_the_lowest = lowest.read_lowest

-- ---- writing

-- reading what was written, in a room of at most 4,096 bytes, gives the record and the next place back
pub reading_what_was_written : (room : List ℕ) (place : ℕ) (r : Record)
    → Fits r
    → length room ≤ 4096
    → write_refusal (length room) place r ≡ 0
    → read_at (write_leaves room place r) place ≡ Found r (write_answer (length room) place r).next
reading_what_was_written = back.read_what_was_written

-- the same of a kind byte and a body: the record that is read has both
pub reading_a_body_that_was_written : (room : List ℕ) (place kind : ℕ) (body : List ℕ)
    → AreBytes body
    → length room ≤ 4096
    → write_body_refusal (length room) place kind (length body) ≡ 0
    → (read_at (write_body_leaves room place kind body) place
    ≡ Found (record_of kind body) (write_body_answer (length room) place kind (length body)).next)
    × (kind_of (record_of kind body) ≡ kind)
    × (body_of (record_of kind body) ≡ body)
reading_a_body_that_was_written = back.read_body_that_was_written

-- writing what was read, at a place of any room that is long enough, puts the bytes there that stood in the table
pub writing_what_was_read : (t : List ℕ) (from next : ℕ) (r : Record) (room : List ℕ) (place : ℕ)
    → AreBytes t
    → Found r next ≡ read_at t from
    → place + (next - from) ≤ length room
    → (write_answer (length room) place r ≡ record { refusal = 0; next = place + (next - from) })
    × (write_leaves room place r ≡ put_at room place (take (next - from) (drop from t)))
writing_what_was_read t from next r room place b e h = back.written_what_was_read t b from next r e room place h

-- and where it stood it changes nothing
pub a_record_written_back_changes_nothing : (t : List ℕ) (place next : ℕ) (r : Record)
    → AreBytes t
    → Found r next ≡ read_at t place
    → (write_answer (length t) place r ≡ record { refusal = 0; next = next }) × (write_leaves t place r ≡ t)
a_record_written_back_changes_nothing t place next r b e = back.written_back t b place next r e

-- a record whose numbers fit is written wherever the room is long enough
pub a_record_that_fits_is_written : (room : List ℕ) (place : ℕ) (r : Record)
    → Fits r
    → place + 1 + length (body_of r) ≤ length room
    → (write_answer (length room) place r ≡ record { refusal = 0; next = place + 1 + length (body_of r) })
    × (write_leaves room place r ≡ put_at room place (kind_of r ∷ body_of r))
a_record_that_fits_is_written = back.written

-- of the refusals that apply the lowest is given: a short room; an address that is too high
pub a_write_is_refused_by_the_lowest : (room place : ℕ) (r : Record)
    → Lowest (write_refusal room place r) ((5 when ltb room (place + 1 + length (body_of r))) ∷ (12 when address_too_high r) ∷ [])
a_write_is_refused_by_the_lowest = lowest.write_lowest

-- and of a body: a short room; no kind; a body of another length
pub a_body_is_refused_by_the_lowest : (room place kind bodySize : ℕ)
    → Lowest (write_body_refusal room place kind bodySize)
    ((5 when ltb room (place + 1 + bodySize)) ∷ (9 when eqb (body_length kind) 0) ∷ (10 when not (eqb bodySize (body_length kind))) ∷ [])
a_body_is_refused_by_the_lowest = lowest.write_body_lowest

-- a refusal, whose number is k + 1, leaves the room, and its next place is 0
pub a_refused_write_leaves_the_room : (k : ℕ) (room : List ℕ) (place : ℕ) (r : Record)
    → write_refusal (length room) place r ≡ suc k
    → (write_leaves room place r ≡ room) × (write_answer (length room) place r ≡ record { refusal = suc k; next = 0 })
a_refused_write_leaves_the_room = back.refused_write

pub a_refused_body_leaves_the_room : (k : ℕ) (room : List ℕ) (place kind : ℕ) (body : List ℕ)
    → write_body_refusal (length room) place kind (length body) ≡ suc k
    → (write_body_leaves room place kind body ≡ room)
    × (write_body_answer (length room) place kind (length body) ≡ record { refusal = suc k; next = 0 })
a_refused_body_leaves_the_room = back.refused_body

-- a kind byte and a body that a record has are written as that record
pub a_body_is_written_as_its_record : (room : List ℕ) (place : ℕ) (r : Record)
    → Fits r
    → (write_body_answer (length room) place (kind_of r) (length (body_of r)) ≡ write_answer (length room) place r)
    × (write_body_leaves room place (kind_of r) (body_of r) ≡ write_leaves room place r)
a_body_is_written_as_its_record = back.body_of_record

-- ---- the fingerprint

-- of the refusals that apply the lowest is given; 9 and 10 are the table's own, exactly where the theorems above say
pub a_fingerprint_is_refused_by_the_lowest : (saltLength room : ℕ) (t : List ℕ)
    → AreBytes t
    → Lowest (fingerprint_answer saltLength room (parse t)).refusal
    ((2 when no_salt saltLength)
    ∷ (5 when ltb room 32)
    ∷ (8 when ltb 4096 (length t))
    ∷ (9 when eqb (refusal_of (parse t)) 9)
    ∷ (10 when eqb (refusal_of (parse t)) 10)
    ∷ [])
a_fingerprint_is_refused_by_the_lowest saltLength room t bytes = lowest.print_lowest t bytes saltLength room

-- two accepted tables have the same message exactly when they have the same records in the same order
pub same_message_exactly : (t u : List ℕ) (rs qs : List Record)
    → AreBytes t
    → AreBytes u
    → parse t ≡ accepted rs
    → parse u ≡ accepted qs
    → (message t ≡ message u) ↔ (rs ≡ qs)
same_message_exactly = fingerprints.same_message_exactly

-- the fingerprint of an accepted table is the digest of its message
pub an_accepted_table_is_digested : (salt t room : List ℕ) (rs : List Record)
    → length salt ≡ 16
    → 32 ≤ length room
    → parse t ≡ accepted rs
    → (fingerprint_answer (length salt) (length room) (parse t) ≡ record { refusal = 0; place = 0 })
    × (fingerprint_leaves salt t room ≡ digest_of DoublePipe 256 salt (message t) ++ drop 32 room)
an_accepted_table_is_digested = fingerprints.digested

-- the digest layer accepts each message that is handed to it, and leaves in the room what the fingerprint leaves there
pub the_digest_layer_takes_each_message : (salt t room : List ℕ)
    → (fingerprint_answer (length salt) (length room) (parse t)).refusal ≡ 0
    → (digest_refusal 256 (length salt) (length (message t)) (length room) ≡ 0)
    × (digest_leaves DoublePipe 256 salt (message t) room ≡ fingerprint_leaves salt t room)
the_digest_layer_takes_each_message = fingerprints.takes

-- a refusal, whose number is k + 1, leaves the room
pub a_refused_fingerprint_leaves_the_room : (k : ℕ) (salt t room : List ℕ)
    → (fingerprint_answer (length salt) (length room) (parse t)).refusal ≡ suc k
    → fingerprint_leaves salt t room ≡ room
a_refused_fingerprint_leaves_the_room k salt t room e = sym (fingerprints.left_alone salt t room (λ z. omega (arith, e, z)))
