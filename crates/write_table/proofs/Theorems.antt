-- The theorems of this program that the pages quote, each closed: what it assumes stands in its statement. Assumes nothing.
use mathlib.Core.Path.{◌≡◌, ◌∙◌, ap, subst, sym}
use mathlib.Core.Bool.{Bool, false}
use mathlib.Core.List.{List}
use Prim.Native.Nat.{ℕ, ◌<◌, ◌≤◌}
use lib.ListN.{get_or, length}
use Rattle.steering.specs.Numbers.{AreBytes}
use Rattle.steering.specs.Parsing.{accepted, parse, table_of}
use Rattle.steering.specs.Records.{Fits}
use Rattle.steering.specs.declared.records.Record.{Record as TableRecord}
use Rattle.steering.proofs.Promises.{table_is_accepted}
use Rattle.steering.proofs.Theorems.{accepted_exactly}
use Rattle.write_table.specs.declared.line.Line.TheVariants.{Record}
use Rattle.write_table.specs.Line.{line_of}
use Rattle.write_table.specs.Listing.{listing_of, record_line}
use Rattle.write_table.specs.Text.{table, text_of}
use Rattle.write_table.proofs.Laws.Listing as listing

-- a record's line is read as that record, whatever digits its place has
pub a_line_is_read_whatever_its_place : (count : ℕ) (place : List ℕ) (r : TableRecord)
    → ((k : ℕ) → k < length place → (48 ≤ get_or place k 0) × (get_or place k 0 ≤ 57))
    → 1 ≤ length place
    → Fits r
    → line_of count (record_line place r) ≡ Record r
a_line_is_read_whatever_its_place count place r digits some f = listing.record_line_is_read place digits some r f count

-- the listing of an accepted table becomes that table, and is no longer than what is read of a text
pub a_listing_becomes_its_table : (t : List ℕ) (rs : List TableRecord)
    → AreBytes t
    → parse t ≡ accepted rs
    → (text_of false (listing_of rs) ≡ table t) × (length (listing_of rs) ≤ 65536)
a_listing_becomes_its_table t rs b e =
    let A = (accepted_exactly t rs b).0 e in
    let L = listing.listing_becomes_its_table rs A.1 (subst (λ (u : List ℕ). length u ≤ 4096) A.0 A.2) in
    (L.0 ∙ ap table (sym A.0), L.1)

-- whatever a text is made is a table that is accepted
pub what_is_made_is_accepted : (more : Bool) (text t : List ℕ)
    → text_of more text ≡ table t
    → (rs : List TableRecord) × (t ≡ table_of rs) × (parse t ≡ accepted rs)
what_is_made_is_accepted more text t e =
    let T = listing.made_is_a_table more text t e in
    let short = subst (λ (u : List ℕ). length u ≤ 4096) T.1 T.3 in
    (T.0, T.1, ap parse T.1 ∙ table_is_accepted T.0 T.2 short)
