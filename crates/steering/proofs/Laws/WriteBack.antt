-- Reading what was written, and writing what was read. Assumes nothing.
use mathlib.Core.Path.{◌≡◌, refl, sym, ap, ap₂, ◌∙◌}
use mathlib.Core.Bool.{Bool, true, false}
use mathlib.Core.List.{List, ◌∷◌, ◌++◌, append_assoc}
use Prim.Native.Nat.{ℕ, suc, ◌+◌, ◌-◌, ◌<◌, ◌≤◌}
use native.Mathlib.Omega.{arith}
use borrow.Author.Tests.{eq-eqb, eqb-false, eqb-true, le-ltb, lt-ltb, ltb-false, ne_eqb}
use lib.Dec.{eqb, ltb}
use lib.ListN.{drop, length, length-append, length-drop, take, take-append-drop}
use lib.Seq.{drop-drop, length-take-le, take_at}
use Rattle.steering.specs.Answers.{Found}
use Rattle.steering.specs.Numbers.{AreBytes}
use Rattle.steering.specs.Reading.{read_at}
use Rattle.steering.specs.Records.{Fits, body_length, body_of, kind_of, record_of}
use Rattle.steering.specs.Writing.{put_at, write_answer, write_body_answer, write_body_leaves, write_body_refusal, write_leaves, write_refusal}
use Rattle.steering.specs.declared.records.Record.{Record}
use Rattle.steering.proofs.Laws.Complete.{body_length_lem, found_there, known, t}
use Rattle.steering.proofs.Laws.Outcomes.{found_fits, record_fits}
use Rattle.steering.proofs.Laws.Reading.{found}
use Rattle.steering.proofs.Laws.Records.{read_back}
use Rattle.steering.proofs.Laws.Tables.{begins}
use Rattle.steering.proofs.Laws.Writing.{never_too_high}

-- a record whose numbers fit, in a room that is long enough
module _ (room : List ℕ) (place : ℕ) (r : Record) (f : Fits r) (h : place + 1 + length (body_of r) ≤ length room) where
  accepts : write_refusal (length room) place r ≡ 0
  unfolding write_refusal
  accepts = rw (le-ltb (length room) (place + 1 + length (body_of r)) h, never_too_high r f)

  pub written : (write_answer (length room) place r ≡ record { refusal = 0; next = place + 1 + length (body_of r) })
      × (write_leaves room place r ≡ put_at room place (kind_of r ∷ body_of r))
  unfolding write_answer write_leaves
  written = (rw accepts, rw accepts)

pub short_write : (room : List ℕ) (place : ℕ) (r : Record) → length room < place + 1 + length (body_of r)
    → (write_answer (length room) place r ≡ record { refusal = 5; next = 0 }) × (write_leaves room place r ≡ room)
unfolding write_answer write_leaves write_refusal
short_write room place r h =
    let short = lt-ltb (length room) (place + 1 + length (body_of r)) h in (rw short, rw short)

-- nothing is refused, so that the room is long enough
short_fails : (room place : ℕ) (r : Record) → write_refusal room place r ≡ 0 → place + 1 + length (body_of r) ≤ room
unfolding write_refusal
short_fails room place r e = by (ltb room (place + 1 + length (body_of r))) refl
  where
    by : (b : Bool) → ltb room (place + 1 + length (body_of r)) ≡ b → place + 1 + length (body_of r) ≤ room
    by true p = let z : ◌≡◌ {A = ℕ} 5 0 = sym (rw p) ∙ e in absurd (omega arith)
    by false p = ltb-false room (place + 1 + length (body_of r)) p

module _ (room : List ℕ) (place : ℕ) (r : Record) (f : Fits r) (short : length room ≤ 4096) (e : write_refusal (length room) place r ≡ 0) where
  h : place + 1 + length (body_of r) ≤ length room
  h = short_fails (length room) place r e

  rest : List ℕ
  rest = drop (place + suc (length (body_of r))) room

  long : length (take place room) ≡ place
  long = length-take-le place room (omega (arith, h))

  left : write_leaves room place r ≡ t (take place room) rest r
  unfolding rest t
  left = (written room place r f h).1 ∙ append_assoc (take place room) (kind_of r ∷ body_of r) rest

  as_long : length (t (take place room) rest r) ≡ length room
  unfolding rest t
  as_long =
      omega (
        arith,
        h,
        long,
        length-append (take place room) (kind_of r ∷ body_of r ++ rest),
        length-append (body_of r) rest,
        length-drop (place + suc (length (body_of r))) room,
      )

  pub read_what_was_written : read_at (write_leaves room place r) place ≡ Found r (write_answer (length room) place r).next
  read_what_was_written =
      rw (left, (written room place r f h).0)
      (ap (read_at (t (take place room) rest r)) (sym long)
      ∙ found_there (take place room) rest r f (omega (arith, as_long))
      ∙ ap (λ (n : ℕ). Found r (n + 1 + length (body_of r))) long)

-- the bytes of a record that was read are those that stand there
module _ (u : List ℕ) (b : AreBytes u) (from next : ℕ) (r : Record) (e : Found r next ≡ read_at u from) where
  here : drop from u ≡ kind_of r ∷ body_of r ++ drop next u
  here = begins u b from next r e

  so_many : suc (length (body_of r)) ≡ next - from
  so_many =
      let H = found u from r next e in
      omega (arith, ap length here, H.next_is, H.in_table, length-drop from u, length-drop next u, length-append (body_of r) (drop next u))

  its_bytes : kind_of r ∷ body_of r ≡ take (next - from) (drop from u)
  its_bytes = sym (ap (take (next - from)) here ∙ take_at (kind_of r ∷ body_of r) (drop next u) (next - from) so_many)

  pub written_what_was_read : (room : List ℕ) (place : ℕ) → place + (next - from) ≤ length room
      → (write_answer (length room) place r ≡ record { refusal = 0; next = place + (next - from) })
      × (write_leaves room place r ≡ put_at room place (take (next - from) (drop from u)))
  written_what_was_read room place h =
      let W = written room place r (found_fits u b from next r e) (omega (arith, so_many)) in
      let to : place + 1 + length (body_of r) ≡ place + (next - from) = omega (arith, so_many) in
      (W.0 ∙ ap (λ (n : ℕ). record { refusal = 0; next = n }) to, W.1 ∙ ap (put_at room place) its_bytes)

  pub written_back : (write_answer (length u) from r ≡ record { refusal = 0; next = next }) × (write_leaves u from r ≡ u)
  written_back =
      let H = found u from r next e in
      let W = written_what_was_read u from (omega (arith, H.next_is, H.in_table)) in
      let to : from + (next - from) ≡ next = omega (arith, H.next_is) in
      let bytes = take (next - from) (drop from u) in
      let many : length bytes ≡ next - from = length-take-le (next - from) (drop from u) (omega (arith, H.next_is, H.in_table, length-drop from u)) in (
        W.0 ∙ ap (λ (n : ℕ). record { refusal = 0; next = n }) to,
        W.1
            ∙ ap (λ (n : ℕ). take from u ++ bytes ++ drop (from + n) u) many
            ∙ append_assoc (take from u) bytes (drop (from + (next - from)) u)
            ∙ ap (λ (l : List ℕ). take from u ++ (bytes ++ l)) (sym (drop-drop (next - from) from u))
            ∙ ap (λ (l : List ℕ). take from u ++ l) (take-append-drop (next - from) (drop from u))
            ∙ take-append-drop from u,
      )

-- ---- refusals, and a record by its kind byte and its body

pub refused_write : (k : ℕ) (room : List ℕ) (place : ℕ) (r : Record) → write_refusal (length room) place r ≡ suc k
    → (write_leaves room place r ≡ room) × (write_answer (length room) place r ≡ record { refusal = suc k; next = 0 })
unfolding write_leaves write_answer
refused_write k room place r e = (rw e, rw e)

pub refused_body : (k : ℕ) (room : List ℕ) (place kind : ℕ) (body : List ℕ) → write_body_refusal (length room) place kind (length body) ≡ suc k
    → (write_body_leaves room place kind body ≡ room)
    × (write_body_answer (length room) place kind (length body) ≡ record { refusal = suc k; next = 0 })
unfolding write_body_leaves write_body_answer
refused_body k room place kind body e = (rw e, rw e)

same_refusal : (room place : ℕ) (r : Record) → Fits r → write_body_refusal room place (kind_of r) (length (body_of r)) ≡ write_refusal room place r
unfolding write_body_refusal write_refusal
same_refusal room place r f = by (ltb room (place + 1 + length (body_of r))) refl
  where
    by : (b : Bool) → ltb room (place + 1 + length (body_of r)) ≡ b
        → write_body_refusal room place (kind_of r) (length (body_of r)) ≡ write_refusal room place r
    by true p = rw p
    by false p =
        rw (p, never_too_high r f, ne_eqb (body_length (kind_of r)) 0 (known r), eq-eqb (length (body_of r)) (body_length (kind_of r)) (body_length_lem r))

pub body_of_record : (room : List ℕ) (place : ℕ) (r : Record) → Fits r
    → (write_body_answer (length room) place (kind_of r) (length (body_of r)) ≡ write_answer (length room) place r)
    × (write_body_leaves room place (kind_of r) (body_of r) ≡ write_leaves room place r)
unfolding write_body_answer write_body_leaves write_answer write_leaves
body_of_record room place r f = let same = same_refusal (length room) place r f in (rw same, rw same)

-- nothing is refused, so that each test failed
passed : (room place kind bodySize : ℕ) → write_body_refusal room place kind bodySize ≡ 0 → (body_length kind ≡ 0 → ⊥) × (bodySize ≡ body_length kind)
unfolding write_body_refusal
passed room place kind bodySize e =
    by (ltb room (place + 1 + bodySize)) (eqb (body_length kind) 0) (eqb bodySize (body_length kind)) refl refl refl
  where
    by : (a b c : Bool) → ltb room (place + 1 + bodySize) ≡ a → eqb (body_length kind) 0 ≡ b → eqb bodySize (body_length kind) ≡ c
        → (body_length kind ≡ 0 → ⊥) × (bodySize ≡ body_length kind)
    by true b c p q r = let z : ◌≡◌ {A = ℕ} 5 0 = sym (rw p) ∙ e in absurd (omega arith)
    by false true c p q r = let z : ◌≡◌ {A = ℕ} 9 0 = sym (rw (p, q)) ∙ e in absurd (omega arith)
    by false false true p q r = (eqb-false (body_length kind) 0 q, eqb-true bodySize (body_length kind) r)
    by false false false p q r = let z : ◌≡◌ {A = ℕ} 10 0 = sym (rw (p, q, r)) ∙ e in absurd (omega arith)

pub read_body_that_was_written : (room : List ℕ) (place kind : ℕ) (body : List ℕ) → AreBytes body → length room ≤ 4096
    → write_body_refusal (length room) place kind (length body) ≡ 0
    → (read_at (write_body_leaves room place kind body) place
    ≡ Found (record_of kind body) (write_body_answer (length room) place kind (length body)).next)
    × (kind_of (record_of kind body) ≡ kind)
    × (body_of (record_of kind body) ≡ body)
read_body_that_was_written room place kind body b short e =
    let P = passed (length room) place kind (length body) e in
    let H = read_back kind body P.1 b (omega (arith, P.0)) in
    let r = record_of kind body in
    let f = record_fits kind body b in
    let same = body_of_record room place r f in
    let accepted : write_refusal (length room) place r ≡ 0 =
    sym (same_refusal (length room) place r f)
    ∙ ap₂ (λ (k : ℕ) (l : List ℕ). write_body_refusal (length room) place k (length l)) H.kind_is H.body_is
    ∙ e in
    let left : write_body_leaves room place kind body ≡ write_leaves room place r =
    ap₂ (write_body_leaves room place) (sym H.kind_is) (sym H.body_is) ∙ same.1 in
    let next : write_body_answer (length room) place kind (length body) ≡ write_answer (length room) place r =
    ap₂ (λ (k : ℕ) (l : List ℕ). write_body_answer (length room) place k (length l)) (sym H.kind_is) (sym H.body_is) ∙ same.0 in
    (rw (left, next) (read_what_was_written room place r f short accepted), H.kind_is, H.body_is)
