-- Two wrong programs of must-fail/ change a definition: one since the code could be made so only by a change of its shape, one together with the code,
-- to show what a theorem stands on. For each a point at which the definition and the changed one, which is written out, differ. Assumes nothing.
use mathlib.Core.Path.{◌≡◌, ap}
use mathlib.Core.List.{List, [], ◌∷◌, ◌++◌}
use Prim.Native.Nat.{ℕ}
use native.Mathlib.Omega.{arith}
use lib.Dec.{eqb, ltb}
use lib.ListN.{get_or}
use Rattle.steering.specs.Answers.{Fingerprinted}
use Rattle.steering.specs.Fingerprint.{fingerprint_answer, message, place_of, refusal_of}
use Rattle.steering.specs.Numbers.{big_endian, bytes_of, either}
use Rattle.steering.specs.Parsing.{Parsed, accepted, parse, parse_from, refused}
use Rattle.steering.specs.Reading.{read_at, record_at}
use Rattle.steering.specs.Records.{body_length, body_of, record_of}
use Rattle.steering.specs.declared.records.Record.{Record}

abbrev bodies : List Record → List ℕ
bodies [] = []
bodies (r ∷ rs) = body_of r ++ bodies rs

abbrev bodies_of : Parsed → List ℕ
bodies_of (accepted rs) = bodies rs
bodies_of (refused number place) = []

-- a join floor of 3c at 2.4 GHz
pub bodies_only_differs : message (2 ∷ 0 ∷ 60 ∷ []) ≡ bodies_of (parse (2 ∷ 0 ∷ 60 ∷ [])) → ⊥
unfolding bytes_of big_endian parse_from read_at record_at body_length record_of
bodies_only_differs e = let z : ◌≡◌ {A = ℕ} 2 0 = ap (λ (l : List ℕ). get_or l 0 0) e in omega arith

abbrev unchecked : ℕ → ℕ → Parsed → Fingerprinted
unchecked saltLength room parsed =
    either (eqb saltLength 16)
    (either (ltb room 31) (record { refusal = 5; place = 0 }) (record { refusal = refusal_of parsed; place = place_of parsed }))
    (record { refusal = 2; place = 0 })

-- the empty table and a room of 31 bytes
pub room_unchecked_differs : fingerprint_answer 16 31 (accepted []) ≡ unchecked 16 31 (accepted []) → ⊥
unfolding fingerprint_answer
room_unchecked_differs e = let z : ◌≡◌ {A = ℕ} 5 0 = ap (λ (f : Fingerprinted). f.refusal) e in omega arith
