-- A record put at a place of a lent room. Assumes nothing.
use Rattle.std.specs.Prelude.{Bool, not, false, List, [], ◌∷◌, ◌++◌, ℕ, ◌+◌, ◌^◌, eqb, leb, ltb, drop, length, take}
use Rattle.echo.specs.Refusals.{◌when◌, first_of, unless}
use Rattle.steering.specs.Answers.{Written}
use Rattle.steering.specs.Records.{body_length, body_of, kind_of}
use Rattle.steering.specs.declared.records.Record.{Record}
use Rattle.steering.specs.declared.records.Record.TheVariants.{Floor, Hold, Node, Note}

-- the room with these bytes from a place on; what stands before and behind them stays
abbrev pub put_at : List ℕ → ℕ → List ℕ → List ℕ
put_at room place bytes = take place room ++ bytes ++ drop (place + length bytes) room

-- the place behind the record; 0 with a refusal
abbrev pub written_to : ℕ → ℕ → Written
written_to refusal next = unless refusal (record { refusal = 0; next = next }) (record { refusal = refusal; next = 0 })

-- ---- a record by its values

-- 12: an address of 2^48 or more
abbrev pub address_too_high : Record → Bool
address_too_high (Node a) = leb (2 ^ 48) a.address
address_too_high (Floor f) = false
address_too_high (Hold h) = false
address_too_high (Note n) = false

-- 5 where the room from the place on is too short, a place past the end included
unfoldable pub write_refusal : ℕ → ℕ → Record → ℕ
write_refusal room place r = first_of ((5 when ltb room (place + 1 + length (body_of r))) ∷ (12 when address_too_high r) ∷ [])

unfoldable pub write_answer : ℕ → ℕ → Record → Written
write_answer room place r = written_to (write_refusal room place r) (place + 1 + length (body_of r))

-- the kind byte and the body at the place, or the room as it was
unfoldable pub write_leaves : List ℕ → ℕ → Record → List ℕ
write_leaves room place r = unless (write_refusal (length room) place r) (put_at room place (kind_of r ∷ body_of r)) room

-- ---- a record by its kind byte and its body

-- 5 as above, 9 for a kind that no record has, 10 for a body that is not as long as its kind's
unfoldable pub write_body_refusal : ℕ → ℕ → ℕ → ℕ → ℕ
write_body_refusal room place kind bodySize =
    first_of
    ((5 when ltb room (place + 1 + bodySize)) ∷ (9 when eqb (body_length kind) 0) ∷ (10 when not (eqb bodySize (body_length kind))) ∷ [])

unfoldable pub write_body_answer : ℕ → ℕ → ℕ → ℕ → Written
write_body_answer room place kind bodySize = written_to (write_body_refusal room place kind bodySize) (place + 1 + bodySize)

unfoldable pub write_body_leaves : List ℕ → ℕ → ℕ → List ℕ → List ℕ
write_body_leaves room place kind body = unless (write_body_refusal (length room) place kind (length body)) (put_at room place (kind ∷ body)) room
