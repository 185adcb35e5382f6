-- The fingerprint of a table: the 256-bit digest, in double-pipe, of the whole table. Assumes nothing.
use Rattle.std.specs.Prelude.{List, ◌++◌, ℕ, eqb, ltb, drop, length}
use Rattle.echo.specs.declared.mode.Mode.TheVariants.{DoublePipe}
use Rattle.echo.specs.Digest.{digest_of}
use Rattle.steering.specs.Answers.{Fingerprinted}
use Rattle.steering.specs.Numbers.{either}
use Rattle.steering.specs.Parsing.{Parsed, accepted, parse, refused}

abbrev pub refusal_of : Parsed → ℕ
refusal_of (accepted rs) = 0
refusal_of (refused number place) = number

abbrev pub place_of : Parsed → ℕ
place_of (accepted rs) = 0
place_of (refused number place) = place

-- what is digested: the whole table, kind bytes included
abbrev pub message : List ℕ → List ℕ
message table = table

-- 2 where the salt isn't 16 bytes, 5 where the room is under 32, and then the table's own refusal
unfoldable pub fingerprint_answer : ℕ → ℕ → Parsed → Fingerprinted
fingerprint_answer saltLength room parsed =
    either (eqb saltLength 16)
    (either (ltb room 32) (record { refusal = 5; place = 0 }) (record { refusal = refusal_of parsed; place = place_of parsed }))
    (record { refusal = 2; place = 0 })

-- the digest and the bytes behind it, or the room as it was
unfoldable pub fingerprint_leaves : List ℕ → List ℕ → List ℕ → List ℕ
fingerprint_leaves salt table room =
    either (eqb (fingerprint_answer (length salt) (length room) (parse table)).refusal 0) (digest_of DoublePipe 256 salt (message table) ++ drop 32 room) room
