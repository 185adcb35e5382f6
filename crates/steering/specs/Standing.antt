-- What the code says of a place before it makes the record there: the kind and the place behind, as a reading. Assumes nothing.
use Rattle.std.specs.Prelude.{Err, List, None, Ok, Option, Result, Some, ℕ, ◌+◌, drop, take}
use Rattle.steering.specs.Answers.{End, Found, Reading, Refused, refusal_number, refusal_place}
use Rattle.steering.specs.Kinds.{kind_byte}
use Rattle.steering.specs.Records.{body_length, record_of}
use Rattle.steering.specs.declared.kinds.Kind.{Kind}
use Rattle.steering.specs.declared.refusals.Refusal.{Refusal}

-- a record is that of the kind and of the bytes behind the kind byte
abbrev pub standing_of : List ℕ → ℕ → Result (Option (Kind × ℕ)) Refusal → Reading
standing_of table place (Ok (Some found)) =
    Found (record_of (kind_byte found.0) (take (body_length (kind_byte found.0)) (drop (place + 1) table))) found.1
standing_of table place (Ok None) = End
standing_of table place (Err refusal) = Refused (refusal_number refusal) (refusal_place refusal)
