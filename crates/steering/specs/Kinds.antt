-- The kinds of the records by name. Assumes nothing.
use Rattle.std.specs.Prelude.{◌≡◌, ℕ, MatchResult, Result}
use Rattle.steering.specs.Records.{body_length}
use Rattle.steering.specs.declared.kinds.Kind.{Kind}
use Rattle.steering.specs.declared.kinds.Kind.TheVariants.{HighFloor, Hold, LowFloor, Node, Note}

abbrev pub kind_byte : Kind → ℕ
kind_byte Node = 1
kind_byte LowFloor = 2
kind_byte HighFloor = 3
kind_byte Hold = 4
kind_byte Note = 5

-- the kind of a byte, or the byte itself where no record has it
abbrev pub NamesKind : ℕ → Result Kind ℕ → Type 0
NamesKind byte answer = MatchResult answer (λ kind. kind_byte kind ≡ byte) (λ other. (other ≡ byte) × (body_length byte ≡ 0))
