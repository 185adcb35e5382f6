-- A table of three records, parsed. Assumes nothing.
use mathlib.Core.Path.{◌≡◌, refl}
use mathlib.Core.List.{[], ◌∷◌}
use Rattle.steering.specs.Numbers.{big_endian}
use Rattle.steering.specs.Parsing.{accepted, parse, parse_from}
use Rattle.steering.specs.Reading.{read_at, record_at}
use Rattle.steering.specs.Records.{body_length, record_of}
use Rattle.steering.specs.declared.records.Radio.TheVariants.{High, Low}
use Rattle.steering.specs.declared.records.Record.TheVariants.{Floor, Node}

-- 01 a2 00 00 00 00 07, 02 00 3c, 03 00 41: the node address a20000000007 and the join floors 3c at 2.4 GHz and 41 at 5 GHz
pub three_records : parse (1 ∷ 162 ∷ 0 ∷ 0 ∷ 0 ∷ 0 ∷ 7 ∷ 2 ∷ 0 ∷ 60 ∷ 3 ∷ 0 ∷ 65 ∷ [])
    ≡ accepted (Node (record { address = 178120883699719 }) ∷ Floor (record { radio = Low; level = 60 }) ∷ Floor (record { radio = High; level = 65 }) ∷ [])
unfolding big_endian parse_from read_at record_at body_length record_of
three_records = refl
