-- One line of a text: a step of the code, which only contracts of private functions cite. Assumes nothing.
use Rattle.std.specs.Prelude.{ℕ, suc, ◌+◌, Bool, cond, List, ◌∷◌, Err, Ok, leb, length, Result}
use Rattle.steering.specs.Records.{body_of, kind_of}
use Rattle.steering.specs.Writing.{put_at}
use Rattle.write_table.specs.declared.line.Line.{Line}
use Rattle.write_table.specs.declared.line.Line.TheVariants.{Count, Record, Unreadable}
use Rattle.write_table.specs.declared.text.BadLine.{BadLine}
use Rattle.write_table.specs.declared.text.Step.{Step}
use Rattle.write_table.specs.declared.text.Step.TheVariants.{More, Over}

abbrev pub bad_at : ℕ → Result Step BadLine
bad_at line = Err (record { number = line })

-- what a line comes to behind so many records in so many bytes
abbrev pub step_of : Line → ℕ → ℕ → Bool → Result Step BadLine
step_of (Record r) count size is_last =
    cond (leb (size + suc (length (body_of r))) 4096) (Ok (More (size + suc (length (body_of r))))) (bad_at (count + 1))
step_of Count count size is_last = cond is_last (Ok (Over size)) (bad_at (count + 2))
step_of Unreadable count size is_last = bad_at (count + 1)

-- what it leaves in the room
abbrev pub step_leaves : Line → ℕ → List ℕ → List ℕ
step_leaves (Record r) size room = cond (leb (size + suc (length (body_of r))) 4096) (put_at room size (kind_of r ∷ body_of r)) room
step_leaves Count size room = room
step_leaves Unreadable size room = room
