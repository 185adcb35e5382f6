-- A wrong program of must-fail/ changes a definition, since the code could be made so only by a change of its shape. A point at which the definition
-- and the changed one, which is written out, differ. Assumes nothing.
use mathlib.Core.Path.{◌≡◌}
use mathlib.Core.Bool.{cond}
use mathlib.Core.List.{List, [], ◌∷◌}
use Prim.Native.Nat.{ℕ}
use native.Mathlib.Omega.{arith}
use lib.ListN.{take}
use Rattle.lines.proofs.Promises.{three_digits}
use Rattle.write_table.specs.declared.line.Line.{Line}
use Rattle.write_table.specs.declared.line.Line.TheVariants.{Count, Unreadable}
use Rattle.write_table.specs.Line.{count_line, digits_in, is_framed, line_of, record_in, same_of}

abbrev unread : ℕ → List ℕ → Line
unread count line = cond (same_of (take 8 line) (take 8 (count_line count))) Count (record_in line)

-- `records ` without a number
abbrev line : List ℕ
line = 114 ∷ 101 ∷ 99 ∷ 111 ∷ 114 ∷ 100 ∷ 115 ∷ 32 ∷ []

-- behind a hundred records
pub count_unread_differs : line_of 100 line ≡ unread 100 line → ⊥
unfolding line_of same_of record_in digits_in is_framed
count_unread_differs e =
    let none : line_of 100 line ≡ Unreadable = rw (three_digits 100 (omega arith) (omega arith)) in
    let z : ◌≡◌ {A = ℕ} 0 1 = cc in
    omega arith
