-- The theorems of this crate that the pages quote, each closed: what it assumes stands in its statement. Assumes nothing.
use mathlib.Core.Path.{◌≡◌, refl, sym, ap, ◌∙◌}
use mathlib.Core.Bool.{false, not, true, ◌||◌}
use mathlib.Core.Logic.{◌⊎◌, ◌↔◌}
use mathlib.Core.List.{List, [], ◌∷◌}
use Prim.Native.Nat.{ℕ, suc, ◌+◌, ◌*◌, ◌-◌, ◌/◌, ◌≤◌}
use borrow.Author.Tests.{ne_eqb}
use lib.Dec.{ltb}
use lib.ListN.{drop, length, take}
use Rattle.echo.specs.declared.mode.Mode.{Mode}
use Rattle.echo.specs.Families.{mode_number, sizes_fit}
use Rattle.echo.specs.Refusals.{Lowest, ◌when◌, counter_too_high, no_salt}
use Rattle.echo.specs.Routines.{compress_leaves, compress_refusal, compress_wide_leaves, compress_wide_refusal}
use Rattle.echo.specs.Session.{admitted, bit_limit, digest_bits_leaves, digest_bits_refusal, digest_leaves, digest_refusal, limit, other_size, set_below}
use Rattle.echo.proofs.Theorems as echo
use Rattle.steering.specs.Answers.{Found}
use Rattle.steering.specs.Numbers.{AreBytes}
use Rattle.steering.specs.Reading.{number_of, read_at}
use Rattle.steering.specs.Writing.{write_body_answer, write_body_leaves, write_body_refusal}
use Rattle.steering.specs.declared.records.Record.{Record}
use Rattle.steering.proofs.Theorems.{a_body_is_written_as_its_record, a_record_is_what_stands_there, a_record_written_back_changes_nothing}
use Rattle.steering.proofs.Theorems.{reading_a_body_that_was_written}
use Rattle.bahmorist.specs.Modes.{compress_in_leaves, compress_in_refusal, compress_wide_in_leaves, compress_wide_in_refusal}
use Rattle.bahmorist.specs.Modes.{digest_bits_in_leaves, digest_bits_in_refusal, digest_in_leaves, digest_in_refusal, mode_of, no_mode}
use Rattle.bahmorist.specs.Tables.{kind_read, next_read}
use Rattle.bahmorist.proofs.Laws.Exactly as exactly
use Rattle.bahmorist.proofs.Laws.Lowest as lowest
use Rattle.bahmorist.proofs.Laws.Modes as modes
use Rattle.bahmorist.proofs.Laws.WholeBytes as whole_bytes

-- ---- a refusal, whose number is k + 1, changes nothing

pub a_refused_digest_in_a_mode_leaves_the_room : (k number h : ℕ) (salt message room : List ℕ)
    → digest_in_refusal number h (length salt) (length message) (length room) ≡ suc k
    → digest_in_leaves number h salt message room ≡ room
unfolding digest_in_leaves
a_refused_digest_in_a_mode_leaves_the_room k number h salt message room e = rw e refl

pub a_refused_digest_of_bits_in_a_mode_leaves_the_room : (k number h : ℕ) (salt message : List ℕ) (count : ℕ) (room : List ℕ)
    → digest_bits_in_refusal number h (length salt) message count (length room) ≡ suc k
    → digest_bits_in_leaves number h salt message count room ≡ room
unfolding digest_bits_in_leaves
a_refused_digest_of_bits_in_a_mode_leaves_the_room k number h salt message count room e = rw e refl

pub a_refused_compression_in_a_mode_leaves_the_chaining_value : (k number : ℕ) (chaining block : List ℕ) (counter : ℕ) (salt : List ℕ)
    → compress_in_refusal number (length chaining) (length block) counter (length salt) ≡ suc k
    → compress_in_leaves number chaining block counter salt ≡ chaining
unfolding compress_in_leaves
a_refused_compression_in_a_mode_leaves_the_chaining_value k number chaining block counter salt e = rw e refl

pub a_refused_wide_compression_in_a_mode_leaves_the_chaining_value : (k number : ℕ) (chaining block : List ℕ) (counter : ℕ) (salt : List ℕ)
    → compress_wide_in_refusal number (length chaining) (length block) (length salt) ≡ suc k
    → compress_wide_in_leaves number chaining block counter salt ≡ chaining
unfolding compress_wide_in_leaves
a_refused_wide_compression_in_a_mode_leaves_the_chaining_value k number chaining block counter salt e = rw e refl

-- ---- of the refusals that apply the lowest is given

pub a_digest_in_a_mode_is_refused_by_the_lowest : (number h saltLength messageLength room : ℕ)
    → Lowest (digest_in_refusal number h saltLength messageLength room)
    ((1 when not (admitted h))
    ∷ (2 when no_salt saltLength)
    ∷ (4 when ltb limit messageLength)
    ∷ (5 when ltb room (h / 8))
    ∷ (6 when no_mode number)
    ∷ [])
a_digest_in_a_mode_is_refused_by_the_lowest number h saltLength messageLength room = lowest.digest_in_lowest h saltLength messageLength room number

pub a_digest_of_bits_in_a_mode_is_refused_by_the_lowest : (number h saltLength : ℕ) (message : List ℕ) (count room : ℕ)
    → Lowest (digest_bits_in_refusal number h saltLength message count room)
    ((1 when not (admitted h))
    ∷ (2 when no_salt saltLength)
    ∷ (4 when ltb bit_limit count)
    ∷ (5 when ltb room (h / 8))
    ∷ (6 when no_mode number || other_size (length message) count)
    ∷ (17 when set_below message count)
    ∷ [])
unfolding digest_bits_in_refusal
a_digest_of_bits_in_a_mode_is_refused_by_the_lowest number h saltLength message count room = echo.the_first_of_a_list_that_ascends_is_the_lowest _ refl

pub a_compression_in_a_mode_is_refused_by_the_lowest : (number chainingLength blockLength counter saltLength : ℕ)
    → Lowest (compress_in_refusal number chainingLength blockLength counter saltLength)
    ((2 when no_salt saltLength)
    ∷ (6 when no_mode number || not (sizes_fit (mode_of number) chainingLength blockLength))
    ∷ (7 when counter_too_high counter)
    ∷ [])
unfolding compress_in_refusal
a_compression_in_a_mode_is_refused_by_the_lowest number chainingLength blockLength counter saltLength =
    echo.the_first_of_a_list_that_ascends_is_the_lowest _ refl

pub a_wide_compression_in_a_mode_is_refused_by_the_lowest : (number chainingLength blockLength saltLength : ℕ)
    → Lowest (compress_wide_in_refusal number chainingLength blockLength saltLength)
    ((2 when no_salt saltLength) ∷ (6 when no_mode number || not (sizes_fit (mode_of number) chainingLength blockLength)) ∷ [])
unfolding compress_wide_in_refusal
a_wide_compression_in_a_mode_is_refused_by_the_lowest number chainingLength blockLength saltLength = echo.the_first_of_a_list_that_ascends_is_the_lowest _ refl

-- ---- a mode's number names it, and no other number is taken

pub a_digest_in_a_mode_is_that_modes : (mode : Mode) (h : ℕ) (salt message room : List ℕ)
    → (digest_in_refusal (mode_number mode) h (length salt) (length message) (length room)
    ≡ digest_refusal h (length salt) (length message) (length room))
    × (digest_in_leaves (mode_number mode) h salt message room ≡ digest_leaves mode h salt message room)
a_digest_in_a_mode_is_that_modes mode h salt message room =
    let N = modes.is_number mode in (
      sym (modes.digest_passed_on (mode_number mode) h salt message room mode N _ refl),
      sym (modes.digest_left_on (mode_number mode) h salt message room mode N _ refl),
    )

pub a_digest_of_bits_in_a_mode_is_that_modes : (mode : Mode) (h : ℕ) (salt message : List ℕ) (count : ℕ) (room : List ℕ)
    → (digest_bits_in_refusal (mode_number mode) h (length salt) message count (length room)
    ≡ digest_bits_refusal h (length salt) message count (length room))
    × (digest_bits_in_leaves (mode_number mode) h salt message count room ≡ digest_bits_leaves mode h salt message count room)
a_digest_of_bits_in_a_mode_is_that_modes mode h salt message count room =
    let N = modes.is_number mode in (
      sym (modes.bits_passed_on (mode_number mode) h salt message count room mode N _ refl),
      sym (modes.bits_left_on (mode_number mode) h salt message count room mode N _ refl),
    )

pub a_compression_in_a_mode_is_that_modes : (mode : Mode) (chaining block : List ℕ) (counter : ℕ) (salt : List ℕ)
    → (compress_in_refusal (mode_number mode) (length chaining) (length block) counter (length salt)
    ≡ compress_refusal mode (length chaining) (length block) counter (length salt))
    × (compress_in_leaves (mode_number mode) chaining block counter salt ≡ compress_leaves mode chaining block counter salt)
a_compression_in_a_mode_is_that_modes mode chaining block counter salt =
    let N = modes.is_number mode in (
      sym (modes.compress_passed_on (mode_number mode) chaining block counter salt mode N _ refl),
      sym (modes.compress_left_on (mode_number mode) chaining block counter salt mode N _ refl),
    )

pub a_wide_compression_in_a_mode_is_that_modes : (mode : Mode) (chaining block : List ℕ) (counter : ℕ) (salt : List ℕ)
    → (compress_wide_in_refusal (mode_number mode) (length chaining) (length block) (length salt)
    ≡ compress_wide_refusal mode (length chaining) (length block) (length salt))
    × (compress_wide_in_leaves (mode_number mode) chaining block counter salt ≡ compress_wide_leaves mode chaining block counter salt)
a_wide_compression_in_a_mode_is_that_modes mode chaining block counter salt =
    let N = modes.is_number mode in (
      sym (modes.wide_passed_on (mode_number mode) chaining block counter salt mode N _ refl),
      sym (modes.wide_left_on (mode_number mode) chaining block counter salt mode N _ refl),
    )

pub no_other_number_is_taken : (number h : ℕ) (salt message room chaining block : List ℕ) (counter count : ℕ)
    → (number ≡ 0 → ⊥)
    → (number ≡ 1 → ⊥)
    → (digest_in_refusal number h (length salt) (length message) (length room) ≡ 0 → ⊥)
    × (digest_bits_in_refusal number h (length salt) message count (length room) ≡ 0 → ⊥)
    × (compress_in_refusal number (length chaining) (length block) counter (length salt) ≡ 0 → ⊥)
    × (compress_wide_in_refusal number (length chaining) (length block) (length salt) ≡ 0 → ⊥)
no_other_number_is_taken number h salt message room chaining block counter count z o =
    let none : true ≡ no_mode number = rw (ne_eqb number 0 z, ne_eqb number 1 o) in (
      modes.digest_refuses number h salt message room true none refl,
      modes.bits_refuses number h salt message count room true none refl,
      modes.compress_refuses number chaining block counter salt none,
      modes.wide_refuses number chaining block counter salt none,
    )

-- ---- where 6 is given: the number is no mode's, or a size is another, and nothing lower applies

pub a_digest_in_a_mode_is_refused_by_6_exactly : (number h saltLength messageLength room : ℕ)
    → (digest_in_refusal number h saltLength messageLength room ≡ 6)
    ↔ ((number ≡ 0 → ⊥) × (number ≡ 1 → ⊥) × (digest_refusal h saltLength messageLength room ≡ 0))
a_digest_in_a_mode_is_refused_by_6_exactly = exactly.digest_6_exactly

pub a_digest_of_bits_in_a_mode_is_refused_by_6_exactly : (number h saltLength : ℕ) (message : List ℕ) (count room : ℕ)
    → (digest_bits_in_refusal number h saltLength message count room ≡ 6)
    ↔ ((admitted h ≡ true)
    × (saltLength ≡ 16)
    × (count ≤ bit_limit)
    × (h / 8 ≤ room)
    × (((number ≡ 0 → ⊥) × (number ≡ 1 → ⊥)) ⊎ (length message ≡ (count + 7) / 8 → ⊥)))
a_digest_of_bits_in_a_mode_is_refused_by_6_exactly = exactly.bits_6_exactly

pub a_compression_in_a_mode_is_refused_by_6_exactly : (number chainingLength blockLength counter saltLength : ℕ)
    → (compress_in_refusal number chainingLength blockLength counter saltLength ≡ 6)
    ↔ ((saltLength ≡ 16) × (((number ≡ 0 → ⊥) × (number ≡ 1 → ⊥)) ⊎ (sizes_fit (mode_of number) chainingLength blockLength ≡ false)))
a_compression_in_a_mode_is_refused_by_6_exactly number chainingLength blockLength counter saltLength =
    exactly.compress_6_exactly number chainingLength blockLength saltLength counter

pub a_wide_compression_in_a_mode_is_refused_by_6_exactly : (number chainingLength blockLength saltLength : ℕ)
    → (compress_wide_in_refusal number chainingLength blockLength saltLength ≡ 6)
    ↔ ((saltLength ≡ 16) × (((number ≡ 0 → ⊥) × (number ≡ 1 → ⊥)) ⊎ (sizes_fit (mode_of number) chainingLength blockLength ≡ false)))
a_wide_compression_in_a_mode_is_refused_by_6_exactly = exactly.wide_6_exactly

-- ---- whole bytes are eight bits each, whatever the number

pub a_digest_of_whole_bytes_in_a_mode_is_that_of_their_bits : (number h : ℕ) (salt message room : List ℕ)
    → (digest_bits_in_refusal number h (length salt) message (8 * length message) (length room)
    ≡ digest_in_refusal number h (length salt) (length message) (length room))
    × (digest_bits_in_leaves number h salt message (8 * length message) room ≡ digest_in_leaves number h salt message room)
a_digest_of_whole_bytes_in_a_mode_is_that_of_their_bits = whole_bytes.agrees

-- ---- tables

-- what is written is read: the kind byte, and the same place behind it
pub what_is_written_is_read : (room : List ℕ) (place kind : ℕ) (body : List ℕ)
    → AreBytes body
    → length room ≤ 4096
    → write_body_refusal (length room) place kind (length body) ≡ 0
    → let x = read_at (write_body_leaves room place kind body) place in
    (number_of x ≡ 0) × (kind_read x ≡ kind) × (next_read place x ≡ (write_body_answer (length room) place kind (length body)).next)
what_is_written_is_read room place kind body b short e =
    let R = reading_a_body_that_was_written room place kind body b short e in
    (ap number_of R.0, ap kind_read R.0 ∙ R.1, ap (next_read place) R.0)

-- what is read is written: the kind byte and the bytes between it and the next place, put where they stood, leave the table as it was
pub what_is_read_is_written : (t : List ℕ) (place : ℕ) (r : Record) (next : ℕ)
    → AreBytes t
    → Found r next ≡ read_at t place
    → let kind = kind_read (read_at t place) in
    let body = take (next_read place (read_at t place) - (place + 1)) (drop (place + 1) t) in
    (write_body_answer (length t) place kind (length body) ≡ record { refusal = 0; next = next_read place (read_at t place) })
    × (write_body_leaves t place kind body ≡ t)
what_is_read_is_written t place r next b e =
    let R = a_record_is_what_stands_there t place next r b e in
    let W = a_body_is_written_as_its_record t place r R.2 in
    let B = a_record_written_back_changes_nothing t place next r b e in
    rw (← e, ← R.1) (W.0 ∙ B.0, W.1 ∙ B.1)
