-- Modes as numbers, for C, and what the routines that take such a number answer and leave behind, on every input. Assumes nothing.
use Rattle.std.specs.Prelude.{Bool, not, ◌||◌, List, [], ◌∷◌, ℕ, ◌/◌, eqb, ltb, length}
use Rattle.echo.specs.declared.mode.Mode.{Mode}
use Rattle.echo.specs.declared.mode.Mode.TheVariants.{DoublePipe, SinglePipe}
use Rattle.echo.specs.Families.{either, mode_number, sizes_fit}
use Rattle.echo.specs.Refusals.{◌when◌, counter_too_high, first_of, no_salt, unless}
use Rattle.echo.specs.Routines.{compress_leaves, compress_wide_leaves}
use Rattle.echo.specs.Session.{admitted, bit_limit, digest_bits_leaves, digest_leaves, digest_refusal, other_size, set_below}

-- 6: the number is no mode's
abbrev pub no_mode : ℕ → Bool
no_mode number = not (eqb number (mode_number DoublePipe) || eqb number (mode_number SinglePipe))

-- the mode of a number that is one's
abbrev pub mode_of : ℕ → Mode
mode_of number = either (eqb number (mode_number SinglePipe)) SinglePipe DoublePipe

-- ---- the digest at once

-- the digest's own refusals, by 1, 2, 4 or 5, and then 6
unfoldable pub digest_in_refusal : ℕ → ℕ → ℕ → ℕ → ℕ → ℕ
digest_in_refusal number h saltLength messageLength room =
    let refusal = digest_refusal h saltLength messageLength room in
    unless refusal (first_of ((6 when no_mode number) ∷ [])) refusal

unfoldable pub digest_in_leaves : ℕ → ℕ → List ℕ → List ℕ → List ℕ → List ℕ
digest_in_leaves number h salt message room =
    unless (digest_in_refusal number h (length salt) (length message) (length room)) (digest_leaves (mode_of number) h salt message room) room

-- of so many bits of a message
unfoldable pub digest_bits_in_refusal : ℕ → ℕ → ℕ → List ℕ → ℕ → ℕ → ℕ
digest_bits_in_refusal number h saltLength message count room =
    first_of
    ((1 when not (admitted h))
    ∷ (2 when no_salt saltLength)
    ∷ (4 when ltb bit_limit count)
    ∷ (5 when ltb room (h / 8))
    ∷ (6 when no_mode number || other_size (length message) count)
    ∷ (17 when set_below message count)
    ∷ [])

unfoldable pub digest_bits_in_leaves : ℕ → ℕ → List ℕ → List ℕ → ℕ → List ℕ → List ℕ
digest_bits_in_leaves number h salt message count room =
    unless (digest_bits_in_refusal number h (length salt) message count (length room)) (digest_bits_leaves (mode_of number) h salt message count room) room

-- ---- compression

unfoldable pub compress_in_refusal : ℕ → ℕ → ℕ → ℕ → ℕ → ℕ
compress_in_refusal number chainingLength blockLength counter saltLength =
    first_of
    ((2 when no_salt saltLength)
    ∷ (6 when no_mode number || not (sizes_fit (mode_of number) chainingLength blockLength))
    ∷ (7 when counter_too_high counter)
    ∷ [])

unfoldable pub compress_in_leaves : ℕ → List ℕ → List ℕ → ℕ → List ℕ → List ℕ
compress_in_leaves number chaining block counter salt =
    unless (compress_in_refusal number (length chaining) (length block) counter (length salt))
    (compress_leaves (mode_of number) chaining block counter salt) chaining

-- with a counter of 128 bits
unfoldable pub compress_wide_in_refusal : ℕ → ℕ → ℕ → ℕ → ℕ
compress_wide_in_refusal number chainingLength blockLength saltLength =
    first_of
    ((2 when no_salt saltLength) ∷ (6 when no_mode number || not (sizes_fit (mode_of number) chainingLength blockLength)) ∷ [])

unfoldable pub compress_wide_in_leaves : ℕ → List ℕ → List ℕ → ℕ → List ℕ → List ℕ
compress_wide_in_leaves number chaining block counter salt =
    unless (compress_wide_in_refusal number (length chaining) (length block) (length salt))
    (compress_wide_leaves (mode_of number) chaining block counter salt) chaining
