-- What the public routines answer and leave behind, on every input. Assumes nothing.
use Rattle.std.specs.Prelude.{ℕ, not, ◌||◌, List, [], ◌∷◌, length, ◌==◌}
use Rattle.echo.specs.declared.mode.Mode.{Mode}
use Rattle.echo.specs.Families.{round_count, sizes_fit}
use Rattle.echo.specs.Refusals.{◌when◌, counter_too_high, first_of, no_salt, unless}
use Rattle.echo.specs.Square.{keys_from, rounds, rounds_back, wide_keys_from}
use Rattle.echo.specs.Compression.{compress}

-- ---- rounds, forward and backward

unfoldable pub rounds_refusal : ℕ → ℕ → ℕ → ℕ → ℕ
rounds_refusal squareLength count counter saltLength =
    first_of
    ((2 when no_salt saltLength)
    ∷ (6 when not (squareLength == 256) || not (count == 8 || count == 10))
    ∷ (7 when counter_too_high counter)
    ∷ [])

unfoldable pub rounds_leave : List ℕ → ℕ → ℕ → List ℕ → List ℕ
rounds_leave square count counter salt =
    unless (rounds_refusal (length square) count counter (length salt)) (rounds count (keys_from counter) salt square) square

unfoldable pub rounds_back_leave : List ℕ → ℕ → ℕ → List ℕ → List ℕ
rounds_back_leave square count counter salt =
    unless (rounds_refusal (length square) count counter (length salt)) (rounds_back count (keys_from counter) salt square) square

-- ---- compression

unfoldable pub compress_refusal : Mode → ℕ → ℕ → ℕ → ℕ → ℕ
compress_refusal mode chainingLength blockLength counter saltLength =
    first_of
    ((2 when no_salt saltLength)
    ∷ (6 when not (sizes_fit mode chainingLength blockLength))
    ∷ (7 when counter_too_high counter)
    ∷ [])

unfoldable pub compress_leaves : Mode → List ℕ → List ℕ → ℕ → List ℕ → List ℕ
compress_leaves mode chaining block counter salt =
    unless (compress_refusal mode (length chaining) (length block) counter (length salt))
    (compress (length chaining) (round_count mode (length chaining)) (keys_from counter) salt chaining block) chaining

-- ---- the same with a counter of 128 bits, of which none is too high

unfoldable pub rounds_wide_refusal : ℕ → ℕ → ℕ → ℕ
rounds_wide_refusal squareLength count saltLength =
    first_of ((2 when no_salt saltLength) ∷ (6 when not (squareLength == 256) || not (count == 8 || count == 10)) ∷ [])

unfoldable pub rounds_wide_leave : List ℕ → ℕ → ℕ → List ℕ → List ℕ
rounds_wide_leave square count counter salt =
    unless (rounds_wide_refusal (length square) count (length salt)) (rounds count (wide_keys_from counter) salt square) square

unfoldable pub rounds_back_wide_leave : List ℕ → ℕ → ℕ → List ℕ → List ℕ
rounds_back_wide_leave square count counter salt =
    unless (rounds_wide_refusal (length square) count (length salt)) (rounds_back count (wide_keys_from counter) salt square) square

unfoldable pub compress_wide_refusal : Mode → ℕ → ℕ → ℕ → ℕ
compress_wide_refusal mode chainingLength blockLength saltLength =
    first_of ((2 when no_salt saltLength) ∷ (6 when not (sizes_fit mode chainingLength blockLength)) ∷ [])

unfoldable pub compress_wide_leaves : Mode → List ℕ → List ℕ → ℕ → List ℕ → List ℕ
compress_wide_leaves mode chaining block counter salt =
    unless (compress_wide_refusal mode (length chaining) (length block) (length salt))
    (compress (length chaining) (round_count mode (length chaining)) (wide_keys_from counter) salt chaining block) chaining
