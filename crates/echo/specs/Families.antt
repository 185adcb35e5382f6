-- Sections 2 and 5: the sizes, by the mode and the digest length h in bits. Assumes nothing.
use Rattle.std.specs.Prelude.{ℕ, ◌-◌, Bool, true, false, ◌&&◌, ◌||◌, ◌==◌, nat_le}
use Rattle.echo.specs.declared.mode.Mode.{Mode}
use Rattle.echo.specs.declared.mode.Mode.TheVariants.{DoublePipe, SinglePipe}

abbrev pub either : {A : Type 0} → Bool → A → A → A
either true a b = a
either false a b = b

-- the number of a mode, where it is given as one
abbrev pub mode_number : Mode → ℕ
mode_number DoublePipe = 0
mode_number SinglePipe = 1

-- CSIZE: up to a digest of 256 bits 512 bits, or with single-pipe (5.1) 256; above 1024, or with single-pipe (5.2) 512
unfoldable pub chaining_size : Mode → ℕ → ℕ
chaining_size DoublePipe h = either (nat_le h 256) 64 128
chaining_size SinglePipe h = either (nat_le h 256) 32 64

-- MSIZE = 2048 - CSIZE
unfoldable pub block_size : Mode → ℕ → ℕ
block_size mode h = 256 - chaining_size mode h

-- 3.4, 4, 5: eight rounds with the chaining variable of a digest up to 256 bits, ten with that of a longer one
abbrev pub round_count : Mode → ℕ → ℕ
round_count mode chaining = either (chaining == chaining_size mode 256) 8 10

-- sizes of a chaining variable and a block that belong together: those of a digest up to 256 bits, or of a longer one
abbrev pub sizes_fit : Mode → ℕ → ℕ → Bool
sizes_fit mode chaining block =
    (chaining == chaining_size mode 256) && block == block_size mode 256 || chaining == chaining_size mode 512 && block == block_size mode 512
