-- Bytes of a case. Assumes nothing.
use Rattle.std.specs.Prelude.{ℕ, ◌+◌, ◌*◌, ◌/◌, ◌%◌}

-- the byte at a place of those that a seed stands for
abbrev pub seeded : ℕ → ℕ → ℕ
seeded seed k = (seed + 29 * k + 101 * (k / 256)) % 256
