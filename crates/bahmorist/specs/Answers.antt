-- Yes and no as numbers, for C, and the library's version. Assumes nothing.
use Rattle.std.specs.Prelude.{Bool, true, false, ℕ, ◌+◌, ◌*◌}

abbrev pub number_of : Bool → ℕ
number_of true = 1
number_of false = 0

-- of its three parts, 0.8.0
abbrev pub version_number : ℕ
version_number = 10000 * 0 + 100 * 8 + 0
