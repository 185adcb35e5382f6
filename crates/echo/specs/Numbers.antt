-- Section 1: an integer as bytes, and by its halves. Assumes nothing.
use Rattle.std.specs.Prelude.{ℕ, ◌+◌, ◌*◌, ◌/◌, ◌%◌, ◌^◌, List}
use Rattle.aes_round.specs.Bytes.{tab}

-- the n bytes of x, the least significant first
unfoldable pub little_endian : ℕ → ℕ → List ℕ
little_endian n x = tab n (λ i. x / 256 ^ i % 256)

-- the number of 128 bits whose lower and upper half these are
abbrev pub halves : ℕ → ℕ → ℕ
halves low high = low + 2 ^ 64 * high
