-- Section 2.2: message padding, over bits. Assumes nothing.
use Rattle.std.specs.Prelude.{ℕ, ◌+◌, ◌-◌, ◌%◌, List, ◌∷◌, ◌++◌, length, replicate}
use Rattle.echo.specs.Bits.{bits_of}
use Rattle.echo.specs.Numbers.{little_endian}

-- what is appended to a message of L bits, for blocks of MSIZE bits and a digest of h: 1. a single "1" bit; 2. x "0" bits, where
-- x = MSIZE - ((L + 144) mod MSIZE) - 1; 3. h in 16 bits; 4. L in 128 bits
unfoldable pub padding : ℕ → ℕ → ℕ → List ℕ
padding msize h L = 1 ∷ (replicate (msize - (L + 144) % msize - 1) 0 ++ (bits_of (little_endian 2 h) ++ bits_of (little_endian 16 L)))

-- the padded message
unfoldable pub pad : ℕ → ℕ → List ℕ → List ℕ
pad msize h message = message ++ padding msize h (length message)
