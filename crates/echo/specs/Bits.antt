-- Section 1: bytes as bits, the most significant bit of a byte first, and bits as bytes. Assumes nothing.
use Rattle.std.specs.Prelude.{ℕ, ◌+◌, ◌*◌, ◌/◌, ◌%◌, List, [], ◌∷◌, ◌++◌, length, drop, slice_index}
use Rattle.aes_round.specs.Bytes.{tab}

-- the eight bits of a byte, whose first is x / 128, 0 or 1
unfoldable pub byte_bits : ℕ → List ℕ
byte_bits x = x / 128 ∷ x / 64 % 2 ∷ x / 32 % 2 ∷ x / 16 % 2 ∷ x / 8 % 2 ∷ x / 4 % 2 ∷ x / 2 % 2 ∷ x % 2 ∷ []

-- the bits of bytes, one byte after the other
unfoldable pub bits_of : List ℕ → List ℕ
bits_of [] = []
bits_of (x ∷ xs) = byte_bits x ++ bits_of xs

-- the byte of the first eight bits
unfoldable pub first_byte : List ℕ → ℕ
first_byte bits =
    128 * slice_index bits 0
    + 64 * slice_index bits 1
    + 32 * slice_index bits 2
    + 16 * slice_index bits 3
    + 8 * slice_index bits 4
    + 4 * slice_index bits 5
    + 2 * slice_index bits 6
    + slice_index bits 7

-- the bytes of bits, eight by eight
unfoldable pub packed : List ℕ → List ℕ
packed bits = tab (length bits / 8) (λ k. first_byte (drop (8 * k) bits))
