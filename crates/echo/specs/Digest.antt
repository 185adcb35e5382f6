-- Sections 2, 3 and 4: the iteration and the hash output, over the chaining size c, the block size b and the round count r.
-- Blocks are numbered from 0 here; a message is a list of bits. Assumes nothing.
use Rattle.std.specs.Prelude.{ℕ, zero, suc, ◌+◌, ◌*◌, ◌/◌, ◌%◌, ◌^◌, min, List, length, take, drop, nat_lt}
use Rattle.aes_round.specs.Bytes.{tab}
use Rattle.echo.specs.declared.mode.Mode.{Mode}
use Rattle.echo.specs.Bits.{bits_of, packed}
use Rattle.echo.specs.Compression.{compress}
use Rattle.echo.specs.Families.{block_size, chaining_size, either, round_count}
use Rattle.echo.specs.Padding.{pad}
use Rattle.echo.specs.Square.{keys_from}

-- 2.1: V_0: each word is the 128-bit encoding of the hash output size
unfoldable pub initial : ℕ → ℕ → List ℕ
initial c h = tab c (λ k. h / 256 ^ (k % 16) % 256)

-- 3, 4: message block i of b bytes, of a padded message in bytes
unfoldable pub block : ℕ → List ℕ → ℕ → List ℕ
block b padded i = take b (drop (b * i) padded)

-- the number of blocks of MSIZE bits of a padded message of L bits
unfoldable pub block_count : ℕ → ℕ → ℕ
block_count msize L = (L + 144) / msize + 1

-- 3.1: the number of message bits, of a message of L bits, taken by the end of block i; 0 for a block of pure padding
unfoldable pub counter_at : ℕ → ℕ → ℕ → ℕ
counter_at msize L i = either (nat_lt (msize * i) L) (min L (msize * i + msize)) 0

-- 2: V_i = COMPRESS(V_{i-1}, M_i, C_i, SALT), t times from v
unfoldable pub iterate : ℕ → ℕ → List ℕ → List ℕ → (ℕ → List ℕ) → (ℕ → ℕ) → ℕ → List ℕ
iterate c r salt v blocks counters zero = v
iterate c r salt v blocks counters (suc i) = compress c r (keys_from (counters i)) salt (iterate c r salt v blocks counters i) (blocks i)

-- 3.5, 4.1: the leftmost h bits of the last chaining variable
unfoldable pub digest : ℕ → ℕ → ℕ → ℕ → List ℕ → List ℕ → List ℕ
digest c b r h salt message =
    let msize = 8 * b in
    let L = length message in
    take (h / 8) (iterate c r salt (initial c h) (block b (packed (pad msize h message))) (counter_at msize L) (block_count msize L))

-- 2, 5: the digest of h bits of a message of bits, in a mode
unfoldable pub bit_digest_of : Mode → ℕ → List ℕ → List ℕ → List ℕ
bit_digest_of mode h salt message = digest (chaining_size mode h) (block_size mode h) (round_count mode (chaining_size mode h)) h salt message

-- the same of a message of bytes
unfoldable pub digest_of : Mode → ℕ → List ℕ → List ℕ → List ℕ
digest_of mode h salt message = bit_digest_of mode h salt (bits_of message)
