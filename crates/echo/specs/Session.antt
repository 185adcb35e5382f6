-- Sessions: which records are one, and what opening, adding and reading answer. Assumes nothing.
use Rattle.std.specs.Prelude.{ℕ, ◌+◌, ◌-◌, ◌*◌, ◌/◌, ◌%◌, ◌^◌, Bool, true, not, ◌&&◌, List, [], ◌∷◌, ◌++◌, length, take, drop, replicate, ◌==◌, nat_le, nat_lt, slice_index, slice_set}
use Rattle.echo.specs.declared.mode.Mode.{Mode}
use Rattle.echo.specs.declared.mode.Mode.TheVariants.{DoublePipe}
use Rattle.echo.specs.Answers.{Answer}
use Rattle.echo.specs.declared.session.Session.{Session}
use Rattle.echo.specs.Bits.{bits_of, packed}
use Rattle.echo.specs.Compression.{compress}
use Rattle.echo.specs.Digest.{bit_digest_of, block, block_count, counter_at, digest_of, initial, iterate}
use Rattle.echo.specs.Families.{block_size, chaining_size, either, round_count}
use Rattle.echo.specs.Padding.{padding}
use Rattle.echo.specs.Refusals.{◌when◌, first_of, no_salt, unless}
use Rattle.echo.specs.Square.{keys_from}

-- the most bits of a message: below 2^64 - 160
abbrev pub bit_limit : ℕ
bit_limit = 2 ^ 64 - 161

-- the most bytes within that
abbrev pub limit : ℕ
limit = 2 ^ 61 - 21

-- h is admitted: a multiple of 8 from 128 to 512
unfoldable pub admitted : ℕ → Bool
admitted h = nat_le 128 h && (nat_le h 512 && h % 8 == 0)

-- every byte, or bit, of a list is zero
unfoldable pub all_zero : List ℕ → Bool
all_zero [] = true
all_zero (x ∷ xs) = x == 0 && all_zero xs

-- the sizes of a session, by its mode and h
abbrev pub chaining_of : Session → ℕ
chaining_of s = chaining_size s.mode s.bits

abbrev pub block_of : Session → ℕ
block_of s = block_size s.mode s.bits

-- MSIZE, in bits
abbrev pub msize_of : Session → ℕ
msize_of s = 8 * block_of s

abbrev pub rounds_of : Session → ℕ
rounds_of s = round_count s.mode (chaining_of s)

-- h is admitted, the count of bits is at most the limit, waiting bits beyond those in use are zero, and so is the chaining room that mode and h
-- don't use
unfoldable pub is_session : Session → Bool
is_session s =
    admitted s.bits
    && (nat_le s.taken bit_limit
    && (all_zero (drop (s.taken % msize_of s) (bits_of s.waiting)) && all_zero (drop (chaining_of s) s.chaining)))

-- a session of its parts, for contracts of private functions
abbrev pub made : Mode → ℕ → List ℕ → List ℕ → ℕ → List ℕ → Session
made mode bits salt chaining taken waiting = record { mode = mode; bits = bits; salt = salt; chaining = chaining; taken = taken; waiting = waiting }

-- ---- opening

-- double-pipe, else all zero, and no session
unfoldable pub blank : Session
blank = record { mode = DoublePipe; bits = 0; salt = replicate 16 0; chaining = replicate 128 0; taken = 0; waiting = replicate 224 0 }

unfoldable pub opened : Mode → ℕ → List ℕ → Session
opened mode h salt = record {
  mode = mode;
  bits = h;
  salt = salt;
  chaining = initial (chaining_size mode h) h ++ replicate (128 - chaining_size mode h) 0;
  taken = 0;
  waiting = replicate 224 0;
}

unfoldable pub open_refusal : ℕ → ℕ → ℕ
open_refusal h saltLength = first_of ((1 when not (admitted h)) ∷ (2 when no_salt saltLength) ∷ [])

unfoldable pub open_answer : Mode → ℕ → List ℕ → Answer
open_answer mode h salt =
    let refusal = open_refusal h (length salt) in
    record { refusal = refusal; session = unless refusal (opened mode h salt) blank }

-- ---- adding

-- the waiting block with one byte more, behind those in use
abbrev pub waiting_with : Session → ℕ → List ℕ
waiting_with s x = slice_set s.waiting (s.taken / 8 % block_of s) x

-- chaining room whose variable has taken a block with a counter
abbrev pub compressed : Mode → ℕ → List ℕ → List ℕ → ℕ → List ℕ → List ℕ
compressed mode h salt chaining counter m =
    let c = chaining_size mode h in
    compress c (round_count mode c) (keys_from counter) salt (take c chaining) m ++ drop c chaining

-- one byte that fills the waiting block: it is compressed, with the number of message bits taken by its end as its counter
abbrev pub filled_by : Session → ℕ → Session
filled_by s x = record {
  mode = s.mode;
  bits = s.bits;
  salt = s.salt;
  chaining = compressed s.mode s.bits s.salt s.chaining (s.taken + 8) (take (block_of s) (waiting_with s x));
  taken = s.taken + 8;
  waiting = replicate 224 0;
}

-- a byte of which so many bits count, and that fills no block
abbrev pub longer_by : Session → ℕ → ℕ → Session
longer_by s x count =
    record { mode = s.mode; bits = s.bits; salt = s.salt; chaining = s.chaining; taken = s.taken + count; waiting = waiting_with s x }

-- a block is compressed as soon as it is full
unfoldable pub add_byte : Session → ℕ → Session
add_byte s x = either (s.taken / 8 % block_of s + 1 == block_of s) (filled_by s x) (longer_by s x 8)

unfoldable pub add_bytes : Session → List ℕ → Session
add_bytes s [] = s
add_bytes s (x ∷ xs) = add_bytes (add_byte s x) xs

-- a part byte, of fewer than eight bits; none where they are 0
unfoldable pub add_part : Session → ℕ → ℕ → Session
add_part s x count = either (count == 0) s (longer_by s x count)

-- so many bits of a piece: its whole bytes, and then the part byte
unfoldable pub add_bits : Session → List ℕ → ℕ → Session
add_bits s piece count = add_part (add_bytes s (take (count / 8) piece)) (slice_index piece (count / 8)) (count % 8)

-- 6: the bytes are not the bit count over 8, rounded up
abbrev pub other_size : ℕ → ℕ → Bool
other_size bytes count = not (bytes == (count + 7) / 8)

-- 17: a bit is set below the last one used
abbrev pub set_below : List ℕ → ℕ → Bool
set_below bytes count = not (all_zero (drop count (bits_of bytes)))

-- 16: bits would stand behind a part byte
abbrev pub behind_part : ℕ → ℕ → Bool
behind_part taken count = not (taken % 8 == 0) && not (count == 0)

unfoldable pub add_bits_refusal : Session → List ℕ → ℕ → ℕ
add_bits_refusal s piece count =
    first_of
    ((3 when not (is_session s))
    ∷ (4 when nat_lt bit_limit (s.taken + count))
    ∷ (6 when other_size (length piece) count)
    ∷ (16 when behind_part s.taken count)
    ∷ (17 when set_below piece count)
    ∷ [])

unfoldable pub add_bits_answer : Session → List ℕ → ℕ → Answer
add_bits_answer s piece count =
    let refusal = add_bits_refusal s piece count in
    record { refusal = refusal; session = unless refusal (add_bits s piece count) s }

-- whole bytes: eight bits each
unfoldable pub add_answer : Session → List ℕ → Answer
add_answer s piece = add_bits_answer s piece (8 * length piece)

-- ---- reading

-- the paper's iteration, continued from the chaining value, the count and the waiting bits, over the blocks that are left
unfoldable pub final_chaining : Session → List ℕ
final_chaining s =
    let msize = msize_of s in
    let c = chaining_of s in
    let L = s.taken in
    iterate c (rounds_of s) s.salt (take c s.chaining)
    (block (block_of s) (packed (take (L % msize) (bits_of s.waiting) ++ padding msize s.bits L))) (λ i. counter_at msize L (L / msize + i))
    (block_count msize L - L / msize)

unfoldable pub session_digest : Session → List ℕ
session_digest s = take (s.bits / 8) (final_chaining s)

unfoldable pub read_refusal : Session → ℕ → ℕ
read_refusal s room = first_of ((3 when not (is_session s)) ∷ (5 when nat_lt room (s.bits / 8)) ∷ [])

unfoldable pub read_answer : Session → ℕ → Answer
read_answer s room = record { refusal = read_refusal s room; session = s }

-- a digest fills the first h/8 bytes of the room; those behind stay
unfoldable pub read_leaves : Session → List ℕ → List ℕ
read_leaves s room = unless (read_refusal s (length room)) (session_digest s ++ drop (s.bits / 8) room) room

-- ---- the digest at once

unfoldable pub digest_bits_refusal : ℕ → ℕ → List ℕ → ℕ → ℕ → ℕ
digest_bits_refusal h saltLength message count room =
    first_of
    ((1 when not (admitted h))
    ∷ (2 when no_salt saltLength)
    ∷ (4 when nat_lt bit_limit count)
    ∷ (5 when nat_lt room (h / 8))
    ∷ (6 when other_size (length message) count)
    ∷ (17 when set_below message count)
    ∷ [])

-- of so many bits of a message
unfoldable pub digest_bits_leaves : Mode → ℕ → List ℕ → List ℕ → ℕ → List ℕ → List ℕ
digest_bits_leaves mode h salt message count room =
    unless (digest_bits_refusal h (length salt) message count (length room))
    (bit_digest_of mode h salt (take count (bits_of message)) ++ drop (h / 8) room) room

-- of whole bytes, eight bits each: the same numbers, of which 6 and 17 never come
unfoldable pub digest_refusal : ℕ → ℕ → ℕ → ℕ → ℕ
digest_refusal h saltLength messageLength room =
    first_of
    ((1 when not (admitted h))
    ∷ (2 when no_salt saltLength)
    ∷ (4 when nat_lt limit messageLength)
    ∷ (5 when nat_lt room (h / 8))
    ∷ [])

unfoldable pub digest_leaves : Mode → ℕ → List ℕ → List ℕ → List ℕ → List ℕ
digest_leaves mode h salt message room =
    unless (digest_refusal h (length salt) (length message) (length room)) (digest_of mode h salt message ++ drop (h / 8) room) room
