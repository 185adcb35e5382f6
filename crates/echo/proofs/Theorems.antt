-- The theorems of this crate that the pages quote, each closed: what it assumes stands in its statement. Assumes nothing.
use Rattle.std.proofs.Common.{◌≡◌, ℕ, suc, ◌+◌, ◌-◌, ◌*◌, ◌/◌, ◌%◌, ◌^◌, ◌<◌, ◌≤◌, min, Bool, true, false, not, ◌||◌, eqb, ltb, ◌⊎◌, ◌↔◌, List, [], ◌∷◌, ◌++◌, length, get_or, take, drop, replicate, refl, lit<}
use Rattle.aes_round.specs.Bytes.{Bytes, tab, xor_bytes}
use Rattle.aes_round.specs.ByTables.{mix_numbers, row_table, table_round}
use Rattle.aes_round.specs.Field.{mul}
use Rattle.aes_round.specs.Marked.{Hold, ◌gives◌}
use Rattle.aes_round.specs.Mixing.{forward, mix_column}
use Rattle.aes_round.specs.Numbers.{numbers}
use Rattle.aes_round.specs.Substitution.{sub_byte}
use Rattle.aes_round.proofs.Theorems as aes-round
use Rattle.echo.specs.declared.mode.Mode.{Mode}
use Rattle.echo.specs.declared.mode.Mode.TheVariants.{DoublePipe, SinglePipe}
use Rattle.echo.specs.declared.session.Session.{Session}
use Rattle.echo.specs.Bits.{bits_of, byte_bits, packed}
use Rattle.echo.specs.Compression.{compress, fold}
use Rattle.echo.specs.Digest.{bit_digest_of, block, block_count, counter_at, digest_of, initial, iterate}
use Rattle.echo.specs.Families.{block_size, chaining_size, either, mode_number, round_count, sizes_fit}
use Rattle.echo.specs.Numbers.{halves, little_endian}
use Rattle.echo.specs.Padding.{pad, padding}
use Rattle.echo.specs.Pieces.{add_all, joined}
use Rattle.echo.specs.Refusals.{Lowest, Refusal, ◌when◌, ascends, counter_too_high, first_of, no_salt}
use Rattle.echo.specs.Routines.{compress_leaves, compress_refusal, compress_wide_leaves, compress_wide_refusal}
use Rattle.echo.specs.Routines.{rounds_back_leave, rounds_back_wide_leave, rounds_leave, rounds_refusal, rounds_wide_leave, rounds_wide_refusal}
use Rattle.echo.specs.Session.{
  add_answer,
  add_bits,
  add_bits_answer,
  add_bits_refusal,
  add_bytes,
  admitted,
  all_zero,
  behind_part,
  bit_limit,
  blank,
  block_of,
  chaining_of,
  digest_bits_leaves,
  digest_bits_refusal,
  digest_leaves,
  digest_refusal,
  is_session,
  limit,
  msize_of,
  open_answer,
  open_refusal,
  opened,
  other_size,
  read_answer,
  read_leaves,
  read_refusal,
  rounds_of,
  session_digest,
  set_below,
}
use Rattle.echo.specs.SinglePipe.{compress51, compress52}
use Rattle.echo.specs.Square.{big_mix_columns, big_shift_rows, big_sub_words, counter_key, keys_from, rounds, rounds_back, wide_key, wide_keys_from, word}
use Rattle.echo.proofs.ARefusalChangesNothing as refusing
use Rattle.echo.proofs.Laws.Admitted as admitted-in-words
use Rattle.echo.proofs.Laws.AtOnce as at_once
use Rattle.echo.proofs.Laws.ByTables as by-tables
use Rattle.echo.proofs.Laws.Continued as continued
use Rattle.echo.proofs.Laws.ContinuedBytes as continued_bytes
use Rattle.echo.proofs.Laws.Exactly as exactly
use Rattle.echo.proofs.Laws.Folded as folded
use Rattle.echo.proofs.Laws.LastBlock as last_block
use Rattle.echo.proofs.Laws.Lowest as lowest
use Rattle.echo.proofs.Laws.Marked as marked
use Rattle.echo.proofs.Laws.MixedNumbers as mixed-numbers
use Rattle.echo.proofs.Laws.Numbers as numbers-as-bytes
use Rattle.echo.proofs.Laws.Padded as padded
use Rattle.echo.proofs.Laws.Sessions as sessions
use Rattle.echo.proofs.Laws.SinglePipe as single-pipe
use Rattle.echo.proofs.Laws.UpperHalfZero as upper-half-zero
use Rattle.echo.proofs.Laws.WholeBytes as whole_bytes
use Rattle.echo.proofs.Laws.Words as words
use Rattle.echo.proofs.NothingIsLost as mixing
use Rattle.echo.proofs.TheDigest as digest

-- ---- a refusal, whose number is k + 1, changes nothing

pub refused_rounds_leave_the_square : (k : ℕ) (square : List ℕ) (count counter : ℕ) (salt : List ℕ)
    → rounds_refusal (length square) count counter (length salt) ≡ suc k
    → rounds_leave square count counter salt ≡ square
refused_rounds_leave_the_square = refusing.refused_rounds_leave_the_square

pub refused_rounds_back_leave_the_square : (k : ℕ) (square : List ℕ) (count counter : ℕ) (salt : List ℕ)
    → rounds_refusal (length square) count counter (length salt) ≡ suc k
    → rounds_back_leave square count counter salt ≡ square
refused_rounds_back_leave_the_square = refusing.refused_rounds_back_leave_the_square

pub a_refused_compression_leaves_the_chaining_value : (k : ℕ) (mode : Mode) (chaining block : List ℕ) (counter : ℕ) (salt : List ℕ)
    → compress_refusal mode (length chaining) (length block) counter (length salt) ≡ suc k
    → compress_leaves mode chaining block counter salt ≡ chaining
a_refused_compression_leaves_the_chaining_value = refusing.a_refused_compression_leaves_the_chaining_value

pub refused_wide_rounds_leave_the_square : (k : ℕ) (square : List ℕ) (count counter : ℕ) (salt : List ℕ)
    → rounds_wide_refusal (length square) count (length salt) ≡ suc k
    → (rounds_wide_leave square count counter salt ≡ square) × (rounds_back_wide_leave square count counter salt ≡ square)
refused_wide_rounds_leave_the_square = refusing.refused_wide_rounds_leave_the_square

pub a_refused_wide_compression_leaves_the_chaining_value : (k : ℕ) (mode : Mode) (chaining block : List ℕ) (counter : ℕ) (salt : List ℕ)
    → compress_wide_refusal mode (length chaining) (length block) (length salt) ≡ suc k
    → compress_wide_leaves mode chaining block counter salt ≡ chaining
a_refused_wide_compression_leaves_the_chaining_value = refusing.a_refused_wide_compression_leaves_the_chaining_value

pub a_refused_opening_is_blank : (k : ℕ) (mode : Mode) (h : ℕ) (salt : List ℕ) → open_refusal h (length salt) ≡ suc k
    → (open_answer mode h salt).session ≡ blank
a_refused_opening_is_blank = refusing.a_refused_opening_is_blank

pub the_blank_session_is_none : is_session blank ≡ false
the_blank_session_is_none = refusing.the_blank_session_is_none

-- in bits; bytes are eight of them each (`whole_bytes_are_eight_bits_each`)
pub a_refused_piece_changes_nothing : (k : ℕ) (s : Session) (piece : List ℕ) (count : ℕ)
    → add_bits_refusal s piece count ≡ suc k
    → (add_bits_answer s piece count).session ≡ s
a_refused_piece_changes_nothing = refusing.a_refused_piece_changes_nothing

pub a_refused_reading_leaves_the_room : (k : ℕ) (s : Session) (room : List ℕ) → read_refusal s (length room) ≡ suc k → read_leaves s room ≡ room
a_refused_reading_leaves_the_room = refusing.a_refused_reading_leaves_the_room

pub reading_changes_nothing : (s : Session) (room : ℕ) → (read_answer s room).session ≡ s
reading_changes_nothing = digest.reading_changes_nothing

pub a_refused_digest_leaves_the_room : (k : ℕ) (mode : Mode) (h : ℕ) (salt message room : List ℕ)
    → digest_refusal h (length salt) (length message) (length room) ≡ suc k
    → digest_leaves mode h salt message room ≡ room
a_refused_digest_leaves_the_room = refusing.a_refused_digest_leaves_the_room

pub a_refused_digest_of_bits_leaves_the_room : (k : ℕ) (mode : Mode) (h : ℕ) (salt message : List ℕ) (count : ℕ) (room : List ℕ)
    → digest_bits_refusal h (length salt) message count (length room) ≡ suc k
    → digest_bits_leaves mode h salt message count room ≡ room
a_refused_digest_of_bits_leaves_the_room = refusing.a_refused_digest_of_bits_leaves_the_room

-- ---- of the refusals that apply the lowest is given

pub the_first_of_a_list_that_ascends_is_the_lowest : (l : List Refusal) → ascends 0 l ≡ true → Lowest (first_of l) l
the_first_of_a_list_that_ascends_is_the_lowest = lowest.lowest_of

pub a_list_has_one_lowest : (n m : ℕ) (l : List Refusal) → Lowest n l → Lowest m l → n ≡ m
a_list_has_one_lowest = lowest.one_lowest

-- a number of a list that ascends is given exactly where its condition holds and none before it is given
pub a_number_is_given_exactly_where_none_before_it_is : (before after : List Refusal) (n : ℕ) (condition : Bool)
    → ascends 0 (before ++ (n when condition) ∷ after) ≡ true
    → (first_of (before ++ (n when condition) ∷ after) ≡ n) ↔ ((first_of before ≡ 0) × (condition ≡ true))
a_number_is_given_exactly_where_none_before_it_is = lowest.given_exactly

pub nothing_is_refused_exactly_where_no_condition_holds : (n : ℕ) (condition : Bool) (rest : List Refusal)
    → 0 < n
    → (first_of ((n when condition) ∷ rest) ≡ 0) ↔ ((condition ≡ false) × (first_of rest ≡ 0))
nothing_is_refused_exactly_where_no_condition_holds = lowest.none_exactly

pub an_opening_is_refused_by_the_lowest : (h saltLength : ℕ)
    → Lowest (open_refusal h saltLength) ((1 when not (admitted h)) ∷ (2 when no_salt saltLength) ∷ [])
unfolding open_refusal
an_opening_is_refused_by_the_lowest h saltLength = lowest.lowest_of _ refl

pub a_piece_is_refused_by_the_lowest : (s : Session) (piece : List ℕ) (count : ℕ)
    → Lowest (add_bits_refusal s piece count)
    ((3 when not (is_session s))
    ∷ (4 when ltb bit_limit (s.taken + count))
    ∷ (6 when other_size (length piece) count)
    ∷ (16 when behind_part s.taken count)
    ∷ (17 when set_below piece count)
    ∷ [])
unfolding add_bits_refusal
a_piece_is_refused_by_the_lowest s piece count = lowest.lowest_of _ refl

pub a_reading_is_refused_by_the_lowest : (s : Session) (room : ℕ)
    → Lowest (read_refusal s room) ((3 when not (is_session s)) ∷ (5 when ltb room (s.bits / 8)) ∷ [])
unfolding read_refusal
a_reading_is_refused_by_the_lowest s room = lowest.lowest_of _ refl

pub a_digest_of_bits_is_refused_by_the_lowest : (h saltLength : ℕ) (message : List ℕ) (count room : ℕ)
    → Lowest (digest_bits_refusal h saltLength message count room)
    ((1 when not (admitted h))
    ∷ (2 when no_salt saltLength)
    ∷ (4 when ltb bit_limit count)
    ∷ (5 when ltb room (h / 8))
    ∷ (6 when other_size (length message) count)
    ∷ (17 when set_below message count)
    ∷ [])
unfolding digest_bits_refusal
a_digest_of_bits_is_refused_by_the_lowest h saltLength message count room = lowest.lowest_of _ refl

pub a_digest_is_refused_by_the_lowest : (h saltLength messageLength room : ℕ)
    → Lowest (digest_refusal h saltLength messageLength room)
    ((1 when not (admitted h))
    ∷ (2 when no_salt saltLength)
    ∷ (4 when ltb limit messageLength)
    ∷ (5 when ltb room (h / 8))
    ∷ [])
unfolding digest_refusal
a_digest_is_refused_by_the_lowest h saltLength messageLength room = lowest.lowest_of _ refl

pub rounds_are_refused_by_the_lowest : (squareLength count counter saltLength : ℕ)
    → Lowest (rounds_refusal squareLength count counter saltLength)
    ((2 when no_salt saltLength)
    ∷ (6 when not (eqb squareLength 256) || not (eqb count 8 || eqb count 10))
    ∷ (7 when counter_too_high counter)
    ∷ [])
unfolding rounds_refusal
rounds_are_refused_by_the_lowest squareLength count counter saltLength = lowest.lowest_of _ refl

pub a_compression_is_refused_by_the_lowest : (mode : Mode) (chainingLength blockLength counter saltLength : ℕ)
    → Lowest (compress_refusal mode chainingLength blockLength counter saltLength)
    ((2 when no_salt saltLength)
    ∷ (6 when not (sizes_fit mode chainingLength blockLength))
    ∷ (7 when counter_too_high counter)
    ∷ [])
unfolding compress_refusal
a_compression_is_refused_by_the_lowest mode chainingLength blockLength counter saltLength = lowest.lowest_of _ refl

pub wide_rounds_are_refused_by_the_lowest : (squareLength count saltLength : ℕ)
    → Lowest (rounds_wide_refusal squareLength count saltLength)
    ((2 when no_salt saltLength) ∷ (6 when not (eqb squareLength 256) || not (eqb count 8 || eqb count 10)) ∷ [])
unfolding rounds_wide_refusal
wide_rounds_are_refused_by_the_lowest squareLength count saltLength = lowest.lowest_of _ refl

pub a_wide_compression_is_refused_by_the_lowest : (mode : Mode) (chainingLength blockLength saltLength : ℕ)
    → Lowest (compress_wide_refusal mode chainingLength blockLength saltLength)
    ((2 when no_salt saltLength) ∷ (6 when not (sizes_fit mode chainingLength blockLength)) ∷ [])
unfolding compress_wide_refusal
a_wide_compression_is_refused_by_the_lowest mode chainingLength blockLength saltLength = lowest.lowest_of _ refl

-- ---- the digest is the paper's

-- pieces of whole bytes, and a last one of so many bits, in the bytes that these take, unused bits zero
pub however_cut_the_digest_is_the_papers_in_bits : (mode : Mode) (h : ℕ) (salt : List ℕ) (pieces : List (List ℕ)) (last : List ℕ) (count : ℕ) (room : List ℕ)
    → admitted h ≡ true
    → length salt ≡ 16
    → length last ≡ (count + 7) / 8
    → all_zero (drop count (bits_of last)) ≡ true
    → 8 * length (joined pieces) + count ≤ bit_limit
    → h / 8 ≤ length room
    → let ended = add_bits_answer (add_all (open_answer mode h salt).session pieces) last count in
    (ended.refusal ≡ 0)
    × ((read_answer ended.session (length room)).refusal ≡ 0)
    × (read_leaves ended.session room ≡ bit_digest_of mode h salt (bits_of (joined pieces) ++ take count (bits_of last)) ++ drop (h / 8) room)
however_cut_the_digest_is_the_papers_in_bits mode h salt pieces last count room a l s z m r =
    digest.however_cut_the_digest_is_the_papers_in_bits mode h salt a l pieces last count (record { size = s; clear = z }) m room r

-- of whole bytes alone
pub however_cut_the_digest_is_the_papers : (mode : Mode) (h : ℕ) (salt : List ℕ) (pieces : List (List ℕ)) (room : List ℕ)
    → admitted h ≡ true
    → length salt ≡ 16
    → length (joined pieces) ≤ limit
    → h / 8 ≤ length room
    → ((read_answer (add_all (open_answer mode h salt).session pieces) (length room)).refusal ≡ 0)
    × (read_leaves (add_all (open_answer mode h salt).session pieces) room ≡ digest_of mode h salt (joined pieces) ++ drop (h / 8) room)
however_cut_the_digest_is_the_papers mode h salt pieces room a l m r = digest.however_cut_the_digest_is_the_papers mode h salt a l pieces m room r

pub an_opening_is_taken : (mode : Mode) (h : ℕ) (salt : List ℕ) → admitted h ≡ true → length salt ≡ 16 → (open_answer mode h salt).refusal ≡ 0
an_opening_is_taken = digest.an_opening_is_taken

pub every_piece_is_taken : (mode : Mode) (h : ℕ) (salt : List ℕ) (before : List (List ℕ)) (piece : List ℕ) (after : List (List ℕ))
    → admitted h ≡ true
    → length salt ≡ 16
    → length (joined (before ++ piece ∷ after)) ≤ limit
    → (add_answer (add_all (open_answer mode h salt).session before) piece).refusal ≡ 0
every_piece_is_taken mode h salt before piece after a l m = digest.every_piece_is_taken mode h salt a l before piece after m

pub at_once_is_the_digest_in_bits : (mode : Mode) (h : ℕ) (salt message : List ℕ) (count : ℕ) (room : List ℕ)
    → admitted h ≡ true
    → length salt ≡ 16
    → length message ≡ (count + 7) / 8
    → all_zero (drop count (bits_of message)) ≡ true
    → count ≤ bit_limit
    → h / 8 ≤ length room
    → (digest_bits_refusal h (length salt) message count (length room) ≡ 0)
    × (digest_bits_leaves mode h salt message count room ≡ bit_digest_of mode h salt (take count (bits_of message)) ++ drop (h / 8) room)
at_once_is_the_digest_in_bits mode h salt message count room a l s z m r =
    digest.at_once_is_the_digest_in_bits mode h salt a l message count room (record { size = s; clear = z }) m r

pub at_once_is_the_digest : (mode : Mode) (h : ℕ) (salt message room : List ℕ)
    → admitted h ≡ true
    → length salt ≡ 16
    → length message ≤ limit
    → h / 8 ≤ length room
    → (digest_refusal h (length salt) (length message) (length room) ≡ 0)
    × (digest_leaves mode h salt message room ≡ digest_of mode h salt message ++ drop (h / 8) room)
at_once_is_the_digest mode h salt message room a l m r = digest.at_once_is_the_digest mode h salt a l message room m r

-- the session of k bits of m, with j bits of a piece behind them: all of m are whole bytes, or the piece is empty
pub a_piece_of_bits_is_joined : (mode : Mode) (h : ℕ) (salt m : List ℕ) (k : ℕ) (piece : List ℕ) (j : ℕ)
    → admitted h ≡ true
    → length salt ≡ 16
    → length m ≡ (k + 7) / 8
    → all_zero (drop k (bits_of m)) ≡ true
    → length piece ≡ (j + 7) / 8
    → all_zero (drop j (bits_of piece)) ≡ true
    → (k % 8 ≡ 0) ⊎ (j ≡ 0)
    → k + j ≤ bit_limit
    → add_bits_answer (add_bits (opened mode h salt) m k) piece j ≡ record { refusal = 0; session = add_bits (opened mode h salt) (m ++ piece) (k + j) }
a_piece_of_bits_is_joined mode h salt m k piece j a l s y t z one fits =
    digest.a_piece_of_bits_is_joined mode h salt a l m k (record { size = s; clear = y }) piece j (record { size = t; clear = z }) fits one

pub a_piece_is_joined : (mode : Mode) (h : ℕ) (salt m piece : List ℕ)
    → admitted h ≡ true
    → length salt ≡ 16
    → length (m ++ piece) ≤ limit
    → add_answer (add_bytes (opened mode h salt) m) piece ≡ record { refusal = 0; session = add_bytes (opened mode h salt) (m ++ piece) }
a_piece_is_joined mode h salt m piece a l f = digest.a_piece_is_joined mode h salt a l m piece f

-- any record, a session or none; and a session takes it, whether it ends in a part byte or not
pub an_empty_piece_changes_nothing : (s : Session) → (add_answer s []).session ≡ s
an_empty_piece_changes_nothing = digest.an_empty_piece_changes_nothing

pub an_empty_piece_is_taken : (s : Session) → is_session s ≡ true → (add_answer s []).refusal ≡ 0
an_empty_piece_is_taken = digest.an_empty_piece_is_taken

-- any record that is a session, whether an opening made it or not, and a piece that it takes; `chaining` and `waiting` are arrays of these lengths
pub every_session_continues_the_iteration : (s : Session) (piece : List ℕ) (count : ℕ) (room : List ℕ)
    → add_bits_refusal s piece count ≡ 0
    → length s.chaining ≡ 128
    → length s.waiting ≡ 224
    → s.bits / 8 ≤ length room
    → let L = s.taken + count in
    let added = (add_bits_answer s piece count).session in
    (is_session added ≡ true)
    × ((read_answer added (length room)).refusal ≡ 0)
    × (read_leaves added room
    ≡ take (s.bits / 8)
    (iterate (chaining_of s) (rounds_of s) s.salt
    (take (chaining_of s) s.chaining)
    (block (block_of s)
    (packed (take (s.taken % msize_of s) (bits_of s.waiting) ++ (take count (bits_of piece) ++ padding (msize_of s) s.bits L))))
    (λ i. counter_at (msize_of s) L (s.taken / msize_of s + i))
    (block_count (msize_of s) L - s.taken / msize_of s))
    ++ drop (s.bits / 8) room)
every_session_continues_the_iteration s piece count room taken c w r =
    let A = sessions.addable s piece count taken in
    let C = continued.continues s A.is c w piece count A room r in (C.1, C.2, C.3)

-- the digest of the session itself, whose bits are whole bytes, with a piece of whole bytes behind them
pub a_session_digest_continues_the_iteration : (s : Session) (piece : List ℕ)
    → is_session s ≡ true
    → s.taken % 8 ≡ 0
    → s.taken + 8 * length piece ≤ bit_limit
    → length s.chaining ≡ 128
    → length s.waiting ≡ 224
    → let L = s.taken + 8 * length piece in
    session_digest (add_bytes s piece)
    ≡ take (s.bits / 8)
    (iterate (chaining_of s) (rounds_of s) s.salt
    (take (chaining_of s) s.chaining)
    (block (block_of s)
    (packed (take (s.taken % msize_of s) (bits_of s.waiting) ++ (bits_of piece ++ padding (msize_of s) s.bits L))))
    (λ i. counter_at (msize_of s) L (s.taken / msize_of s + i))
    (block_count (msize_of s) L - s.taken / msize_of s))
a_session_digest_continues_the_iteration = continued_bytes.continued_bytes

-- bytes that fit one block with their padding, behind q blocks: the counter is the length of the message
pub a_short_rest_is_one_compression : (c r b h q : ℕ) (salt v rest : List ℕ)
    → 0 < length rest
    → length rest + 18 < b
    → let msize = 8 * b in
    let L = msize * q + 8 * length rest in
    let padded = packed (bits_of rest ++ padding msize h L) in
    iterate c r salt v (block b padded) (λ i. counter_at msize L (q + i)) (block_count msize L - q) ≡ compress c r (keys_from L) salt v padded
a_short_rest_is_one_compression c r b h q salt v rest some short = last_block.last_compression b q rest some short h c r salt v

-- ---- any record

pub admitted_exactly : (h : ℕ) → (admitted h ≡ true) ↔ ((128 ≤ h) × (h ≤ 512) × (h % 8 ≡ 0))
admitted_exactly = admitted-in-words.admitted_exactly

-- past the end of a list `get_or` gives its last argument, 0
pub sessions_exactly : (s : Session)
    → (is_session s ≡ true)
    ↔ ((128 ≤ s.bits)
    × (s.bits ≤ 512)
    × (s.bits % 8 ≡ 0)
    × (s.taken ≤ 2 ^ 64 - 161)
    × ((k : ℕ) → s.taken % msize_of s ≤ k → get_or (bits_of s.waiting) k 0 ≡ 0)
    × ((k : ℕ) → chaining_of s ≤ k → get_or s.chaining k 0 ≡ 0))
sessions_exactly = exactly.sessions_exactly

-- ---- padding

-- in bits, whatever the block size
pub the_padded_message_fills_its_blocks : (msize h : ℕ) (m : List ℕ) → 0 < msize → length (pad msize h m) ≡ msize * block_count msize (length m)
the_padded_message_fills_its_blocks msize h m p = padded.pad_fills msize p h m

-- z zero bits would fill blocks too, between the "1" and the 144 bits of the lengths
pub no_fewer_zeros_would_do : (msize L z : ℕ) → 0 < msize → (L + 1 + z + 144) % msize ≡ 0 → msize - (L + 144) % msize - 1 ≤ z
no_fewer_zeros_would_do msize L z p e = padded.no_fewer_zeros msize p L z e

-- in bytes: the message m; the marking bit in the part byte x, of which r bits count; zeros; the lengths
pub the_padding_of_a_part_byte : (b h : ℕ) (m : List ℕ) (x r : ℕ)
    → 0 < b
    → r < 8
    → all_zero (drop r (byte_bits x)) ≡ true
    → packed (pad (8 * b) h (bits_of m ++ take r (byte_bits x)))
    ≡ m ++ ((x + 2 ^ (7 - r)) ∷ (replicate (b - (length m + 18) % b - 1) 0 ++ (little_endian 2 h ++ little_endian 16 (8 * length m + r))))
the_padding_of_a_part_byte b h m x r p few z = padded.pad_part b p h m x r (record { few = few; clear = z })

pub the_padding_of_whole_bytes : (b h : ℕ) (m : List ℕ)
    → 0 < b
    → packed (pad (8 * b) h (bits_of m))
    ≡ m ++ (0x80 ∷ (replicate (b - (length m + 18) % b - 1) 0 ++ (little_endian 2 h ++ little_endian 16 (8 * length m))))
the_padding_of_whole_bytes b h m p = padded.pad_bytes b p h m

-- the message of n whole bytes keeps its digest: padding, counters and number of blocks as they were stated in bytes
pub whole_bytes_keep_their_digests : (mode : Mode) (h : ℕ) (salt message : List ℕ)
    → let b = block_size mode h in
    let c = chaining_size mode h in
    let n = length message in
    digest_of mode h salt message
    ≡ take (h / 8)
    (iterate c (round_count mode c) salt (initial c h)
    (block b (message ++ (0x80 ∷ (replicate (b - (n + 18) % b - 1) 0 ++ (little_endian 2 h ++ little_endian 16 (8 * n))))))
    (λ i. either (ltb (b * i) n) (8 * min n (b * i + b)) 0) ((n + 18) / b + 1))
whole_bytes_keep_their_digests = whole_bytes.digest_bytes

-- the routines for bytes are those for bits at eight times the length
pub whole_bytes_are_eight_bits_each : (mode : Mode) (h : ℕ) (salt message room : List ℕ) (s : Session)
    → (digest_refusal h (length salt) (length message) (length room) ≡ digest_bits_refusal h (length salt) message (8 * length message) (length room))
    × (digest_leaves mode h salt message room ≡ digest_bits_leaves mode h salt message (8 * length message) room)
    × (add_answer s message ≡ add_bits_answer s message (8 * length message))
whole_bytes_are_eight_bits_each = at_once.eight_bits_each

-- the last length that one block holds with its padding, and its successor; and no zero stands in the former's padding
pub up_to_1391_bits_fit_one_block : Hold
    (((block_count (8 * block_size DoublePipe 256) 1391 ∷ block_count (8 * block_size DoublePipe 256) 1392 ∷ []) gives (1 ∷ 2 ∷ []))
    ∷ ((block_count (8 * block_size DoublePipe 512) 879 ∷ block_count (8 * block_size DoublePipe 512) 880 ∷ []) gives (1 ∷ 2 ∷ []))
    ∷ ((block_count (8 * block_size SinglePipe 256) 1647 ∷ block_count (8 * block_size SinglePipe 256) 1648 ∷ []) gives (1 ∷ 2 ∷ []))
    ∷ ((block_count (8 * block_size SinglePipe 512) 1391 ∷ block_count (8 * block_size SinglePipe 512) 1392 ∷ []) gives (1 ∷ 2 ∷ []))
    ∷ ((padding (8 * block_size DoublePipe 256) 256 1391) gives (1 ∷ (bits_of (little_endian 2 256) ++ bits_of (little_endian 16 1391))))
    ∷ [])
up_to_1391_bits_fit_one_block = marked.last_of_one_block

-- substitution, doubling and mix; row shift, of any square s; counters of all blocks; padding
pub the_marked_examples_hold : (s : List ℕ) → Hold
    (((sub_byte 0x00 ∷ []) gives (0x63 ∷ []))
    ∷ ((sub_byte 0x53 ∷ []) gives (0xed ∷ []))
    ∷ ((mul 2 0x80 ∷ []) gives (0x1b ∷ []))
    ∷ ((mul 2 0x57 ∷ []) gives (0xae ∷ []))
    ∷ (mix_column forward (0xdb ∷ 0x13 ∷ 0x53 ∷ 0x45 ∷ []) gives (0x8e ∷ 0x4d ∷ 0xa1 ∷ 0xbc ∷ []))
    ∷ (word (big_shift_rows s) 5 gives word s 9)
    ∷ (word (big_shift_rows s) 13 gives word s 1)
    ∷ (word (big_shift_rows s) 3 gives word s 15)
    ∷ (tab (block_count (8 * block_size DoublePipe 256) (8 * 174)) (counter_at (8 * block_size DoublePipe 256) (8 * 174)) gives (1392 ∷ 0 ∷ []))
    ∷ (tab (block_count (8 * block_size DoublePipe 256) (8 * 192)) (counter_at (8 * block_size DoublePipe 256) (8 * 192)) gives (1536 ∷ 0 ∷ []))
    ∷ (packed (pad (8 * block_size DoublePipe 256) 256 (bits_of [])) gives (0x80 ∷ (replicate 173 0 ++ (0x00 ∷ 0x01 ∷ replicate 16 0))))
    ∷ (packed (pad (8 * block_size DoublePipe 256) 256 (bits_of (0x61 ∷ 0x62 ∷ 0x63 ∷ [])))
    gives (0x61 ∷ 0x62 ∷ 0x63 ∷ 0x80 ∷ (replicate 170 0 ++ (0x00 ∷ 0x01 ∷ 0x18 ∷ replicate 15 0))))
    ∷ [])
the_marked_examples_hold s =
    let A = aes-round.the_marked_examples_hold in (
      A.0,
      (
        A.1.0,
        (
          A.1.1.0,
          (
            A.1.1.1.0,
            (
              A.1.1.1.1.0,
              (
                words.shifted_word s 5 (lit< tt),
                (
                  words.shifted_word s 13 (lit< tt),
                  (
                    words.shifted_word s 3 (lit< tt),
                    (marked.counters_174, (marked.counters_192, (marked.empty_padded, (marked.abc_padded, tt)))),
                  ),
                ),
              ),
            ),
          ),
        ),
      ),
    )

-- ---- the path by tables, on the square as 64 numbers

-- the word i after BIG.SubWords, whatever its subkey
pub a_word_by_tables : (key : ℕ → List ℕ) (salt s : List ℕ) (i : ℕ)
    → Bytes 16 (key i)
    → Bytes 16 salt
    → Bytes 256 s
    → i < 16
    → let round = table_round (row_table 0) (row_table 1) (row_table 2) (row_table 3) in
    numbers 4 (word (big_sub_words key salt s) i) ≡ round (round (numbers 4 (word s i)) (numbers 4 (key i))) (numbers 4 salt)
a_word_by_tables = by-tables.word_by_tables

-- the number j of the word i in the column c of the square after BIG.MixColumns
pub a_mix_by_numbers : (s : List ℕ) (c j i : ℕ)
    → Bytes 256 s
    → c < 4
    → j < 4
    → i < 4
    → let a = numbers 64 s in
    let at = 16 * c + j in
    get_or (numbers 64 (big_mix_columns s)) (at + 4 * i) 0
    ≡ get_or (mix_numbers (get_or a at 0 ∷ get_or a (at + 4) 0 ∷ get_or a (at + 8) 0 ∷ get_or a (at + 12) 0 ∷ [])) i 0
a_mix_by_numbers = mixed-numbers.mix_by_numbers

-- ---- nothing is lost before the fold

pub squares_go_to_squares : (n start : ℕ) (salt s : List ℕ) → Bytes 16 salt → Bytes 256 s → Bytes 256 (rounds n (keys_from start) salt s)
squares_go_to_squares n start salt s L = mixing.squares_go_to_squares n (keys_from start) (mixing.keys start) salt L s

pub different_squares_go_to_different_squares : (n start : ℕ) (salt s t : List ℕ)
    → Bytes 16 salt
    → Bytes 256 s
    → Bytes 256 t
    → rounds n (keys_from start) salt s ≡ rounds n (keys_from start) salt t
    → s ≡ t
different_squares_go_to_different_squares n start salt s t L =
    mixing.different_squares_go_to_different_squares n (keys_from start) (mixing.keys start) salt L s t

pub every_square_is_reached : (n start : ℕ) (salt t : List ℕ)
    → Bytes 16 salt
    → Bytes 256 t
    → (s : List ℕ) × Bytes 256 s × (rounds n (keys_from start) salt s ≡ t)
every_square_is_reached n start salt t L = mixing.every_square_is_reached n (keys_from start) (mixing.keys start) salt L t

pub backward_undoes_forward : (n start : ℕ) (salt s : List ℕ)
    → Bytes 16 salt
    → Bytes 256 s
    → rounds_back n (keys_from start) salt (rounds n (keys_from start) salt s) ≡ s
backward_undoes_forward n start salt s L = mixing.backward_undoes_forward n (keys_from start) (mixing.keys start) salt L s

pub forward_undoes_backward : (n start : ℕ) (salt s : List ℕ)
    → Bytes 16 salt
    → Bytes 256 s
    → rounds n (keys_from start) salt (rounds_back n (keys_from start) salt s) ≡ s
forward_undoes_backward n start salt s L = mixing.forward_undoes_backward n (keys_from start) (mixing.keys start) salt L s

-- the two routines as they are called, refused or not
pub the_routines_undo_each_other : (square : List ℕ) (count counter : ℕ) (salt : List ℕ)
    → Bytes (length square) square
    → Bytes (length salt) salt
    → (rounds_back_leave (rounds_leave square count counter salt) count counter salt ≡ square)
    × (rounds_leave (rounds_back_leave square count counter salt) count counter salt ≡ square)
the_routines_undo_each_other = mixing.the_routines_undo_each_other

pub row_shift_of_xor : (s t : List ℕ) → big_shift_rows (xor_bytes 256 s t) ≡ xor_bytes 256 (big_shift_rows s) (big_shift_rows t)
row_shift_of_xor = mixing.row_shift_of_xor

pub column_mix_of_xor : (s t : List ℕ) → big_mix_columns (xor_bytes 256 s t) ≡ xor_bytes 256 (big_mix_columns s) (big_mix_columns t)
column_mix_of_xor = mixing.column_mix_of_xor

-- a chaining variable v of c bytes and a block m of so many parts of c bytes: c = 32 with 7 parts, c = 64 with 3, c = 128 with 1
pub new_chaining_value : (c parts n start : ℕ) (salt v m : List ℕ)
    → 0 < c
    → length v ≡ c
    → length m ≡ c * parts
    → compress c n (keys_from start) salt v m ≡ xor_bytes c (fold c (v ++ m)) (fold c (rounds n (keys_from start) salt (v ++ m)))
new_chaining_value c parts n start = mixing.new_chaining_value c parts n (keys_from start)

-- the same of what the routine leaves, in either mode
pub compress_leaves_the_folds : (mode : Mode) (chaining block : List ℕ) (counter : ℕ) (salt : List ℕ)
    → compress_refusal mode (length chaining) (length block) counter (length salt) ≡ 0
    → compress_leaves mode chaining block counter salt
    ≡ xor_bytes (length chaining) (fold (length chaining) (chaining ++ block))
    (fold (length chaining) (rounds (round_count mode (length chaining)) (keys_from counter) salt (chaining ++ block)))
compress_leaves_the_folds mode chaining block counter salt = mixing.compress_leaves_the_folds mode chaining block salt counter

-- ---- counters of 128 bits

-- the sixteen bytes of the subkey are those of the lower half and those of the upper
pub a_wide_subkey_is_both_halves : (low high : ℕ) → low < 2 ^ 64 → wide_key (halves low high) ≡ little_endian 8 low ++ little_endian 8 high
a_wide_subkey_is_both_halves = numbers-as-bytes.wide_key_halves

-- past the lower half the upper one rises, and past both they are zero
pub counting_past_a_half : Hold
    ((wide_keys_from (2 ^ 64 - 1) 0 gives (replicate 8 255 ++ replicate 8 0))
    ∷ (wide_keys_from (2 ^ 64 - 1) 1 gives (replicate 8 0 ++ (1 ∷ replicate 7 0)))
    ∷ (wide_keys_from (2 ^ 128 - 1) 0 gives replicate 16 255)
    ∷ (wide_keys_from (2 ^ 128 - 1) 1 gives replicate 16 0)
    ∷ [])
counting_past_a_half = marked.past_a_half

pub below_2_to_the_64_the_subkeys_are_one : (κ : ℕ) → κ < 2 ^ 64 → wide_key κ ≡ counter_key κ
below_2_to_the_64_the_subkeys_are_one = upper-half-zero.keys_agree

-- with the upper half zero the routines of both counters answer and leave the same, wherever those of 64 bits refuse nothing
pub rounds_agree_with_the_upper_half_zero : (square : List ℕ) (count counter : ℕ) (salt : List ℕ)
    → rounds_refusal (length square) count counter (length salt) ≡ 0
    → (rounds_wide_refusal (length square) count (length salt) ≡ 0)
    × (rounds_wide_leave square count (halves counter 0) salt ≡ rounds_leave square count counter salt)
    × (rounds_back_wide_leave square count (halves counter 0) salt ≡ rounds_back_leave square count counter salt)
rounds_agree_with_the_upper_half_zero = upper-half-zero.rounds_agree_with_the_upper_half_zero

pub compression_agrees_with_the_upper_half_zero : (mode : Mode) (chaining block : List ℕ) (counter : ℕ) (salt : List ℕ)
    → compress_refusal mode (length chaining) (length block) counter (length salt) ≡ 0
    → (compress_wide_refusal mode (length chaining) (length block) (length salt) ≡ 0)
    × (compress_wide_leaves mode chaining block (halves counter 0) salt ≡ compress_leaves mode chaining block counter salt)
compression_agrees_with_the_upper_half_zero = upper-half-zero.compression_agrees_with_the_upper_half_zero

-- every starting counter, the wrap within a run included: different squares go to different squares, every square is reached, and backward and
-- forward undo each other
pub nothing_is_lost_from_any_wide_counter : (n start : ℕ) (salt : List ℕ)
    → Bytes 16 salt
    → ((s t : List ℕ) → Bytes 256 s → Bytes 256 t → rounds n (wide_keys_from start) salt s ≡ rounds n (wide_keys_from start) salt t → s ≡ t)
    × ((t : List ℕ) → Bytes 256 t → (s : List ℕ) × Bytes 256 s × (rounds n (wide_keys_from start) salt s ≡ t))
    × ((s : List ℕ) → Bytes 256 s → rounds_back n (wide_keys_from start) salt (rounds n (wide_keys_from start) salt s) ≡ s)
    × ((s : List ℕ) → Bytes 256 s → rounds n (wide_keys_from start) salt (rounds_back n (wide_keys_from start) salt s) ≡ s)
nothing_is_lost_from_any_wide_counter n start salt L =
    let key = wide_keys_from start in
    let K = mixing.wide_keys start in (
      mixing.different_squares_go_to_different_squares n key K salt L,
      mixing.every_square_is_reached n key K salt L,
      mixing.backward_undoes_forward n key K salt L,
      mixing.forward_undoes_backward n key K salt L,
    )

pub the_wide_routines_undo_each_other : (square : List ℕ) (count counter : ℕ) (salt : List ℕ)
    → Bytes (length square) square
    → Bytes (length salt) salt
    → (rounds_back_wide_leave (rounds_wide_leave square count counter salt) count counter salt ≡ square)
    × (rounds_wide_leave (rounds_back_wide_leave square count counter salt) count counter salt ≡ square)
the_wide_routines_undo_each_other = mixing.the_wide_routines_undo_each_other

pub compress_wide_leaves_the_folds : (mode : Mode) (chaining block : List ℕ) (counter : ℕ) (salt : List ℕ)
    → compress_wide_refusal mode (length chaining) (length block) (length salt) ≡ 0
    → compress_wide_leaves mode chaining block counter salt
    ≡ xor_bytes (length chaining) (fold (length chaining) (chaining ++ block))
    (fold (length chaining) (rounds (round_count mode (length chaining)) (wide_keys_from counter) salt (chaining ++ block)))
compress_wide_leaves_the_folds mode chaining block counter salt = mixing.compress_wide_leaves_the_folds mode chaining block salt counter

-- ---- the fold in words

pub the_short_fold : (s : List ℕ) (i : ℕ)
    → length s ≡ 256
    → i < 4
    → word (fold 64 s) i ≡ xor_bytes 16 (xor_bytes 16 (xor_bytes 16 (word s i) (word s (i + 4))) (word s (i + 8))) (word s (i + 12))
the_short_fold s i l = folded.fold_short s l i

pub the_long_fold : (s : List ℕ) (i : ℕ) → length s ≡ 256 → i < 8 → word (fold 128 s) i ≡ xor_bytes 16 (word s i) (word s (i + 8))
the_long_fold s i l = folded.fold_long s l i

-- one more fold, as 5.1 has it: v0 = x0 xor x2 and v1 = x1 xor x3
pub the_single_pipe_fold : (s : List ℕ) (i : ℕ)
    → length s ≡ 256
    → i < 2
    → word (fold 32 s) i ≡ xor_bytes 16 (word (fold 64 s) i) (word (fold 64 s) (i + 2))
the_single_pipe_fold s i l = folded.fold_single s l i

-- ---- section 5 as it is printed

pub section_5_1_is_the_general_compression : (key : ℕ → List ℕ) (salt chaining block : List ℕ)
    → length chaining ≡ 32
    → length block ≡ 224
    → compress 32 8 key salt chaining block ≡ compress51 key salt chaining block
section_5_1_is_the_general_compression = single-pipe.as_printed_51

pub section_5_2_is_the_general_compression : (key : ℕ → List ℕ) (salt chaining block : List ℕ)
    → length chaining ≡ 64
    → length block ≡ 192
    → compress 64 10 key salt chaining block ≡ compress52 key salt chaining block
section_5_2_is_the_general_compression = single-pipe.as_printed_52

-- what the routine leaves in single-pipe
pub compress_leaves_section_5_1 : (chaining block : List ℕ) (counter : ℕ) (salt : List ℕ)
    → compress_refusal SinglePipe (length chaining) (length block) counter (length salt) ≡ 0
    → length chaining ≡ 32
    → compress_leaves SinglePipe chaining block counter salt ≡ compress51 (keys_from counter) salt chaining block
compress_leaves_section_5_1 = mixing.compress_leaves_section_5_1

pub compress_leaves_section_5_2 : (chaining block : List ℕ) (counter : ℕ) (salt : List ℕ)
    → compress_refusal SinglePipe (length chaining) (length block) counter (length salt) ≡ 0
    → length chaining ≡ 64
    → compress_leaves SinglePipe chaining block counter salt ≡ compress52 (keys_from counter) salt chaining block
compress_leaves_section_5_2 = mixing.compress_leaves_section_5_2

-- ---- the sizes in numbers: chaining variable, block and rounds, up to 256 bits and above; and the longest message of one block with its successor
pub the_sizes_of_both_modes : Hold
    (((mode_number DoublePipe ∷ mode_number SinglePipe ∷ []) gives (0 ∷ 1 ∷ []))
    ∷ ((chaining_size DoublePipe 256 ∷ block_size DoublePipe 256 ∷ round_count DoublePipe (chaining_size DoublePipe 256) ∷ []) gives (64 ∷ 192 ∷ 8 ∷ []))
    ∷ ((chaining_size DoublePipe 257 ∷ block_size DoublePipe 257 ∷ round_count DoublePipe (chaining_size DoublePipe 257) ∷ []) gives (128 ∷ 128 ∷ 10 ∷ []))
    ∷ ((chaining_size SinglePipe 256 ∷ block_size SinglePipe 256 ∷ round_count SinglePipe (chaining_size SinglePipe 256) ∷ []) gives (32 ∷ 224 ∷ 8 ∷ []))
    ∷ ((chaining_size SinglePipe 257 ∷ block_size SinglePipe 257 ∷ round_count SinglePipe (chaining_size SinglePipe 257) ∷ []) gives (64 ∷ 192 ∷ 10 ∷ []))
    ∷ ((block_count (8 * block_size SinglePipe 256) (8 * 205) ∷ block_count (8 * block_size SinglePipe 256) (8 * 206) ∷ []) gives (1 ∷ 2 ∷ []))
    ∷ ((block_count (8 * block_size SinglePipe 512) (8 * 173) ∷ block_count (8 * block_size SinglePipe 512) (8 * 174) ∷ []) gives (1 ∷ 2 ∷ []))
    ∷ [])
the_sizes_of_both_modes = marked.sizes_of_both_modes
