-- The theorems of this crate that the pages quote, each closed: what it assumes stands in its statement. Assumes nothing.
use mathlib.Core.Path.{◌≡◌, refl, ap, ◌∙◌}
use mathlib.Core.Bool.{false, not, true}
use mathlib.Core.Logic.{◌↔◌}
use mathlib.Core.List.{List, [], ◌∷◌, ◌++◌}
use Prim.Native.Nat.{ℕ, suc, ◌+◌, ◌*◌, ◌-◌, ◌/◌, ◌%◌, ◌<◌, ◌≤◌}
use lib.Dec.{ltb}
use lib.ListN.{drop, length, replicate, take}
use Rattle.echo.specs.declared.mode.Mode.TheVariants.{DoublePipe}
use Rattle.echo.specs.Bits.{bits_of, packed}
use Rattle.echo.specs.Compression.{compress}
use Rattle.echo.specs.Digest.{block, block_count, counter_at, iterate}
use Rattle.echo.specs.Families.{chaining_size, round_count}
use Rattle.echo.specs.Padding.{padding}
use Rattle.echo.specs.Pieces.{joined}
use Rattle.echo.specs.Refusals.{Lowest, ◌when◌, no_salt}
use Rattle.echo.specs.Session.{add_bytes, admitted, bit_limit, is_session, limit, session_digest}
use Rattle.echo.specs.Square.{keys_from}
use Rattle.echo.proofs.Theorems as echo
use Rattle.hmac.specs.declared.tag_session.TagSession.{TagSession}
use Rattle.hmac.specs.DoublePipe.{block_size, digest_of}
use Rattle.hmac.specs.Hmac.{key_block, tag_of}
use Rattle.hmac.specs.Routines.{check_answer, check_refusal, make_leaves, make_refusal, too_long, verify_refusal}
use Rattle.hmac.specs.Same.{same}
use Rattle.hmac.specs.TagPieces.{add_all_tag}
use Rattle.hmac.specs.TagSession.{
  add_tag_answer,
  add_tag_bytes,
  add_tag_refusal,
  blank_tag,
  check_tag_answer,
  check_tag_refusal,
  is_tag_session,
  open_tag_answer,
  open_tag_refusal,
  opened_tag,
  read_tag_answer,
  read_tag_leaves,
  read_tag_refusal,
}
use Rattle.hmac.proofs.ARefusalChangesNothing as refusing
use Rattle.hmac.proofs.Laws.Iterated as iterated
use Rattle.hmac.proofs.TheTag as tag

-- ---- a refusal, whose number is k + 1, changes nothing

pub a_refused_tag_opening_is_blank : (k h : ℕ) (salt key : List ℕ)
    → open_tag_refusal h (length salt) (length key) ≡ suc k
    → (open_tag_answer h salt key).session ≡ blank_tag
a_refused_tag_opening_is_blank = refusing.a_refused_opening_is_blank

pub the_blank_record_is_no_tag_session : is_tag_session blank_tag ≡ false
the_blank_record_is_no_tag_session = refusing.the_blank_record_is_none

pub a_refused_piece_of_a_tag_changes_nothing : (k : ℕ) (t : TagSession) (piece : List ℕ)
    → add_tag_refusal t (length piece) ≡ suc k
    → (add_tag_answer t piece).session ≡ t
a_refused_piece_of_a_tag_changes_nothing = refusing.a_refused_piece_changes_nothing

pub a_refused_tag_leaves_the_room : (k : ℕ) (t : TagSession) (room : List ℕ) → read_tag_refusal t (length room) ≡ suc k → read_tag_leaves t room ≡ room
a_refused_tag_leaves_the_room = refusing.a_refused_reading_leaves_the_room

pub reading_a_tag_changes_nothing : (t : TagSession) (room : ℕ) → (read_tag_answer t room).session ≡ t
reading_a_tag_changes_nothing = refusing.reading_changes_nothing

pub checking_a_tag_changes_nothing : (t : TagSession) (tag : List ℕ) → (check_tag_answer t tag).session ≡ t
checking_a_tag_changes_nothing = refusing.checking_changes_nothing

pub a_refused_check_says_no : (k : ℕ) (t : TagSession) (tag : List ℕ) → check_tag_refusal t ≡ suc k → (check_tag_answer t tag).yes ≡ false
a_refused_check_says_no = refusing.a_refused_check_says_no

pub a_refused_tag_at_once_leaves_the_room : (k h : ℕ) (salt key message room : List ℕ)
    → make_refusal h (length salt) (length key) (length message) (length room) ≡ suc k
    → make_leaves h salt key message room ≡ room
a_refused_tag_at_once_leaves_the_room = refusing.a_refused_making_leaves_the_room

pub a_refused_check_at_once_says_no : (k h : ℕ) (salt key message tag : List ℕ)
    → check_refusal h (length salt) (length key) (length message) ≡ suc k
    → (check_answer h salt key message tag).yes ≡ false
a_refused_check_at_once_says_no = refusing.a_refused_check_at_once_says_no

-- ---- of the refusals that apply the lowest is given

pub a_tag_opening_is_refused_by_the_lowest : (h saltLength keyLength : ℕ)
    → Lowest (open_tag_refusal h saltLength keyLength)
    ((1 when not (admitted h)) ∷ (2 when no_salt saltLength) ∷ (4 when ltb limit keyLength) ∷ [])
unfolding open_tag_refusal
a_tag_opening_is_refused_by_the_lowest h saltLength keyLength = echo.the_first_of_a_list_that_ascends_is_the_lowest _ refl

pub a_piece_of_a_tag_is_refused_by_the_lowest : (t : TagSession) (pieceLength : ℕ)
    → Lowest (add_tag_refusal t pieceLength)
    ((3 when not (is_tag_session t)) ∷ (4 when ltb bit_limit (t.inner.taken + 8 * pieceLength)) ∷ [])
unfolding add_tag_refusal
a_piece_of_a_tag_is_refused_by_the_lowest t pieceLength = echo.the_first_of_a_list_that_ascends_is_the_lowest _ refl

pub reading_a_tag_is_refused_by_the_lowest : (t : TagSession) (room : ℕ)
    → Lowest (read_tag_refusal t room) ((3 when not (is_tag_session t)) ∷ (5 when ltb room (t.outer.bits / 8)) ∷ [])
unfolding read_tag_refusal
reading_a_tag_is_refused_by_the_lowest t room = echo.the_first_of_a_list_that_ascends_is_the_lowest _ refl

pub checking_a_tag_is_refused_by_the_lowest : (t : TagSession) → Lowest (check_tag_refusal t) ((3 when not (is_tag_session t)) ∷ [])
unfolding check_tag_refusal
checking_a_tag_is_refused_by_the_lowest t = echo.the_first_of_a_list_that_ascends_is_the_lowest _ refl

pub a_tag_at_once_is_refused_by_the_lowest : (h saltLength keyLength messageLength room : ℕ)
    → Lowest (make_refusal h saltLength keyLength messageLength room)
    ((1 when not (admitted h))
    ∷ (2 when no_salt saltLength)
    ∷ (4 when too_long h keyLength messageLength)
    ∷ (5 when ltb room (h / 8))
    ∷ [])
unfolding make_refusal
a_tag_at_once_is_refused_by_the_lowest h saltLength keyLength messageLength room = echo.the_first_of_a_list_that_ascends_is_the_lowest _ refl

pub a_check_at_once_is_refused_by_the_lowest : (h saltLength keyLength messageLength : ℕ)
    → Lowest (check_refusal h saltLength keyLength messageLength)
    ((1 when not (admitted h)) ∷ (2 when no_salt saltLength) ∷ (4 when too_long h keyLength messageLength) ∷ [])
unfolding check_refusal
a_check_at_once_is_refused_by_the_lowest h saltLength keyLength messageLength = echo.the_first_of_a_list_that_ascends_is_the_lowest _ refl

pub verifying_is_refused_by_the_lowest : (h : ℕ) (salt key message tag : List ℕ)
    → Lowest (verify_refusal h salt key message tag)
    ((1 when not (admitted h))
    ∷ (2 when no_salt (length salt))
    ∷ (4 when too_long h (length key) (length message))
    ∷ (19 when not (same (tag_of h salt key message) tag))
    ∷ [])
unfolding verify_refusal
verifying_is_refused_by_the_lowest h salt key message tag = echo.the_first_of_a_list_that_ascends_is_the_lowest _ refl

-- ---- the tag is the standard's

pub however_cut_the_tag_is_the_standards : (h : ℕ) (salt key : List ℕ) (pieces : List (List ℕ)) (room : List ℕ)
    → admitted h ≡ true
    → length salt ≡ 16
    → length key ≤ limit
    → block_size h + length (joined pieces) ≤ limit
    → h / 8 ≤ length room
    → ((read_tag_answer (add_all_tag (open_tag_answer h salt key).session pieces) (length room)).refusal ≡ 0)
    × (read_tag_leaves (add_all_tag (open_tag_answer h salt key).session pieces) room ≡ tag_of h salt key (joined pieces) ++ drop (h / 8) room)
however_cut_the_tag_is_the_standards h salt key pieces room a l k f = tag.however_cut_the_tag_is_the_standards h salt key a l k pieces f room

pub however_cut_a_check_says_yes_exactly_for_the_tag : (h : ℕ) (salt key : List ℕ) (pieces : List (List ℕ)) (tag : List ℕ)
    → admitted h ≡ true
    → length salt ≡ 16
    → length key ≤ limit
    → block_size h + length (joined pieces) ≤ limit
    → ((check_tag_answer (add_all_tag (open_tag_answer h salt key).session pieces) tag).refusal ≡ 0)
    × (((check_tag_answer (add_all_tag (open_tag_answer h salt key).session pieces) tag).yes ≡ true) ↔ (tag ≡ tag_of h salt key (joined pieces)))
however_cut_a_check_says_yes_exactly_for_the_tag h salt key pieces x a l k f = tag.however_cut_a_check_says_yes_exactly_for_the_tag h salt key a l k pieces f x

pub every_piece_of_a_tag_is_taken : (h : ℕ) (salt key : List ℕ) (before : List (List ℕ)) (piece : List ℕ) (after : List (List ℕ))
    → admitted h ≡ true
    → length salt ≡ 16
    → length key ≤ limit
    → block_size h + length (joined (before ++ piece ∷ after)) ≤ limit
    → (add_tag_answer (add_all_tag (open_tag_answer h salt key).session before) piece).refusal ≡ 0
every_piece_of_a_tag_is_taken h salt key before piece after a l k f = tag.every_piece_is_taken h salt key a l k before piece after f

pub a_tag_opening_is_taken : (h : ℕ) (salt key : List ℕ)
    → admitted h ≡ true
    → length salt ≡ 16
    → length key ≤ limit
    → open_tag_answer h salt key ≡ record { refusal = 0; session = opened_tag h salt key }
a_tag_opening_is_taken = tag.an_opening_opens

pub a_piece_of_a_tag_is_joined : (h : ℕ) (salt key m piece : List ℕ)
    → admitted h ≡ true
    → length salt ≡ 16
    → length key ≤ limit
    → block_size h + length (m ++ piece) ≤ limit
    → add_tag_answer (add_tag_bytes (opened_tag h salt key) m) piece ≡ record { refusal = 0; session = add_tag_bytes (opened_tag h salt key) (m ++ piece) }
a_piece_of_a_tag_is_joined h salt key m piece a l k f = tag.a_piece_is_joined h salt key a l k m piece f

pub an_empty_piece_of_a_tag_changes_nothing : (t : TagSession) → (add_tag_answer t []).session ≡ t
an_empty_piece_of_a_tag_changes_nothing = tag.an_empty_piece_changes_nothing

pub at_once_is_the_tag : (h : ℕ) (salt key message room : List ℕ)
    → admitted h ≡ true
    → length salt ≡ 16
    → length key ≤ limit
    → block_size h + length message ≤ limit
    → h / 8 ≤ length room
    → (make_refusal h (length salt) (length key) (length message) (length room) ≡ 0)
    × (make_leaves h salt key message room ≡ tag_of h salt key message ++ drop (h / 8) room)
at_once_is_the_tag h salt key message room a l k f = tag.at_once_is_the_tag h salt key a l k message f room

pub at_once_a_check_says_yes_exactly_for_the_tag : (h : ℕ) (salt key message tag : List ℕ)
    → admitted h ≡ true
    → length salt ≡ 16
    → length key ≤ limit
    → block_size h + length message ≤ limit
    → ((check_answer h salt key message tag).refusal ≡ 0)
    × (((check_answer h salt key message tag).yes ≡ true) ↔ (tag ≡ tag_of h salt key message))
at_once_a_check_says_yes_exactly_for_the_tag h salt key message x a l k f = tag.at_once_a_check_says_yes_exactly_for_the_tag h salt key a l k message f x

-- ---- verifying

pub a_tag_is_verified_exactly_where_a_check_says_yes : (h : ℕ) (salt key message tag : List ℕ)
    → (verify_refusal h salt key message tag ≡ 0) ↔ ((check_answer h salt key message tag).yes ≡ true)
a_tag_is_verified_exactly_where_a_check_says_yes = tag.verified_exactly_where_a_check_says_yes

-- the check's refusal, whose number is k + 1, is that of verifying
pub what_a_check_refuses_is_not_verified : (k h : ℕ) (salt key message tag : List ℕ)
    → (check_answer h salt key message tag).refusal ≡ suc k
    → verify_refusal h salt key message tag ≡ suc k
what_a_check_refuses_is_not_verified k h salt key message x e = tag.a_refused_check_is_not_verified h salt key message x k e

pub any_other_tag_is_refused_by_19 : (h : ℕ) (salt key message tag : List ℕ)
    → (check_answer h salt key message tag).refusal ≡ 0
    → (check_answer h salt key message tag).yes ≡ false
    → verify_refusal h salt key message tag ≡ 19
any_other_tag_is_refused_by_19 = tag.any_other_tag_is_19

-- ---- keys

pub keys_with_one_block_have_the_same_tags : (h : ℕ) (salt key key' text : List ℕ)
    → key_block (digest_of h salt) (block_size h) key ≡ key_block (digest_of h salt) (block_size h) key'
    → tag_of h salt key text ≡ tag_of h salt key' text
keys_with_one_block_have_the_same_tags = tag.keys_with_one_block_have_the_same_tags

pub zeros_behind_a_key_change_nothing : (h : ℕ) (salt key : List ℕ) (n : ℕ)
    → length key + n ≤ block_size h
    → key_block (digest_of h salt) (block_size h) (key ++ replicate n 0) ≡ key_block (digest_of h salt) (block_size h) key
zeros_behind_a_key_change_nothing = tag.zeros_behind_a_key_change_nothing

pub a_long_key_is_its_digest : (h : ℕ) (salt key : List ℕ)
    → admitted h ≡ true
    → block_size h < length key
    → key_block (digest_of h salt) (block_size h) (digest_of h salt key) ≡ key_block (digest_of h salt) (block_size h) key
a_long_key_is_its_digest = tag.a_long_key_is_its_digest

pub keys_of_one_length_have_different_blocks : (h : ℕ) (salt key key' : List ℕ)
    → length key ≡ length key'
    → length key ≤ block_size h
    → key_block (digest_of h salt) (block_size h) key ≡ key_block (digest_of h salt) (block_size h) key'
    → key ≡ key'
keys_of_one_length_have_different_blocks = tag.keys_of_one_length_have_different_blocks

-- K0 is one block
pub the_key_block_is_a_block : (h : ℕ) (salt key : List ℕ)
    → admitted h ≡ true
    → length (key_block (digest_of h salt) (block_size h) key) ≡ block_size h
the_key_block_is_a_block = tag.the_key_block_is_a_block

-- ---- any record

pub tag_sessions_exactly : (t : TagSession)
    → (is_tag_session t ≡ true)
    ↔ ((is_session t.inner ≡ true)
    × (is_session t.outer ≡ true)
    × (t.inner.mode ≡ DoublePipe)
    × (t.outer.mode ≡ DoublePipe)
    × (t.inner.bits ≡ t.outer.bits)
    × (t.inner.salt ≡ t.outer.salt)
    × (t.outer.taken ≡ 8 * block_size t.outer.bits)
    × (8 * block_size t.outer.bits ≤ t.inner.taken)
    × (t.inner.taken % 8 ≡ 0))
tag_sessions_exactly = tag.tag_sessions_exactly

-- any record that is a tag session, whether an opening made it or not
pub every_tag_session_is_answered_by_its_two_sessions : (t : TagSession) (piece room : List ℕ)
    → is_tag_session t ≡ true
    → t.inner.taken + 8 * length piece ≤ bit_limit
    → t.outer.bits / 8 ≤ length room
    → ((add_tag_answer t piece).refusal ≡ 0)
    × (is_tag_session (add_tag_answer t piece).session ≡ true)
    × ((read_tag_answer (add_tag_answer t piece).session (length room)).refusal ≡ 0)
    × (read_tag_leaves (add_tag_answer t piece).session room
    ≡ session_digest (add_bytes t.outer (session_digest (add_bytes t.inner piece))) ++ drop (t.outer.bits / 8) room)
every_tag_session_is_answered_by_its_two_sessions t piece room is f = tag.every_tag_session_is_answered_by_its_two_sessions t is piece f room

-- the same in the paper's iteration. The inner session, of n bits, is continued over its waiting bits, the piece and the padding; the outer one, which has
-- taken one block, over the bits of the inner digest and the padding. `chaining` and `waiting` are arrays of these lengths
pub every_tag_session_continues_the_iteration : (t : TagSession) (piece room : List ℕ)
    → is_tag_session t ≡ true
    → length t.inner.chaining ≡ 128
    → length t.inner.waiting ≡ 224
    → length t.outer.chaining ≡ 128
    → length t.outer.waiting ≡ 224
    → t.inner.taken + 8 * length piece ≤ bit_limit
    → t.outer.bits / 8 ≤ length room
    → let h = t.outer.bits in
    let salt = t.outer.salt in
    let c = chaining_size DoublePipe h in
    let r = round_count DoublePipe c in
    let b = block_size h in
    let msize = 8 * b in
    let n = t.inner.taken in
    let L = n + 8 * length piece in
    let inner =
    take (h / 8)
    (iterate c r salt
    (take c t.inner.chaining)
    (block b (packed (take (n % msize) (bits_of t.inner.waiting) ++ (bits_of piece ++ padding msize h L))))
    (λ i. counter_at msize L (n / msize + i))
    (block_count msize L - n / msize)) in
    read_tag_leaves (add_tag_answer t piece).session room
    ≡ take (h / 8)
    (iterate c r salt
    (take c t.outer.chaining)
    (block b (packed (bits_of inner ++ padding msize h (msize + h))))
    (λ i. counter_at msize (msize + h) (1 + i))
    (block_count msize (msize + h) - 1))
    ++ drop (h / 8) room
every_tag_session_continues_the_iteration t piece room is ic iw oc ow f r =
    (tag.every_tag_session_is_answered_by_its_two_sessions t is piece f room r).3
    ∙ ap (λ (l : List ℕ). l ++ drop (t.outer.bits / 8) room) (iterated.tag_continues t piece is f ic iw oc ow)

-- that outer iteration, from any chaining value and over any digest of h bits, is one compression, whose counter is the length of the outer message
pub the_outer_iteration_is_one_compression : (h : ℕ) (salt v digest : List ℕ)
    → admitted h ≡ true
    → length digest ≡ h / 8
    → let c = chaining_size DoublePipe h in
    let r = round_count DoublePipe c in
    let b = block_size h in
    let msize = 8 * b in
    let padded = packed (bits_of digest ++ padding msize h (msize + h)) in
    iterate c r salt v (block b padded) (λ i. counter_at msize (msize + h) (1 + i)) (block_count msize (msize + h) - 1)
    ≡ compress c r (keys_from (msize + h)) salt v padded
the_outer_iteration_is_one_compression = iterated.one_compression
