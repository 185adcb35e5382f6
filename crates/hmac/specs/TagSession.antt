-- Tag sessions: which records are one, and what opening, adding, reading and checking answer. Assumes nothing.
use Rattle.std.specs.Prelude.{Bool, false, not, ◌&&◌, List, [], ◌∷◌, ◌++◌, ℕ, ◌+◌, ◌*◌, ◌/◌, ◌%◌, eqb, leb, ltb, drop, length}
use Rattle.aes_round.specs.Bytes.{xor_bytes}
use Rattle.echo.specs.declared.session.Session.{Session}
use Rattle.echo.specs.Refusals.{◌when◌, first_of, no_salt, unless}
use Rattle.echo.specs.Session.{add_bytes, admitted, bit_limit, blank, is_session, limit, session_digest}
use Rattle.hmac.specs.Answers.{Checking}
use Rattle.hmac.specs.Answers.{TagAnswer}
use Rattle.hmac.specs.declared.tag_session.TagSession.{TagSession}
use Rattle.hmac.specs.DoublePipe.{block_size, digest_of, is_double_pipe, opened}
use Rattle.hmac.specs.Hmac.{ipad, key_block, opad}
use Rattle.hmac.specs.Same.{same}

-- the outer session has the bits of one block, and the inner one at least those, in whole bytes
abbrev pub counts_fit : ℕ → ℕ → ℕ → Bool
counts_fit inner outer h = eqb outer (8 * block_size h) && (leb (8 * block_size h) inner && eqb (inner % 8) 0)

-- two digest sessions in double-pipe of one h and salt
unfoldable pub is_tag_session : TagSession → Bool
is_tag_session t =
    is_session t.inner
    && (is_session t.outer
    && (is_double_pipe t.inner.mode
    && (is_double_pipe t.outer.mode
    && (eqb t.inner.bits t.outer.bits
    && (same t.inner.salt t.outer.salt
    && counts_fit t.inner.taken t.outer.taken t.outer.bits)))))

-- ---- opening

-- two blank sessions, and no tag session
abbrev pub blank_tag : TagSession
blank_tag = record { inner = blank; outer = blank }

-- an opening that is refused by a number, for the contract of a private function
abbrev pub refused_tag : ℕ → TagAnswer
refused_tag number = record { refusal = number; session = blank_tag }

-- an opened digest session to which K0, xored with a pad of one block, was added
abbrev pub keyed_by : ℕ → List ℕ → List ℕ → List ℕ → Session
keyed_by h salt key pad = add_bytes (opened h salt) (xor_bytes (block_size h) (key_block (digest_of h salt) (block_size h) key) pad)

unfoldable pub opened_tag : ℕ → List ℕ → List ℕ → TagSession
opened_tag h salt key = record { inner = keyed_by h salt key (ipad (block_size h)); outer = keyed_by h salt key (opad (block_size h)) }

unfoldable pub open_tag_refusal : ℕ → ℕ → ℕ → ℕ
open_tag_refusal h saltLength keyLength =
    first_of ((1 when not (admitted h)) ∷ (2 when no_salt saltLength) ∷ (4 when ltb limit keyLength) ∷ [])

unfoldable pub open_tag_answer : ℕ → List ℕ → List ℕ → TagAnswer
open_tag_answer h salt key =
    let refusal = open_tag_refusal h (length salt) (length key) in
    record { refusal = refusal; session = unless refusal (opened_tag h salt key) blank_tag }

-- ---- adding

-- a piece goes to the inner session
unfoldable pub add_tag_bytes : TagSession → List ℕ → TagSession
add_tag_bytes t piece = record { inner = add_bytes t.inner piece; outer = t.outer }

-- key block and message together
unfoldable pub add_tag_refusal : TagSession → ℕ → ℕ
add_tag_refusal t pieceLength = first_of ((3 when not (is_tag_session t)) ∷ (4 when ltb bit_limit (t.inner.taken + 8 * pieceLength)) ∷ [])

unfoldable pub add_tag_answer : TagSession → List ℕ → TagAnswer
add_tag_answer t piece =
    let refusal = add_tag_refusal t (length piece) in
    record { refusal = refusal; session = unless refusal (add_tag_bytes t piece) t }

-- ---- reading

-- the outer session with the digest of the inner one
unfoldable pub closed_by : TagSession → Session
closed_by t = add_bytes t.outer (session_digest t.inner)

-- the digest of that, whatever the two sessions hold
unfoldable pub session_tag : TagSession → List ℕ
session_tag t = session_digest (closed_by t)

unfoldable pub read_tag_refusal : TagSession → ℕ → ℕ
read_tag_refusal t room = first_of ((3 when not (is_tag_session t)) ∷ (5 when ltb room (t.outer.bits / 8)) ∷ [])

unfoldable pub read_tag_answer : TagSession → ℕ → TagAnswer
read_tag_answer t room = record { refusal = read_tag_refusal t room; session = t }

-- a tag fills the first h/8 bytes of the room; those behind stay
unfoldable pub read_tag_leaves : TagSession → List ℕ → List ℕ
read_tag_leaves t room = unless (read_tag_refusal t (length room)) (session_tag t ++ drop (t.outer.bits / 8) room) room

-- ---- checking

unfoldable pub check_tag_refusal : TagSession → ℕ
check_tag_refusal t = first_of ((3 when not (is_tag_session t)) ∷ [])

-- yes exactly for the full tag; a refused check says no
unfoldable pub check_tag_answer : TagSession → List ℕ → Checking
check_tag_answer t tag =
    let refusal = check_tag_refusal t in
    record { refusal = refusal; yes = unless refusal (same (session_tag t) tag) false; session = t }
