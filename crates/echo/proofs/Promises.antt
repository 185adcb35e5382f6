-- What the crates above may cite of this one, besides its specs, its contracts and its theorems (Theorems.antt): each promise is in the words of specs/,
-- and its proof is a law of this crate. Assumes nothing.
use Rattle.std.proofs.Common.{◌≡◌, ℕ, ◌+◌, ◌*◌, ◌/◌, ◌%◌, ◌<◌, ◌≤◌, Bool, true, not, ◌&&◌, ltb, List, [], ◌∷◌, ◌++◌, Result, Err, length, drop, sym}
use Rattle.std.specs.Prelude.{IsErrAnd}
use Rattle.echo.specs.declared.mode.Mode.{Mode}
use Rattle.echo.specs.declared.mode.Mode.TheVariants.{DoublePipe}
use Rattle.echo.specs.declared.refusal.Refusal.{Refusal}
use Rattle.echo.specs.declared.session.Refused.{Refused}
use Rattle.echo.specs.Answers.{Answer, answer_of, number_of, refusal_of}
use Rattle.echo.specs.declared.session.Session.{Session}
use Rattle.echo.specs.Digest.{digest_of}
use Rattle.echo.specs.Families.{block_size, sizes_fit}
use Rattle.echo.specs.Pieces.{joined}
use Rattle.echo.specs.Placed.{Placed}
use Rattle.echo.specs.Refusals.{◌when◌, counter_too_high, first_of, no_salt, unless}
use Rattle.echo.specs.Routines.{compress_refusal, compress_wide_refusal}
use Rattle.echo.specs.Session.{add_answer, add_bytes, admitted, bit_limit, blank, digest_bits_refusal, digest_refusal, is_session, limit, open_answer, opened}
use Rattle.echo.specs.Session.{other_size, read_answer, read_leaves, session_digest, set_below}
use Rattle.echo.proofs.Laws.Answers as answers
use Rattle.echo.proofs.Laws.Continued as continued
use Rattle.echo.proofs.Laws.Families as families
use Rattle.echo.proofs.Laws.Kept as kept-by-adding
use Rattle.echo.proofs.Laws.Opened as opening
use Rattle.echo.proofs.Laws.Pieces as pieces
use Rattle.echo.proofs.Laws.Placed as placed
use Rattle.echo.proofs.Laws.Refusals as refusals
use Rattle.echo.proofs.Laws.Sessions as sessions
use Rattle.echo.proofs.Laws.Zeros as zeros

-- ---- lengths and sizes

pub admitted_256 : admitted 256 ≡ true
admitted_256 = pieces.admitted_256

-- the blocks of double-pipe in bytes
pub double_block : (h : ℕ) → (128 ≤ block_size DoublePipe h) × (block_size DoublePipe h ≤ 192)
double_block = families.double_block

pub block_short : (h : ℕ) → h ≤ 256 → 192 ≡ block_size DoublePipe h
block_short = families.block_short

pub block_long : (h : ℕ) → 256 < h → 128 ≡ block_size DoublePipe h
block_long = families.block_long

-- too many bits are those whose whole bytes are too many
pub too_many : (count : ℕ) → ltb bit_limit count ≡ ltb limit (count / 8)
too_many = refusals.too_many

-- ---- what pieces join to

pub joined_none : joined [] ≡ []
joined_none = pieces.joined_none

pub joined_more : (piece : List ℕ) (pieces : List (List ℕ)) → joined (piece ∷ pieces) ≡ piece ++ joined pieces
joined_more = pieces.joined_more

pub joined_lengths : (xs ys : List (List ℕ)) → length (joined (xs ++ ys)) ≡ length (joined xs) + length (joined ys)
joined_lengths = pieces.joined_lengths

-- w at the front of a room of which the rest is as it was
pub placed_front : (room w r : List ℕ) (n : ℕ) → length w ≡ n → n ≤ length room → Placed room 0 w n r → r ≡ w ++ drop n room
placed_front = placed.placed_front

-- ---- tests

-- a test that came out true came through each of its parts
pub both : (a b : Bool) → (a && b) ≡ true → (a ≡ true) × (b ≡ true)
both = zeros.both

-- ---- what is left behind where nothing is refused, and where something is

pub done : {A : Type 0} (n : ℕ) (a b : A) → n ≡ 0 → unless n a b ≡ a
done = refusals.done

pub kept : {A : Type 0} (n : ℕ) (a b : A) → (n ≡ 0 → ⊥) → unless n a b ≡ b
kept n a b some = sym (refusals.kept n a b some)

-- ---- an answer is known by its numbers

-- a refusal is never 0
pub some : (p : Refusal) → number_of p ≡ 0 → ⊥
some = answers.some

pub one_number : (p q : Refusal) → number_of p ≡ number_of q → p ≡ q
one_number = answers.one_number

-- where there is one value besides a refusal
pub one_refusal : {A : Type 0} → ((a b : A) → a ≡ b) → (r s : Result A Refusal) → refusal_of r ≡ refusal_of s → r ≡ s
one_refusal = answers.one_refusal

pub one_answer : (r s : Result Session Refused) → answer_of r ≡ answer_of s → r ≡ s
one_answer = answers.one_answer

-- of a refusal that becomes x on its way, `?` hands x on
pub handed_on : {B T E : Type 0} (r : Result T E) (x : E) → B × IsErrAnd r (λ e. e ≡ x) → r ≡ Err x
handed_on = answers.handed_on

-- ---- the refusals in order

pub opening_number : (mode : Mode) (h : ℕ) (salt : List ℕ)
    → (open_answer mode h salt).refusal ≡ first_of ((1 when not (admitted h)) ∷ (2 when no_salt (length salt)) ∷ [])
opening_number = pieces.opening_number

-- the digest at once, of whole bytes and of bits
pub digest_number : (bits salt message room : ℕ)
    → digest_refusal bits salt message room
    ≡ first_of ((1 when not (admitted bits)) ∷ (2 when no_salt salt) ∷ (4 when ltb limit message) ∷ (5 when ltb room (bits / 8)) ∷ [])
digest_number = refusals.digest_number

pub digest_bits_number : (bits salt : ℕ) (message : List ℕ) (count room : ℕ)
    → digest_bits_refusal bits salt message count room
    ≡ first_of
    ((1 when not (admitted bits))
    ∷ (2 when no_salt salt)
    ∷ (4 when ltb bit_limit count)
    ∷ (5 when ltb room (bits / 8))
    ∷ (6 when other_size (length message) count)
    ∷ (17 when set_below message count)
    ∷ [])
digest_bits_number = refusals.digest_bits_number

pub compress_number : (mode : Mode) (chaining block counter salt : ℕ)
    → compress_refusal mode chaining block counter salt
    ≡ first_of ((2 when no_salt salt) ∷ (6 when not (sizes_fit mode chaining block)) ∷ (7 when counter_too_high counter) ∷ [])
compress_number = refusals.compress_number

pub compress_wide_number : (mode : Mode) (chaining block salt : ℕ)
    → compress_wide_refusal mode chaining block salt ≡ first_of ((2 when no_salt salt) ∷ (6 when not (sizes_fit mode chaining block)) ∷ [])
compress_wide_number = refusals.compress_wide_number

-- ---- an opening, and the session that it hands out

-- no digest has 0 bits: such an opening hands the blank session out
pub no_digest_of_0_bits : (mode : Mode) (salt : List ℕ) → (open_answer mode 0 salt).session ≡ blank
no_digest_of_0_bits = pieces.no_digest_of_0_bits

module _ (mode : Mode) (h : ℕ) (salt : List ℕ) where
  pub opens : admitted h ≡ true → length salt ≡ 16 → ◌≡◌ {A = Answer} (open_answer mode h salt) (record { refusal = 0; session = opened mode h salt })
  opens = pieces.opens mode h salt

  pub opened_is_session : admitted h ≡ true → is_session (opened mode h salt) ≡ true
  opened_is_session = opening.opened_is_session mode h salt

  pub opened_mode : (opened mode h salt).mode ≡ mode
  opened_mode = opening.opened_mode mode h salt

  pub opened_bits : (opened mode h salt).bits ≡ h
  opened_bits = opening.opened_bits mode h salt

  -- it has taken nothing
  pub opened_taken : (opened mode h salt).taken ≡ 0
  opened_taken = opening.opened_taken mode h salt

  -- of the bytes added to it, what is read is the digest
  pub opened_digest : (m : List ℕ) → session_digest (add_bytes (opened mode h salt) m) ≡ digest_of mode h salt m
  opened_digest = opening.opened_digest mode h salt

-- ---- adding whole bytes, to any session

pub add_nothing : (s : Session) → add_bytes s [] ≡ s
add_nothing = opening.add_nothing

pub add_pieces : (s : Session) (xs ys : List ℕ) → add_bytes (add_bytes s xs) ys ≡ add_bytes s (xs ++ ys)
add_pieces = opening.add_pieces

pub add_keeps : (s : Session) (xs : List ℕ) → ((add_bytes s xs).bits ≡ s.bits) × ((add_bytes s xs).salt ≡ s.salt) × ((add_bytes s xs).mode ≡ s.mode)
add_keeps = kept-by-adding.add_keeps

pub add_counts : (s : Session) (xs : List ℕ) → (add_bytes s xs).taken ≡ s.taken + 8 * length xs
add_counts = kept-by-adding.add_counts

-- behind whole bytes, and within the limit
pub add_is_session : (s : Session) (xs : List ℕ) → is_session s ≡ true → s.taken % 8 ≡ 0 → s.taken + 8 * length xs ≤ bit_limit
    → is_session (add_bytes s xs) ≡ true
add_is_session = kept-by-adding.add_is_session

module _ (s : Session) (piece : List ℕ) (is : is_session s ≡ true) where
  pub takes_bytes : s.taken % 8 ≡ 0 → s.taken + 8 * length piece ≤ bit_limit
      → ◌≡◌ {A = Answer} (add_answer s piece) (record { refusal = 0; session = add_bytes s piece })
  takes_bytes = pieces.takes_bytes s piece is

  pub refuses_bytes : bit_limit < s.taken + 8 * length piece → ◌≡◌ {A = Answer} (add_answer s piece) (record { refusal = 4; session = s })
  refuses_bytes = pieces.refuses_bytes s piece is

-- ---- reading any session

pub session_admits : (s : Session) → is_session s ≡ true → admitted s.bits ≡ true
session_admits = sessions.session_admits

-- into room enough, and into less
module _ (s : Session) (room : List ℕ) (is : is_session s ≡ true) where
  pub reads_room : s.bits / 8 ≤ length room
      → (◌≡◌ {A = Answer} (read_answer s (length room)) (record { refusal = 0; session = s }))
      × (read_leaves s room ≡ session_digest s ++ drop (s.bits / 8) room)
  reads_room = pieces.reads_room s room is

  pub refuses_room : length room < s.bits / 8
      → (◌≡◌ {A = Answer} (read_answer s (length room)) (record { refusal = 5; session = s })) × (read_leaves s room ≡ room)
  refuses_room = pieces.refuses_room s room is

-- a digest that was read fits its room
pub read_fits : (s : Session) (room : ℕ) → (read_answer s room).refusal ≡ 0 → s.bits / 8 ≤ room
read_fits = refusals.read_fits

-- ---- how long digests are

pub session_digest_long : (s : Session) → s.bits ≤ 512 → length (session_digest s) ≡ s.bits / 8
session_digest_long = continued.session_digest_long

pub digest_long : (mode : Mode) (h : ℕ) (salt : List ℕ) → admitted h ≡ true → (m : List ℕ) → length (digest_of mode h salt m) ≡ h / 8
digest_long = pieces.digest_long
