-- The digest at once, where nothing is refused: an opening, one piece and a reading. Assumes nothing.
use Rattle.std.proofs.Common.{◌≡◌, ℕ, ◌*◌, ◌/◌, ◌^◌, ◌<◌, ◌≤◌, List, [], ◌++◌, Ok, Err, length, take, drop, sym, refl, ap, ◌∙◌, zero-add, arith}
use Rattle.echo.specs.declared.mode.Mode.{Mode}
use Rattle.echo.specs.declared.session.Refused.{Refused}
use Rattle.echo.specs.Answers.{Answer, answer_of}
use Rattle.echo.specs.declared.session.Session.{Session}
use Rattle.echo.specs.Bits.{bits_of}
use Rattle.echo.specs.Digest.{bit_digest_of, digest_of}
use Rattle.echo.specs.Session.{add_answer, add_bits, add_bits_answer, bit_limit, digest_bits_leaves, digest_bits_refusal, digest_leaves, digest_refusal}
use Rattle.echo.specs.Session.{open_answer, opened, read_answer, read_leaves}
use Rattle.echo.proofs.Laws.Answers.{some}
use Rattle.echo.proofs.Laws.Bits.{whole_taken}
use Rattle.echo.proofs.Laws.Opened.{add_nothing}
use Rattle.echo.proofs.Laws.Pieces.{opens, reads_bits, takes_bits}
use Rattle.echo.proofs.Laws.Refusals.{BitsDigestible, bits_digestible, digestible, done, whole_refusal}

module _ (mode : Mode) (h : ℕ) (salt message : List ℕ) (count : ℕ) (room : List ℕ)
    (none : 0 ≡ digest_bits_refusal h (length salt) message count (length room)) where
  fits : BitsDigestible h (length salt) message count (length room)
  fits = bits_digestible h (length salt) message count (length room) (sym none)

  few : count ≤ bit_limit
  few = omega (arith, fits.digests.message_fits)

  opening_is : open_answer mode h salt ≡ record { refusal = 0; session = opened mode h salt }
  opening_is = opens mode h salt fits.digests.admits fits.digests.salt_fits

  pub opening_taken : (p : Refused) → answer_of (Err p) ≡ open_answer mode h salt → ⊥
  opening_taken p e = some p.refusal (ap (λ (x : Answer). x.refusal) (e ∙ opening_is))

  module _ (s : Session) (o : answer_of (Ok s) ≡ open_answer mode h salt) where
    adding_is : add_bits_answer s message count ≡ record { refusal = 0; session = add_bits (opened mode h salt) message count }
    adding_is =
        ap (λ (t : Session). add_bits_answer t message count) (ap (λ (x : Answer). x.session) (o ∙ opening_is) ∙ sym (add_nothing (opened mode h salt)))
        ∙ takes_bits mode h salt fits.digests.admits [] message count fits.sized (omega (arith, few))
        ∙ ap (λ (k : ℕ). record { refusal = 0; session = add_bits (opened mode h salt) message k }) (zero-add count)

    pub adding_taken : (p : Refused) → answer_of (Err p) ≡ add_bits_answer s message count → ⊥
    adding_taken p e = some p.refusal (ap (λ (x : Answer). x.refusal) (e ∙ adding_is))

    module _ (t : Session) (a : answer_of (Ok t) ≡ add_bits_answer s message count) where
      -- the session of the whole message
      whole : t ≡ add_bits (opened mode h salt) message count
      whole = ap (λ (x : Answer). x.session) (a ∙ adding_is)

      reading_is : (read_answer t (length room) ≡ record { refusal = 0; session = t })
          × (read_leaves t room ≡ bit_digest_of mode h salt (take count (bits_of message)) ++ drop (h / 8) room)
      reading_is = rw whole (reads_bits mode h salt fits.digests.admits message count room fits.sized few fits.digests.room_fits)

      pub reading_taken : (p : Refused) → answer_of (Err p) ≡ read_answer t (length room) → ⊥
      reading_taken p e = some p.refusal (ap (λ (x : Answer). x.refusal) (e ∙ reading_is.0))

      pub at_once_leaves : (left : List ℕ) → left ≡ read_leaves t room → left ≡ digest_bits_leaves mode h salt message count room
      unfolding digest_bits_leaves
      at_once_leaves left l =
          l ∙ reading_is.1 ∙ sym (done _ (bit_digest_of mode h salt (take count (bits_of message)) ++ drop (h / 8) room) room (sym none))

-- whole bytes: what the routine for bits leaves
pub whole_leaves : (mode : Mode) (h : ℕ) (salt message room : List ℕ)
    → digest_bits_leaves mode h salt message (8 * length message) room ≡ digest_leaves mode h salt message room
unfolding digest_bits_leaves digest_leaves digest_of
whole_leaves mode h salt message room =
    rw (whole_refusal h (length salt) message (length room), whole_taken message)

-- the routines for bytes are those for bits at eight times the length
pub eight_bits_each : (mode : Mode) (h : ℕ) (salt message room : List ℕ) (s : Session)
    → (digest_refusal h (length salt) (length message) (length room) ≡ digest_bits_refusal h (length salt) message (8 * length message) (length room))
    × (digest_leaves mode h salt message room ≡ digest_bits_leaves mode h salt message (8 * length message) room)
    × (add_answer s message ≡ add_bits_answer s message (8 * length message))
unfolding add_answer
eight_bits_each mode h salt message room s =
    (sym (whole_refusal h (length salt) message (length room)), sym (whole_leaves mode h salt message room), refl)

-- as the code has them
module _ (mode : Mode) (h : ℕ) (salt message room : List ℕ) where
  pub whole_answers : (r : ℕ) → r ≡ digest_bits_refusal h (length salt) message (8 * length message) (length room)
      → r ≡ digest_refusal h (length salt) (length message) (length room)
  whole_answers r e = e ∙ whole_refusal h (length salt) message (length room)

  pub whole_left : (left : List ℕ) → left ≡ digest_bits_leaves mode h salt message (8 * length message) room → left ≡ digest_leaves mode h salt message room
  whole_left left l = l ∙ whole_leaves mode h salt message room

  -- the bits of bytes that are not too many can be counted
  pub whole_counted : 0 ≡ digest_refusal h (length salt) (length message) (length room) → 8 * length message < 2 ^ 64
  whole_counted none = omega (arith, (digestible h (length salt) (length message) (length room) (sym none)).message_fits)
