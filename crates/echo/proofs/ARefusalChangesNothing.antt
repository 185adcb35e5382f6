-- A refusal writes to no buffer and hands the session back as it came: wherever a routine answers a number other than 0, what it leaves is
-- what was lent, and the session is the one given; reading hands it back in any case (`reading_changes_nothing` in TheDigest.antt). A refused
-- opening hands the blank session out, which is no session. Assumes nothing.
use Rattle.std.proofs.Common.{◌≡◌, ℕ, suc, false, List, length, refl}
use Rattle.echo.specs.declared.mode.Mode.{Mode}
use Rattle.echo.specs.declared.session.Session.{Session}
use Rattle.echo.specs.Routines.{compress_leaves, compress_refusal, compress_wide_leaves, compress_wide_refusal}
use Rattle.echo.specs.Routines.{rounds_back_leave, rounds_back_wide_leave, rounds_leave, rounds_refusal, rounds_wide_leave, rounds_wide_refusal}
use Rattle.echo.specs.Session.{add_bits_answer, add_bits_refusal, admitted, blank, digest_bits_leaves, digest_bits_refusal, digest_leaves, digest_refusal}
use Rattle.echo.specs.Session.{is_session, open_answer, open_refusal, read_leaves, read_refusal}

-- the refusal number is k + 1
module _ (k : ℕ) where
  module _ (square : List ℕ) (count counter : ℕ) (salt : List ℕ) (e : rounds_refusal (length square) count counter (length salt) ≡ suc k) where
    pub refused_rounds_leave_the_square : rounds_leave square count counter salt ≡ square
    unfolding rounds_leave
    refused_rounds_leave_the_square = rw e refl

    pub refused_rounds_back_leave_the_square : rounds_back_leave square count counter salt ≡ square
    unfolding rounds_back_leave
    refused_rounds_back_leave_the_square = rw e refl

  module _ (square : List ℕ) (count counter : ℕ) (salt : List ℕ) (e : rounds_wide_refusal (length square) count (length salt) ≡ suc k) where
    pub refused_wide_rounds_leave_the_square :
        (rounds_wide_leave square count counter salt ≡ square) × (rounds_back_wide_leave square count counter salt ≡ square)
    unfolding rounds_wide_leave rounds_back_wide_leave
    refused_wide_rounds_leave_the_square = (rw e refl, rw e refl)

  pub a_refused_compression_leaves_the_chaining_value : (mode : Mode) (chaining block : List ℕ) (counter : ℕ) (salt : List ℕ)
      → compress_refusal mode (length chaining) (length block) counter (length salt) ≡ suc k → compress_leaves mode chaining block counter salt ≡ chaining
  unfolding compress_leaves
  a_refused_compression_leaves_the_chaining_value mode chaining block counter salt e = rw e refl

  pub a_refused_wide_compression_leaves_the_chaining_value : (mode : Mode) (chaining block : List ℕ) (counter : ℕ) (salt : List ℕ)
      → compress_wide_refusal mode (length chaining) (length block) (length salt) ≡ suc k → compress_wide_leaves mode chaining block counter salt ≡ chaining
  unfolding compress_wide_leaves
  a_refused_wide_compression_leaves_the_chaining_value mode chaining block counter salt e = rw e refl

  pub a_refused_opening_is_blank : (mode : Mode) (h : ℕ) (salt : List ℕ) → open_refusal h (length salt) ≡ suc k → (open_answer mode h salt).session ≡ blank
  unfolding open_answer
  a_refused_opening_is_blank mode h salt e = rw e refl

  pub a_refused_piece_changes_nothing : (s : Session) (piece : List ℕ) (count : ℕ) → add_bits_refusal s piece count ≡ suc k
      → (add_bits_answer s piece count).session ≡ s
  unfolding add_bits_answer
  a_refused_piece_changes_nothing s piece count e = rw e refl

  pub a_refused_reading_leaves_the_room : (s : Session) (room : List ℕ) → read_refusal s (length room) ≡ suc k → read_leaves s room ≡ room
  unfolding read_leaves
  a_refused_reading_leaves_the_room s room e = rw e refl

  pub a_refused_digest_leaves_the_room : (mode : Mode) (h : ℕ) (salt message room : List ℕ)
      → digest_refusal h (length salt) (length message) (length room) ≡ suc k → digest_leaves mode h salt message room ≡ room
  unfolding digest_leaves
  a_refused_digest_leaves_the_room mode h salt message room e = rw e refl

  pub a_refused_digest_of_bits_leaves_the_room : (mode : Mode) (h : ℕ) (salt message : List ℕ) (count : ℕ) (room : List ℕ)
      → digest_bits_refusal h (length salt) message count (length room) ≡ suc k → digest_bits_leaves mode h salt message count room ≡ room
  unfolding digest_bits_leaves
  a_refused_digest_of_bits_leaves_the_room mode h salt message count room e = rw e refl

pub the_blank_session_is_none : is_session blank ≡ false
unfolding is_session admitted blank
the_blank_session_is_none = refl
