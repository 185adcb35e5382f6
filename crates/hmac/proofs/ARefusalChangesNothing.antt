-- A refusal writes to no buffer, hands the tag session back as it came, and says no: wherever a routine answers a number other than 0, what it
-- leaves is what was lent, and the session is the one given. Reading and checking hand it back in any case. A refused opening hands the blank
-- record out, which is no tag session. Assumes nothing.
use mathlib.Core.Path.{◌≡◌, refl}
use mathlib.Core.Bool.{false}
use mathlib.Core.List.{List}
use Prim.Native.Nat.{ℕ, suc}
use lib.ListN.{length}
use Rattle.echo.proofs.Theorems.{the_blank_session_is_none}
use Rattle.hmac.specs.declared.tag_session.TagSession.{TagSession}
use Rattle.hmac.specs.Routines.{check_answer, check_refusal, make_leaves, make_refusal}
use Rattle.hmac.specs.TagSession.{add_tag_answer, add_tag_refusal, blank_tag, check_tag_answer, check_tag_refusal, is_tag_session}
use Rattle.hmac.specs.TagSession.{open_tag_answer, open_tag_refusal, read_tag_answer, read_tag_leaves, read_tag_refusal}

pub reading_changes_nothing : (t : TagSession) (room : ℕ) → (read_tag_answer t room).session ≡ t
unfolding read_tag_answer
reading_changes_nothing t room = refl

pub checking_changes_nothing : (t : TagSession) (tag : List ℕ) → (check_tag_answer t tag).session ≡ t
unfolding check_tag_answer
checking_changes_nothing t tag = refl

pub the_blank_record_is_none : is_tag_session blank_tag ≡ false
unfolding is_tag_session
the_blank_record_is_none = rw the_blank_session_is_none

-- the refusal number is k + 1
module _ (k : ℕ) where
  pub a_refused_opening_is_blank : (h : ℕ) (salt key : List ℕ) → open_tag_refusal h (length salt) (length key) ≡ suc k
      → (open_tag_answer h salt key).session ≡ blank_tag
  unfolding open_tag_answer
  a_refused_opening_is_blank h salt key e = rw e refl

  pub a_refused_piece_changes_nothing : (t : TagSession) (piece : List ℕ) → add_tag_refusal t (length piece) ≡ suc k → (add_tag_answer t piece).session ≡ t
  unfolding add_tag_answer
  a_refused_piece_changes_nothing t piece e = rw e refl

  pub a_refused_reading_leaves_the_room : (t : TagSession) (room : List ℕ) → read_tag_refusal t (length room) ≡ suc k → read_tag_leaves t room ≡ room
  unfolding read_tag_leaves
  a_refused_reading_leaves_the_room t room e = rw e refl

  pub a_refused_check_says_no : (t : TagSession) (tag : List ℕ) → check_tag_refusal t ≡ suc k → (check_tag_answer t tag).yes ≡ false
  unfolding check_tag_answer
  a_refused_check_says_no t tag e = rw e refl

  pub a_refused_making_leaves_the_room : (h : ℕ) (salt key message room : List ℕ)
      → make_refusal h (length salt) (length key) (length message) (length room) ≡ suc k → make_leaves h salt key message room ≡ room
  unfolding make_leaves
  a_refused_making_leaves_the_room h salt key message room e = rw e refl

  pub a_refused_check_at_once_says_no : (h : ℕ) (salt key message tag : List ℕ) → check_refusal h (length salt) (length key) (length message) ≡ suc k
      → (check_answer h salt key message tag).yes ≡ false
  unfolding check_answer
  a_refused_check_at_once_says_no h salt key message tag e = rw e refl
