-- What making, checking and verifying a tag at once answer and leave behind, on every input. Assumes nothing.
use Rattle.std.specs.Prelude.{Bool, false, not, ◌||◌, List, [], ◌∷◌, ◌++◌, ℕ, ◌+◌, ◌/◌, ltb, drop, length}
use Rattle.echo.specs.Refusals.{◌when◌, first_of, no_salt, unless}
use Rattle.echo.specs.Session.{admitted, limit}
use Rattle.hmac.specs.Answers.{Verdict}
use Rattle.hmac.specs.DoublePipe.{block_size}
use Rattle.hmac.specs.Hmac.{tag_of}
use Rattle.hmac.specs.Same.{same}

-- 4: the key alone, or key block and message together, pass the limit
abbrev pub too_long : ℕ → ℕ → ℕ → Bool
too_long h keyLength messageLength = ltb limit keyLength || ltb limit (block_size h + messageLength)

unfoldable pub make_refusal : ℕ → ℕ → ℕ → ℕ → ℕ → ℕ
make_refusal h saltLength keyLength messageLength room =
    first_of
    ((1 when not (admitted h))
    ∷ (2 when no_salt saltLength)
    ∷ (4 when too_long h keyLength messageLength)
    ∷ (5 when ltb room (h / 8))
    ∷ [])

-- a tag fills the first h/8 bytes of the room; those behind stay
unfoldable pub make_leaves : ℕ → List ℕ → List ℕ → List ℕ → List ℕ → List ℕ
make_leaves h salt key message room =
    unless (make_refusal h (length salt) (length key) (length message) (length room)) (tag_of h salt key message ++ drop (h / 8) room) room

unfoldable pub check_refusal : ℕ → ℕ → ℕ → ℕ → ℕ
check_refusal h saltLength keyLength messageLength =
    first_of ((1 when not (admitted h)) ∷ (2 when no_salt saltLength) ∷ (4 when too_long h keyLength messageLength) ∷ [])

-- yes exactly for the full tag; a refused check says no
unfoldable pub check_answer : ℕ → List ℕ → List ℕ → List ℕ → List ℕ → Verdict
check_answer h salt key message tag =
    let refusal = check_refusal h (length salt) (length key) (length message) in
    record { refusal = refusal; yes = unless refusal (same (tag_of h salt key message) tag) false }

-- the check's refusals, and then 19 where the tag is not the message's
unfoldable pub verify_refusal : ℕ → List ℕ → List ℕ → List ℕ → List ℕ → ℕ
verify_refusal h salt key message tag =
    first_of
    ((1 when not (admitted h))
    ∷ (2 when no_salt (length salt))
    ∷ (4 when too_long h (length key) (length message))
    ∷ (19 when not (same (tag_of h salt key message) tag))
    ∷ [])
