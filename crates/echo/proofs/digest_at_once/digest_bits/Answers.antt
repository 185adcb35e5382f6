-- `digest_bits` meets its contract: a refusal, or an opening, one piece and a reading, of which none is refused. Assumes nothing.
use Rattle.echo.specs.Session.{digest_bits_leaves}
use Rattle.echo.proofs.Laws.AtOnce.{adding_taken, at_once_leaves, opening_taken, reading_taken}
use Rattle.echo.proofs.Laws.Refusals.{refused}
use Rattle.echo.proofs.digest_at_once.digest_bits.Goals as goal

pub returns-in_err-check_digest_bits-clause-left : goal.returns-in_err-check_digest_bits-clause-left
unfolding digest_bits_leaves
returns-in_err-check_digest_bits-clause-left c = search (refused, c.in_err-check_digest_bits.ensures)

pub returns-in_err-opened-clause-refusal : goal.returns-in_err-opened-clause-refusal
returns-in_err-opened-clause-refusal c =
    absurd (opening_taken _ _ _ _ _ _ c.in_ok-check_digest_bits.ensures _ c.in_err-opened.ensures)

pub returns-in_err-opened-clause-left : goal.returns-in_err-opened-clause-left
returns-in_err-opened-clause-left c =
    absurd (opening_taken _ _ _ _ _ _ c.in_ok-check_digest_bits.ensures _ c.in_err-opened.ensures)

pub returns-in_err-whole-clause-refusal : goal.returns-in_err-whole-clause-refusal
returns-in_err-whole-clause-refusal c =
    absurd (adding_taken _ _ _ _ _ _ c.in_ok-check_digest_bits.ensures _ c.in_ok-opened.ensures _ c.in_err-whole.ensures)

pub returns-in_err-whole-clause-left : goal.returns-in_err-whole-clause-left
returns-in_err-whole-clause-left c =
    absurd (adding_taken _ _ _ _ _ _ c.in_ok-check_digest_bits.ensures _ c.in_ok-opened.ensures _ c.in_err-whole.ensures)

pub returns-in_err-read-clause-refusal : goal.returns-in_err-read-clause-refusal
returns-in_err-read-clause-refusal c =
    absurd
    (reading_taken _ _ _ _ _ _ c.in_ok-check_digest_bits.ensures _ c.in_ok-opened.ensures _ c.in_ok-whole.ensures _
    c.in_err-read.ensures.answer)

pub returns-in_err-read-clause-left : goal.returns-in_err-read-clause-left
returns-in_err-read-clause-left c =
    absurd
    (reading_taken _ _ _ _ _ _ c.in_ok-check_digest_bits.ensures _ c.in_ok-opened.ensures _ c.in_ok-whole.ensures _
    c.in_err-read.ensures.answer)

pub returns-clause-left : goal.returns-clause-left
returns-clause-left c = search (at_once_leaves, c.in_ok-check_digest_bits.ensures, c.in_ok-opened.ensures, c.in_ok-whole.ensures)
