-- `check_digest_bits` meets its contract: by the whole bytes, and then by the message. Assumes nothing.
use Rattle.echo.proofs.Laws.Answers.{handed_on}
use Rattle.echo.proofs.Laws.Refusals.{digest_6, digest_17, digest_bits_0, digest_counted, digest_less}
use Rattle.echo.proofs.refusals.check_digest_bits.Goals as goal

pub returns-in_err-check_digest : goal.returns-in_err-check_digest
returns-in_err-check_digest c =
    rw (handed_on c.from_residual.result _ c.from_residual.ensures) (digest_less _ _ _ _ _ _ c.in_err-check_digest.ensures)

pub overflow_add-count : goal.overflow_add-count
overflow_add-count c = search (digest_counted, c.in_ok-check_digest.ensures)

pub returns-then-message-count : goal.returns-then-message-count
returns-then-message-count c = search (digest_6, c.in_ok-check_digest.ensures)

pub returns-then-not-zero_bits_from : goal.returns-then-not-zero_bits_from
returns-then-not-zero_bits_from c = search (digest_17, c.in_ok-check_digest.ensures)

pub returns : goal.returns
returns c = search (digest_bits_0, c.in_ok-check_digest.ensures)
