-- `digest` meets its contract: a refusal, or eight bits for each byte. Assumes nothing.
use Rattle.echo.specs.Session.{digest_leaves}
use Rattle.echo.proofs.Laws.AtOnce.{whole_answers, whole_counted, whole_left}
use Rattle.echo.proofs.Laws.Refusals.{refused}
use Rattle.echo.proofs.digest_at_once.digest.Goals as goal

pub returns-in_err-check_digest-clause-left : goal.returns-in_err-check_digest-clause-left
unfolding digest_leaves
returns-in_err-check_digest-clause-left c = search (refused, c.in_err-check_digest.ensures)

pub overflow_mul-message : goal.overflow_mul-message
overflow_mul-message c = search (whole_counted, c.in_ok-check_digest.ensures)

pub returns-clause-refusal : goal.returns-clause-refusal
returns-clause-refusal c = search whole_answers

pub returns-clause-left : goal.returns-clause-left
returns-clause-left c = search whole_left
