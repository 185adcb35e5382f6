-- `put_tag` meets its contract: the outer session answers, with the digest of the inner one added. Assumes nothing.
use Rattle.std.proofs.Common.{Ok, Err, not, ap}
use Rattle.echo.specs.Answers.{answer_of}
use Rattle.echo.proofs.Promises.{handed_on}
use Rattle.hmac.proofs.Laws.TagSessions.{left_closed, left_none, read_closed, read_none}
use Rattle.hmac.proofs.tag_session.TagSession.put_tag.Goals as goal

pub returns-then-not-is_session-clause-refusal : goal.returns-then-not-is_session-clause-refusal
returns-then-not-is_session-clause-refusal c = search read_none

pub returns-then-not-is_session-clause-left : goal.returns-then-not-is_session-clause-left
returns-then-not-is_session-clause-left c = search left_none

pub returns-in_err-read-clause-refusal : goal.returns-in_err-read-clause-refusal
returns-in_err-read-clause-refusal c =
    rw (handed_on c.from_residual.result _ c.from_residual.ensures)
    (read_closed _ _ c.is_session.ensures (ap not c.if-not-is_session.false) _ c.closed-closed.ensures _ (answer_of (Err c.in_err-read.field-0.0))
    c.in_err-read.ensures.answer)

pub returns-in_err-read-clause-left : goal.returns-in_err-read-clause-left
returns-in_err-read-clause-left c = search left_closed

pub returns-clause-refusal : goal.returns-clause-refusal
returns-clause-refusal c =
    read_closed _ _ c.is_session.ensures (ap not c.if-not-is_session.false) _ c.closed-closed.ensures _ (answer_of (Ok c.in_ok-read.field-0))
    c.in_ok-read.ensures.answer

pub returns-clause-left : goal.returns-clause-left
returns-clause-left c = search left_closed
