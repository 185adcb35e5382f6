-- `read` meets its contract: what the tag is refused for, and the session. Assumes nothing.
use Rattle.hmac.proofs.Laws.TagSessions.{handed_back}
use Rattle.hmac.proofs.tag_session.TagSession.read.Goals as goal

pub returns-in-Ok-clause-answer : goal.returns-in-Ok-clause-answer
returns-in-Ok-clause-answer c = handed_back _ _ _ c.in-Ok.ensures.refusal

pub returns-in-Err-clause-answer : goal.returns-in-Err-clause-answer
returns-in-Err-clause-answer c = rw c.refused.ensures (handed_back _ _ _ c.in-Err.ensures.refusal)
