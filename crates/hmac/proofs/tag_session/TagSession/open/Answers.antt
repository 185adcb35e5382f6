-- `open` meets its contract: what was begun, or the blank tag session. Assumes nothing.
use Rattle.hmac.proofs.Laws.Opening.{open_blank, open_handed}
use Rattle.hmac.proofs.tag_session.TagSession.open.Goals as goal

pub returns-in-Ok : goal.returns-in-Ok
returns-in-Ok c = open_handed _ _ _ _ c.in-Ok.ensures.refusal c.in-Ok.ensures.session

pub returns-in-Err : goal.returns-in-Err
returns-in-Err c = rw c.refused.ensures (search (open_blank, c.in-Err.ensures.refusal))
