-- `add` meets its contract: the inner session answers for the piece. Assumes nothing.
use Rattle.hmac.proofs.Laws.TagSessions.{added_to_inner, added_to_none, refused_by_inner}
use Rattle.hmac.proofs.tag_session.TagSession.add.Goals as goal

pub returns-then-not-is_session : goal.returns-then-not-is_session
returns-then-not-is_session c = rw c.refused.ensures (search added_to_none)

pub returns-in-Ok : goal.returns-in-Ok
returns-in-Ok c = search (added_to_inner, c.in-Ok.ensures)

pub returns-in-Err : goal.returns-in-Err
returns-in-Err c = rw c.refused-in-Err.ensures (search (refused_by_inner, c.in-Err.ensures))
