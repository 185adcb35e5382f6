-- `check` meets its contract: the outer session's digest, with the inner one's added, is compared with the tag. Assumes nothing.
use Rattle.hmac.proofs.Laws.TagSessions.{checked_closed, checked_none, is_tag, own_tag_count, own_tag_within}
use Rattle.hmac.proofs.tag_session.TagSession.check.Goals as goal

pub returns-then-not-is_session : goal.returns-then-not-is_session
returns-then-not-is_session c = rw c.refused-refused.ensures (search checked_none)

pub closed-closed-requires : goal.closed-closed-requires
closed-closed-requires c = search is_tag

pub slice_bounds-own-end : goal.slice_bounds-own-end
slice_bounds-own-end c = search own_tag_within

pub slice_bounds-same-end : goal.slice_bounds-same-end
slice_bounds-same-end c = search own_tag_count

pub returns : goal.returns
returns c = search checked_closed
