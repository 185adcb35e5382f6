-- `closed` meets its contract: the digest of the inner session is added to the outer one. Assumes nothing.
use Rattle.hmac.proofs.Laws.TagSessions.{closing_is, closing_taken, inner_digest_count, inner_digest_within}
use Rattle.hmac.proofs.tag_session.TagSession.closed.Goals as goal

pub slice_bounds-digest-end : goal.slice_bounds-digest-end
slice_bounds-digest-end c = search inner_digest_within

pub slice_bounds-add-end : goal.slice_bounds-add-end
slice_bounds-add-end c = search inner_digest_count

pub unwrap-requires : goal.unwrap-requires
unwrap-requires c = search closing_taken

pub returns : goal.returns
returns c = search closing_is
