-- `counts_fit` meets its contract: eight times a block's size fits. Assumes nothing.
use Rattle.hmac.proofs.Laws.TagSessions.{block_counted}
use Rattle.hmac.proofs.tag_session.counts_fit.Goals as goal

pub overflow_mul-b : goal.overflow_mul-b
overflow_mul-b c = search block_counted
