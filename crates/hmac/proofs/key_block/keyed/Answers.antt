-- `keyed` meets its contract: the front of a block is added, xored with the pad. Assumes nothing.
use Rattle.hmac.proofs.Laws.KeyBlock.{keyed_session, keyed_taken, padded_count, padded_long}
use Rattle.hmac.proofs.key_block.keyed.Goals as goal

pub slice_bounds-padded-end : goal.slice_bounds-padded-end
slice_bounds-padded-end c = search padded_long

pub slice_bounds-add-end : goal.slice_bounds-add-end
slice_bounds-add-end c = search padded_count

pub unwrap-requires : goal.unwrap-requires
unwrap-requires c = search keyed_taken

pub returns : goal.returns
returns c = search keyed_session
