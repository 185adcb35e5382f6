-- `xored` meets its contract: the loop rewrites the block from the front. Assumes nothing.
use Rattle.std.proofs.Common.{rules}
use Rattle.aes_round.proofs.Promises.{fill_more}
use Rattle.hmac.proofs.Laws.KeyBlock.{padded_all, padded_next}
use Rattle.hmac.proofs.key_block.xored.Goals as goal

pub loop-byte-preserved : goal.loop-byte-preserved
loop-byte-preserved c =
    fill_more 192 _ _ _ _ _ c.loop-byte.invariant (search rules) (padded_next _ _ _ _ _ c.loop-byte.invariant (search rules))

pub returns : goal.returns
returns c = padded_all _ _ _ _ c.loop-byte.invariant (search rules)
