-- `xored` meets its contract: the loop rewrites the block from the front. Assumes nothing.
use Rattle.std.proofs.Common.{get_or, replicate}
use Rattle.aes_round.specs.Bytes.{xor}
use Rattle.aes_round.proofs.Promises.{Filled}
use Rattle.hmac.proofs.key_block.xored.Given as goal

abbrev pub invariant-loop-byte : goal.invariant-loop-byte
invariant-loop-byte l =
    Filled 192 (λ j. xor (get_or l.fn.block j 0) (get_or (replicate 192 l.pad) j 0)) l.fn.block l.byte-index l.byte-items
