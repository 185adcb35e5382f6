-- `xor_in` meets its contract: the loop rewrites the list from the front. Assumes nothing.
use Rattle.std.proofs.Common.{length, get_or}
use Rattle.aes_round.proofs.Promises.{Filled}
use Rattle.aes_round.specs.Bytes.{xor}
use Rattle.echo.proofs.compression.xor_in.Given as goal

abbrev pub invariant-loop-k : goal.invariant-loop-k
invariant-loop-k l = Filled (length l.initial.v) (λ j. xor (get_or l.initial.v j 0) (get_or l.src j 0)) l.initial.v l.k l.v
