-- `repeat` meets its contract: the loop fills the list from the front. Assumes nothing.
use Rattle.std.proofs.Common.{◌%◌, length, get_or}
use Rattle.aes_round.proofs.Promises.{Filled}
use Rattle.echo.proofs.initial.repeat.Given as goal

abbrev pub invariant-loop-k : goal.invariant-loop-k
invariant-loop-k l = Filled (length l.initial.v) (λ j. get_or l.word (j % 16) 0) l.initial.v l.k l.v
