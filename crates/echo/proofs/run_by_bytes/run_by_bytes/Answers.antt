-- `run_by_bytes` meets its contract, a round a turn. Assumes nothing.
use Rattle.std.proofs.Common.{arith, rules}
use Rattle.echo.proofs.Laws.Square.{ran_all, ran_more, ran_none}
use Rattle.echo.proofs.run_by_bytes.run_by_bytes.Goals as goal

pub loop-r-init : goal.loop-r-init
loop-r-init c = (search rules, search rules, search ran_none)

pub overflow_mul-r : goal.overflow_mul-r
overflow_mul-r c = omega arith

pub sub_words-requires-clause-first_bound : goal.sub_words-requires-clause-first_bound
sub_words-requires-clause-first_bound c = omega arith

pub loop-r-preserved : goal.loop-r-preserved
loop-r-preserved c = (search rules, search rules, search ran_more)

pub returns : goal.returns
returns c = search ran_all
