-- `run_back` meets its contract, a round a turn, the last first. Assumes nothing.
use Rattle.std.proofs.Common.{arith, rules}
use Rattle.echo.proofs.Laws.Square.{all_left, less_left, none_left}
use Rattle.echo.proofs.run.run_back.Goals as goal

pub loop-r-init : goal.loop-r-init
loop-r-init c = (search rules, search rules, search all_left)

pub overflow_mul-r : goal.overflow_mul-r
overflow_mul-r c = omega arith

pub sub_words_back-requires-clause-first_bound : goal.sub_words_back-requires-clause-first_bound
sub_words_back-requires-clause-first_bound c = omega arith

pub loop-r-preserved : goal.loop-r-preserved
loop-r-preserved c = (search rules, search rules, search less_left)

pub returns : goal.returns
returns c = search none_left
