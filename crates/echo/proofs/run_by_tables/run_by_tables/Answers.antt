-- `run_by_tables` meets its contract, a round a turn. Assumes nothing.
use Rattle.std.proofs.Common.{arith, rules, sym}
use Rattle.aes_round.proofs.Promises.{bytes_fit}
use Rattle.echo.proofs.Laws.ByTables.{ran_by_all, ran_by_more, ran_by_none}
use Rattle.echo.proofs.run_by_tables.run_by_tables.Goals as goal

pub loop-r-init : goal.loop-r-init
loop-r-init c = (search rules, search (bytes_fit, rules), search ran_by_none)

pub overflow_mul-r : goal.overflow_mul-r
overflow_mul-r c = omega arith

pub sub_numbers-substituted-requires : goal.sub_numbers-substituted-requires
sub_numbers-substituted-requires c = omega arith

pub loop-r-preserved : goal.loop-r-preserved
loop-r-preserved c = (search rules, search rules, search ran_by_more)

pub returns : goal.returns
returns c = rw (sym c.new-run.ensures.counter) (search (ran_by_all, bytes_fit, rules))
