-- `shift_and_mix` meets its contract: a turn of the inner loop stores four numbers. Assumes nothing.
use Rattle.std.proofs.Common.{rules}
use Rattle.echo.proofs.Laws.MixedNumbers.{begin_stored, end_stored, none_stored}
use Rattle.echo.proofs.Laws.ShiftedNumbers.{all_shifted, next_shifted}
use Rattle.echo.proofs.run_by_tables.shift_and_mix.Goals as goal

pub loop-j-init : goal.loop-j-init
loop-j-init c = (search rules, search (none_stored, rules))

pub loop-c-init : goal.loop-c-init
loop-c-init c = (search rules, search rules, search begin_stored)

pub loop-c-preserved : goal.loop-c-preserved
loop-c-preserved c = (search rules, search rules, search (next_shifted, rules))

pub loop-j-preserved : goal.loop-j-preserved
loop-j-preserved c = (search rules, search end_stored)

pub returns : goal.returns
returns c = search all_shifted
