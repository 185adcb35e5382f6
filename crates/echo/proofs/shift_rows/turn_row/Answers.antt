-- `turn_row` meets its contract, a place a turn. Assumes nothing.
use Rattle.std.proofs.Common.{rules}
use Rattle.echo.proofs.Laws.Rows.{all_along, all_others, next_turn, not_turned}
use Rattle.echo.proofs.shift_rows.turn_row.Goals as goal

pub loop-n-init : goal.loop-n-init
loop-n-init c = (search rules, search rules, search not_turned)

pub loop-n-preserved : goal.loop-n-preserved
loop-n-preserved c = (search rules, search rules, search next_turn)

pub returns-clause-turned : goal.returns-clause-turned
returns-clause-turned c = search all_along

pub returns-clause-others : goal.returns-clause-others
returns-clause-others c = search all_others
