-- `turn_once` meets its contract: three words move up, and the one that was kept aside becomes the last. Assumes nothing.
use Rattle.std.proofs.Common.{rules}
use Rattle.echo.proofs.Laws.Rows.{next_up, none_up, once_along, once_others}
use Rattle.echo.proofs.shift_rows.turn_once.Goals as goal

pub loop-j-init : goal.loop-j-init
loop-j-init c = (search rules, search rules, search, search none_up)

pub loop-j-preserved : goal.loop-j-preserved
loop-j-preserved c = (search rules, search rules, search, search next_up)

pub returns-clause-turned : goal.returns-clause-turned
returns-clause-turned c = search once_along

pub returns-clause-others : goal.returns-clause-others
returns-clause-others c = search once_others
