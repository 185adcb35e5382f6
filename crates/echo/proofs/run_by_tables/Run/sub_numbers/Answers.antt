-- `Run::sub_numbers` meets its contract, a word a turn. Assumes nothing.
use Rattle.std.proofs.Common.{rules}
use Rattle.echo.proofs.Laws.ByTables.{all_substituted, more_substituted, none_substituted}
use Rattle.echo.proofs.run_by_tables.Run.sub_numbers.Goals as goal

pub loop-i-init : goal.loop-i-init
loop-i-init c = (search rules, search (none_substituted, rules))

pub loop-i-preserved : goal.loop-i-preserved
loop-i-preserved c = (search rules, search more_substituted)

pub returns : goal.returns
returns c = search all_substituted
