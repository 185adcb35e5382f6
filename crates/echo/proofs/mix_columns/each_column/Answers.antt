-- `each_column` meets its contract, a column a turn. Assumes nothing.
use Rattle.std.proofs.Common.{rules}
use Rattle.echo.proofs.Laws.Columns.{all_columns, no_columns, turn_mixes}
use Rattle.echo.proofs.mix_columns.each_column.Goals as goal

pub loop-j-init : goal.loop-j-init
loop-j-init g c = λ m acts. no_columns m _ (search rules)

pub loop-j-preserved : goal.loop-j-preserved
loop-j-preserved g c = λ m acts. turn_mixes m _ _ _ _ (c.loop-j.invariant m acts) (search rules) (search rules) (c.mix_words.ensures m acts)

pub returns : goal.returns
returns g c = λ m acts. all_columns m _ _ _ (c.loop-j.invariant m acts) (search rules)
