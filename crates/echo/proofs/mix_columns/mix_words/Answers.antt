-- `mix_words` meets its contract, a byte position a turn. Assumes nothing.
use Rattle.std.proofs.Common.{rules}
use Rattle.echo.proofs.Laws.Columns.{mixed_all, mixed_more}
use Rattle.echo.proofs.mix_columns.mix_words.Goals as goal

pub loop-b-preserved : goal.loop-b-preserved
loop-b-preserved g c = λ m acts. let M = c.loop-b.invariant m acts in search (rules, mixed_more m, acts)

pub returns : goal.returns
returns g c = λ m acts. mixed_all m _ _ _ (c.loop-b.invariant m acts) (search rules)
