-- `each_word` meets its contract, a word a turn. Assumes nothing.
use Rattle.std.proofs.Common.{rules}
use Rattle.echo.proofs.Laws.Words.{all_through, next_through, none_through}
use Rattle.echo.proofs.sub_words.each_word.Goals as goal

pub loop-j-init : goal.loop-j-init
loop-j-init g c = λ f acts. none_through f _ _ (search rules)

pub loop-j-preserved : goal.loop-j-preserved
loop-j-preserved g c = λ f acts. let T = c.loop-j.invariant f acts in search (rules, next_through f, acts)

pub returns : goal.returns
returns g c = λ f acts. all_through f _ _ _ _ (c.loop-j.invariant f acts) (search rules)
