-- `pull_word` meets its contract: the word is copied, and the rest stays. Assumes nothing.
use Rattle.echo.proofs.Laws.Rows.{pulled}
use Rattle.echo.proofs.shift_rows.pull_word.Goals as goal

pub returns : goal.returns
returns c = pulled _ _ _ c.copy_within.ensures.len c.copy_within.ensures.by_index
