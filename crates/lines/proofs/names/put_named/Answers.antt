-- `put_named` meets its contract: four texts, one behind the other. Assumes nothing.
use Rattle.lines.proofs.Laws.Lines.{put_four}
use Rattle.lines.proofs.names.put_named.Goals as goal

pub returns : goal.returns
returns c = search put_four
