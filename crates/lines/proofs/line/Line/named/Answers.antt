-- `named` meets its contract: the four texts that are put at the line's end stand behind the line. Assumes nothing.
use Rattle.lines.proofs.Laws.Texts.{four_line}
use Rattle.lines.proofs.line.Line.named.Goals as goal

pub returns : goal.returns
returns g c = search four_line
