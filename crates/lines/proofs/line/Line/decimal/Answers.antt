-- `decimal` meets its contract: what is put at the line's end stands behind the line. Assumes nothing.
use Rattle.lines.proofs.Laws.Texts.{put_line}
use Rattle.lines.proofs.line.Line.decimal.Goals as goal

pub returns : goal.returns
returns g c = search put_line
