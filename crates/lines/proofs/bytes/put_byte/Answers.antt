-- `put_byte` meets its contract, where there is a place for the byte and where there is none. Assumes nothing.
use Rattle.lines.proofs.Laws.Lines.{put_one, put_one_out}
use Rattle.lines.proofs.bytes.put_byte.Goals as goal

pub returns-then-at-room : goal.returns-then-at-room
returns-then-at-room c = search put_one

pub returns : goal.returns
returns c = search put_one_out
