-- `put` meets its contract: the bytes so far are put, and one more behind them. Assumes nothing.
use borrow.Author.Rules.{rules}
use Rattle.lines.proofs.Laws.Lines.{bytes_all, bytes_next, put_length, put_nothing}
use Rattle.lines.proofs.bytes.put.Goals as goal

pub loop-i-init : goal.loop-i-init
loop-i-init c = (search rules, search rules, search put_nothing)

pub loop-i-preserved : goal.loop-i-preserved
loop-i-preserved c = (search rules, search rules, search bytes_next)

pub shape_of-room : goal.shape_of-room
shape_of-room c = search put_length

pub returns : goal.returns
returns c = search bytes_all
