-- `put_hex` meets its contract: the digits of the bytes so far are put, and two more behind them. Assumes nothing.
use borrow.Author.Rules.{rules}
use Rattle.lines.proofs.Laws.Hexadecimal.{digits_next}
use Rattle.lines.proofs.Laws.Lines.{put_length, spread_all, spread_none}
use Rattle.lines.proofs.hexadecimal.put_hex.Goals as goal

pub loop-i-init : goal.loop-i-init
loop-i-init c = (search rules, search rules, search spread_none)

pub loop-i-preserved : goal.loop-i-preserved
loop-i-preserved c = (search rules, search rules, search digits_next)

pub shape_of-room : goal.shape_of-room
shape_of-room c = search put_length

pub returns : goal.returns
returns c = search spread_all
