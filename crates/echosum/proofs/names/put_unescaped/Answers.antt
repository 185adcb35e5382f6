-- `put_unescaped` meets its contract: the front of the text is put with its escapes undone, and what one more byte leaves behind it. Assumes nothing.
use Rattle.std.proofs.Common.{arith}
use Rattle.echosum.proofs.Laws.Names.{closed_at_first, opened_next, undone_next, undone_none}
use Rattle.echosum.proofs.names.put_unescaped.Goals as goal

pub loop-byte-init : goal.loop-byte-init
loop-byte-init g c = (search closed_at_first, grind (arith, undone_none))

pub loop-byte-preserved : goal.loop-byte-preserved
loop-byte-preserved g c = (search opened_next, search undone_next)
