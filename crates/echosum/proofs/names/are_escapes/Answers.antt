-- `are_escapes` meets its contract: the escapes that were passed can be undone. Assumes nothing.
use Rattle.echosum.proofs.Laws.Names.{escapes_end, escapes_go_on, no_escape}
use Rattle.echosum.proofs.names.are_escapes.Goals as goal

pub returns-then-is_fault : goal.returns-then-is_fault
returns-then-is_fault c = search no_escape

pub loop-byte-preserved : goal.loop-byte-preserved
loop-byte-preserved c = search escapes_go_on

pub returns : goal.returns
returns c = search escapes_end
