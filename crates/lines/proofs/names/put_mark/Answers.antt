-- `put_mark` meets its contract. Assumes nothing.
use Rattle.lines.proofs.Laws.Names.{marked, unmarked}
use Rattle.lines.proofs.names.put_mark.Goals as goal

pub returns-then-is_plain : goal.returns-then-is_plain
returns-then-is_plain c = search unmarked

pub returns : goal.returns
returns c = search marked
