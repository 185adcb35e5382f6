-- `is_plain` meets its contract: the rest of the name decides. Assumes nothing.
use borrow.Author.Rules.{rules}
use Rattle.lines.proofs.Laws.Names.{not_plain, plain, plain_on}
use Rattle.lines.proofs.names.is_plain.Goals as goal

pub returns-then-letter-ne0 : goal.returns-then-letter-ne0
returns-then-letter-ne0 c = search not_plain

pub loop-i-preserved : goal.loop-i-preserved
loop-i-preserved c = (search rules, search rules, search plain_on)

pub returns : goal.returns
returns c = search plain
