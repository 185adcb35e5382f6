-- `put_escaped` meets its contract, for a byte that is escaped and for one that is not. Assumes nothing.
use Rattle.lines.proofs.Laws.Names.{as_it_is, escaped}
use Rattle.lines.proofs.names.put_escaped.Goals as goal

pub returns-then-letter-eq0 : goal.returns-then-letter-eq0
returns-then-letter-eq0 c = search as_it_is

pub returns : goal.returns
returns c = search escaped
