-- `digits_in` meets its contract: digits end at the first byte that is none. Assumes nothing.
use Rattle.std.proofs.Common.{◌∙◌}
use Rattle.write_table.proofs.Laws.Line.{digits_end}
use Rattle.write_table.proofs.line.digits_in.Goals as goal

pub returns-clause-count : goal.returns-clause-count
returns-clause-count c = let e = c.first_other.ensures in let w = digits_end c.args.line.now in c.unwrap_or.ensures ∙ rw e w
