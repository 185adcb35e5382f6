-- `pairs_in` meets its contract: without capitals digits and bytes are the library's. Assumes nothing.
use Rattle.write_table.proofs.Laws.Hexadecimal.{capitals, no_capitals}
use Rattle.write_table.proofs.hexadecimal.pairs_in.Goals as goal

pub returns-then-not-is_small : goal.returns-then-not-is_small
returns-then-not-is_small g c = capitals g.row.N _ _ c.is_small.ensures c.if-not-is_small.true

pub returns : goal.returns
returns g c = no_capitals g.row.N _ _ c.is_small.ensures c.if-not-is_small.false _ c.bytes_in.ensures
