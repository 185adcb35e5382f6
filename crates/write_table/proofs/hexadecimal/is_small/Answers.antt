-- `is_small` meets its contract. Assumes nothing.
use Rattle.std.proofs.Common.{rules}
use Rattle.write_table.proofs.Laws.Hexadecimal.{small_each}
use Rattle.write_table.proofs.hexadecimal.is_small.Goals as goal

pub returns : goal.returns
returns c = small_each c.args.text.now _ (search rules)
