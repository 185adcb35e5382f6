-- `number` meets its contract: the eight bytes are the given ones behind zeros. Assumes nothing.
use Rattle.steering.proofs.Laws.Numbers.{read_last}
use Rattle.steering.proofs.numbers.number.Goals as goal

pub returns : goal.returns
returns c = search read_last
