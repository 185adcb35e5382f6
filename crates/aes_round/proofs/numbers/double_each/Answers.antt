-- `double_each` meets its contract: the masks keep the bytes apart. Assumes nothing.
use Rattle.aes_round.proofs.Laws.Numbers.{double_each_is}
use Rattle.aes_round.proofs.numbers.double_each.Goals as goal

pub returns : goal.returns
returns c = search double_each_is
