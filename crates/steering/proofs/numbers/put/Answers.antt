-- `put` meets its contract. Assumes nothing.
use Rattle.steering.proofs.Laws.Writing.{put_last}
use Rattle.steering.proofs.numbers.put.Goals as goal

pub returns : goal.returns
returns c = search put_last
