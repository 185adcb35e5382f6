-- `try_from` meets its contract: only the bytes from 1 to 5 are kinds. Assumes nothing.
use Rattle.steering.proofs.Laws.Records.{unknown}
use Rattle.steering.proofs.kinds.KindTryFromU8.try_from.Goals as goal

pub returns-in_default : goal.returns-in_default
returns-in_default c = search unknown
