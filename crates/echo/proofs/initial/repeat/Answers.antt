-- `repeat` meets its contract: the loop fills the list from the front. Assumes nothing.
use Rattle.std.proofs.Common.{refl}
use Rattle.aes_round.proofs.Promises.{fill_all, fill_more, fill_none}
use Rattle.echo.proofs.initial.repeat.Goals as goal

pub loop-k-init : goal.loop-k-init
loop-k-init c = fill_none _ _ _ refl

pub loop-k-preserved : goal.loop-k-preserved
loop-k-preserved c = search fill_more

pub returns : goal.returns
returns c = search fill_all
