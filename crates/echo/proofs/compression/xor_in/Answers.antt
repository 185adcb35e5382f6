-- `xor_in` meets its contract: the loop rewrites the list from the front. Assumes nothing.
use Rattle.std.proofs.Common.{refl}
use Rattle.aes_round.proofs.Promises.{fill_more, fill_none}
use Rattle.echo.proofs.Laws.Compression.{xor_all, xor_old}
use Rattle.echo.proofs.compression.xor_in.Goals as goal

pub loop-k-init : goal.loop-k-init
loop-k-init c = fill_none _ _ _ refl

pub loop-k-preserved : goal.loop-k-preserved
loop-k-preserved c = search (fill_more, xor_old)

pub returns : goal.returns
returns c = search xor_all
