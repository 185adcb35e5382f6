-- `block_size` meets its contract. Assumes nothing.
use Rattle.echo.proofs.Promises.{block_long, block_short}
use Rattle.hmac.proofs.key_block.block_size.Goals as goal

pub returns-then-bits-le256 : goal.returns-then-bits-le256
returns-then-bits-le256 c = search block_short

pub returns-else-bits-le256 : goal.returns-else-bits-le256
returns-else-bits-le256 c = search block_long
