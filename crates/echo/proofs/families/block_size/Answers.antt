-- `block_size` meets its contract. Assumes nothing.
use Rattle.echo.proofs.Laws.Families.{chaining_in_square, rest_is_block}
use Rattle.echo.proofs.families.block_size.Goals as goal

pub overflow_sub-result : goal.overflow_sub-result
overflow_sub-result c = search chaining_in_square

pub returns : goal.returns
returns c = search rest_is_block
