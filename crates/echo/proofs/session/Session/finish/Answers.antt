-- `finish` meets its contract: one block or two are left, by whether the padding fits behind the waiting bits. Assumes nothing.
use Rattle.echo.proofs.Laws.Ends.{ends_in_one, ends_in_two, part_clear}
use Rattle.echo.proofs.Laws.Waiting.{block_bits_fit, place_in, some_block, some_block_bits}
use Rattle.echo.proofs.session.Session.finish.Goals as goal

pub nonzero_rem-at : goal.nonzero_rem-at
nonzero_rem-at c = search some_block

pub overflow_mul-b : goal.overflow_mul-b
overflow_mul-b c = search block_bits_fit

pub nonzero_rem-self : goal.nonzero_rem-self
nonzero_rem-self c = search some_block_bits

pub bounds-self-at : goal.bounds-self-at
bounds-self-at c = search place_in

pub marked-requires-clause-x_value : goal.marked-requires-clause-x_value
marked-requires-clause-x_value c = search part_clear

pub bounds-self-at-2 : goal.bounds-self-at-2
bounds-self-at-2 c = search place_in

pub returns-then-at-b : goal.returns-then-at-b
returns-then-at-b c = search ends_in_one

pub returns : goal.returns
returns c = search ends_in_two
