-- `compress` meets its contract: the parts that are lent have the sizes of mode and digest length. Assumes nothing.
use Rattle.echo.proofs.Laws.Waiting.{block_within, compress_made, lent_chaining, lent_some, lent_square, lent_within}
use Rattle.echo.proofs.session.Session.compress.Goals as goal

pub slice_bounds-v-end : goal.slice_bounds-v-end
slice_bounds-v-end c = search lent_within

pub slice_bounds-compress_in-end : goal.slice_bounds-compress_in-end
slice_bounds-compress_in-end c = search lent_chaining

pub shared_ref_as_front-compress_in : goal.shared_ref_as_front-compress_in
shared_ref_as_front-compress_in c = search block_within

pub compress_in-requires-clause-chaining_nonzero : goal.compress_in-requires-clause-chaining_nonzero
compress_in-requires-clause-chaining_nonzero c = search lent_some

pub compress_in-requires-clause-block_len : goal.compress_in-requires-clause-block_len
compress_in-requires-clause-block_len c = search lent_square

pub returns : goal.returns
returns c = search compress_made
