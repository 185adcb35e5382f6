-- `compress_wide` meets its contract: a refusal leaves the chaining variable, and else the work is `compress_wide_in`'s. Assumes nothing.
use Rattle.echo.specs.Routines.{compress_wide_leaves}
use Rattle.echo.proofs.Laws.Refusals.{compress_done, compress_salt, compress_some, compress_square, compress_words}
use Rattle.echo.proofs.Laws.Refusals.{refused}
use Rattle.echo.proofs.compression.compress_wide.Goals as goal

pub returns-in_err-check_compress_wide-clause-left : goal.returns-in_err-check_compress_wide-clause-left
unfolding compress_wide_leaves
returns-in_err-check_compress_wide-clause-left c = search (refused, c.in_err-check_compress_wide.ensures)

pub sixteen-requires : goal.sixteen-requires
sixteen-requires c = search (compress_salt, c.in_ok-check_compress_wide.ensures)

pub compress_wide_in-requires-clause-chaining_nonzero : goal.compress_wide_in-requires-clause-chaining_nonzero
compress_wide_in-requires-clause-chaining_nonzero c = search (compress_some, c.in_ok-check_compress_wide.ensures)

pub compress_wide_in-requires-clause-block_len : goal.compress_wide_in-requires-clause-block_len
compress_wide_in-requires-clause-block_len c = search (compress_square, c.in_ok-check_compress_wide.ensures)

pub compress_wide_in-requires-clause-count_bound : goal.compress_wide_in-requires-clause-count_bound
compress_wide_in-requires-clause-count_bound c = search (compress_words, c.in_ok-check_compress_wide.ensures)

pub returns-clause-left : goal.returns-clause-left
returns-clause-left c = search (compress_done, c.in_ok-check_compress_wide.ensures)
