-- `compress` meets its contract: a refusal leaves the chaining variable, and else it is `compress_wide` with the upper half zero. Assumes nothing.
use Rattle.echo.specs.Routines.{compress_leaves}
use Rattle.echo.proofs.Laws.Refusals.{refused}
use Rattle.echo.proofs.Laws.UpperHalfZero.{same_compress_refusal, same_compression}
use Rattle.echo.proofs.compression.compress.Goals as goal

pub returns-in_err-check_compress-clause-left : goal.returns-in_err-check_compress-clause-left
unfolding compress_leaves
returns-in_err-check_compress-clause-left c = search (refused, c.in_err-check_compress.ensures)

pub returns-clause-refusal : goal.returns-clause-refusal
returns-clause-refusal c = search (same_compress_refusal, c.in_ok-check_compress.ensures)

pub returns-clause-left : goal.returns-clause-left
returns-clause-left c = search (same_compression, c.in_ok-check_compress.ensures)
