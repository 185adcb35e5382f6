-- `marked` meets its contract: where no bit is set below, the sum is a byte. Assumes nothing.
use Rattle.std.proofs.Common.{rules}
use Rattle.echo.proofs.Laws.BitTests.{mark_fits, mark_is}
use Rattle.echo.proofs.bits.marked.Goals as goal

pub overflow_add-result : goal.overflow_add-result
overflow_add-result c = search (mark_fits, rules)

pub returns : goal.returns
returns c = search mark_is
