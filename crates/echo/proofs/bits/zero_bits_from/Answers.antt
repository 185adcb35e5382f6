-- `zero_bits_from` meets its contract: past the end there is no bit, and else the byte at the place and those behind it decide. Assumes nothing.
use Rattle.std.proofs.Common.{rules}
use Rattle.echo.proofs.Laws.BitTests.{zero_not, zero_past, zero_rest}
use Rattle.echo.proofs.bits.zero_bits_from.Goals as goal

pub returns-in-None : goal.returns-in-None
returns-in-None c = search (rules, zero_past)

pub returns-then-clear_behind : goal.returns-then-clear_behind
returns-then-clear_behind c = search (rules, zero_rest)

pub returns-else-clear_behind : goal.returns-else-clear_behind
returns-else-clear_behind c = search (rules, zero_not)
