-- `lengths` meets its contract: std's bytes, in two parts. Assumes nothing.
use Rattle.std.proofs.Common.{rules}
use Rattle.echo.proofs.Laws.Numbers.{lengths_are}
use Rattle.echo.proofs.last_blocks.lengths.Goals as goal

pub returns : goal.returns
returns c = search (lengths_are, rules)
