-- `clear_behind` meets its contract: `clear_is` says so of every byte. Assumes nothing.
use Rattle.std.proofs.Common.{rules}
use Rattle.echo.proofs.Laws.BitTests.{clear_is}
use Rattle.echo.proofs.bits.clear_behind.Goals as goal

pub returns : goal.returns
returns c = clear_is c.args.x c.args.used (search rules) (search rules)
