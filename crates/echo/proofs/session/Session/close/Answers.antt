-- `close` meets its contract: the lengths stand in the block's last eighteen bytes. Assumes nothing.
use Rattle.std.proofs.Common.{ap, rules}
use Rattle.echo.specs.declared.session.Session.{Session}
use Rattle.echo.proofs.Laws.Ends.{closed_block, lengths_fit, lengths_within}
use Rattle.echo.proofs.session.Session.close.Goals as goal

pub overflow_sub-at : goal.overflow_sub-at
overflow_sub-at c = search lengths_fit

pub copy_in-requires : goal.copy_in-requires
copy_in-requires c = search (lengths_within, rules)

pub returns : goal.returns
returns c = let u = ap (λ (s : Session). s.chaining) c.compress.ensures in search (closed_block, rules)
