-- `numbers_of` meets its contract, number by number. Assumes nothing.
use Rattle.std.proofs.Common.{◌∙◌, rules}
use Rattle.echo.proofs.Laws.FromFn.{made_by}
use Rattle.echo.proofs.Laws.SquareNumbers.{number_of, numbers_made}
use Rattle.echo.proofs.numbers.numbers_of.Goals as goal

pub returns : goal.returns
returns g c = made_by _ (number_of c.args.s.now) _ (λ i b q k. search rules) _ g.row.N c.from_fn.ensures.items ∙ numbers_made g.row.N c.args.s.now
