-- `mix_columns_back` meets its contract: the step is the matrix. Assumes nothing.
use Rattle.std.proofs.Common.{rules}
use Rattle.aes_round.specs.Mixing.{backward}
use Rattle.echo.specs.Square.{big_mix_columns_back}
use Rattle.echo.proofs.mix_columns.mix_columns_back.Goals as goal

pub returns : goal.returns
unfolding big_mix_columns_back
returns c = c.each_column.ensures backward (λ x y k. search rules)
