-- `mix_columns` meets its contract: the step is the matrix. Assumes nothing.
use Rattle.std.proofs.Common.{rules}
use Rattle.aes_round.specs.Mixing.{forward}
use Rattle.echo.specs.Square.{big_mix_columns}
use Rattle.echo.proofs.mix_columns.mix_columns.Goals as goal

pub returns : goal.returns
unfolding big_mix_columns
returns c = c.each_column.ensures forward (λ x y k. search rules)
