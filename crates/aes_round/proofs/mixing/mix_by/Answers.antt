-- `mix_by` meets its contract, row by row. Assumes nothing.
use Rattle.std.proofs.Common.{sym}
use Rattle.aes_round.specs.Bytes.{tab}
use Rattle.aes_round.specs.Mixing.{mix_column}
use Rattle.aes_round.proofs.Laws.Mixing.{four}
use Rattle.aes_round.proofs.mixing.mix_by.Goals as goal

pub returns : goal.returns
unfolding mix_column tab
returns g c = let e = c.coefficients-m.ensures in rw (sym e) (search four)
