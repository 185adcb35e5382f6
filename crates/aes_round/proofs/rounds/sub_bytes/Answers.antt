-- `sub_bytes` meets its contract, byte by byte. Assumes nothing.
use Rattle.std.proofs.Common.{rules}
use Rattle.aes_round.proofs.Laws.Made.{mapped}
use Rattle.aes_round.proofs.rounds.sub_bytes.Goals as goal

pub returns : goal.returns
returns g c = mapped _ 16 g.W.Way.byte _ (λ x y f' call. search rules) _ _ c.map.ensures.items
