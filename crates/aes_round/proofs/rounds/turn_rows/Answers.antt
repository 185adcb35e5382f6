-- `turn_rows` meets its contract, place by place. Assumes nothing.
use Rattle.std.proofs.Common.{rules}
use Rattle.aes_round.proofs.Laws.Made.{made}
use Rattle.aes_round.proofs.rounds.turn_rows.Goals as goal

pub returns : goal.returns
returns g c = made _ 16 _ _ (λ i y f' l call. search rules) _ c.from_fn.ensures.items
