-- `column` meets its contract, place by place. Assumes nothing.
use Rattle.std.proofs.Common.{◌∙◌, rules}
use Rattle.aes_round.proofs.Laws.Made.{made}
use Rattle.aes_round.proofs.Laws.Rounds.{column_is}
use Rattle.aes_round.proofs.rounds.column.Goals as goal

pub returns : goal.returns
returns c = made _ 4 _ _ (λ i y f' l call. search rules) _ c.from_fn.ensures.items ∙ column_is _ _
