-- `mix_columns` meets its contract: the bytes of the mixed columns, one after another. Assumes nothing.
use Rattle.std.proofs.Common.{[], ◌∙◌, rules}
use Rattle.aes_round.proofs.Laws.Made.{made, made_at}
use Rattle.aes_round.proofs.Laws.Rounds.{mix_columns_are}
use Rattle.aes_round.proofs.rounds.mix_columns.Goals as goal

pub returns : goal.returns
returns g c =
    made _ 16 _ _ (λ i y f' l call. search rules) _ c.from_fn.ensures.items
    ∙ mix_columns_are _ _ _ (made_at _ 4 _ _ (λ i y f' l call. search rules) _ [] c.from_fn-mixed.ensures.items)
