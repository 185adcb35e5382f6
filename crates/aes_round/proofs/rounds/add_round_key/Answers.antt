use Rattle.std.proofs.Common.{rules}
use Rattle.aes_round.proofs.Laws.Made.{made}
use Rattle.aes_round.specs.Bytes.{xor, xor_bytes}
use Rattle.aes_round.specs.Rounds.{add_round_key}
use Rattle.aes_round.proofs.rounds.add_round_key.Goals as goal

pub returns : goal.returns
unfolding add_round_key xor_bytes xor
returns c = made _ 16 _ _ (λ i y f' l call. search rules) _ c.from_fn.ensures.items
