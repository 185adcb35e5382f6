-- `round_back` meets its contract, step by step. Assumes nothing.
use Rattle.aes_round.proofs.Laws.Rounds.{round_steps_back}
use Rattle.aes_round.proofs.rounds.round_back.Goals as goal

pub returns : goal.returns
returns c = search round_steps_back
