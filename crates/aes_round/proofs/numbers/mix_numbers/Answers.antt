-- `mix_numbers` meets its contract, a row of the matrix by one doubling. Assumes nothing.
use borrow.Author.Rules.{rules}
use Rattle.aes_round.proofs.Laws.Numbers.{mix_numbers_are}
use Rattle.aes_round.proofs.numbers.mix_numbers.Goals as goal

pub returns : goal.returns
returns c = search (mix_numbers_are, rules)
