-- `sub_words` meets its contract: what the step makes of a word. Assumes nothing.
use Rattle.std.proofs.Common.{rules}
use Rattle.aes_round.specs.Rounds.{aes_round}
use Rattle.echo.specs.Numbers.{halves}
use Rattle.echo.specs.Square.{big_sub_words, wide_keys_from}
use Rattle.echo.proofs.sub_words.sub_words.Goals as goal

pub returns : goal.returns
unfolding big_sub_words
returns c =
    c.each_word.ensures
    (λ w n. aes_round (aes_round w (wide_keys_from (halves c.args.counter.low c.args.counter.high) n)) c.args.salt)
    (λ w n t k. search rules)
