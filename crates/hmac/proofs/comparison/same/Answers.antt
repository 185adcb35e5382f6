-- `same` meets its contract: the loop takes the bits together in which the bytes differ. Assumes nothing.
use borrow.Author.Rules.{rules}
use Rattle.hmac.proofs.Laws.Same.{more_bits, no_bits, other_length, same_by_bits}
use Rattle.hmac.proofs.comparison.same.Goals as goal

pub returns-then-b-n : goal.returns-then-b-n
returns-then-b-n c = search other_length

pub loop-i-init : goal.loop-i-init
loop-i-init c = (search rules, search rules, search rules, search no_bits)

pub loop-i-preserved : goal.loop-i-preserved
loop-i-preserved c = (search rules, search rules, search rules, search more_bits)

pub returns : goal.returns
returns c = search same_by_bits
