-- `double` meets its contract: `double_is` says so of the branch taken. Assumes nothing.
use borrow.Author.Rules.{rules}
use borrow.Author.Tests.{eq-eqb, ne_eqb}
use Rattle.aes_round.proofs.Laws.Field.{double_is}
use Rattle.aes_round.proofs.field.double.Goals as goal

pub returns-then-b-eq0 : goal.returns-then-b-eq0
returns-then-b-eq0 c = simp (eq-eqb _ _ c.if-b-eq0.true) at (double_is c.args.b (search rules))

pub returns-else-b-eq0 : goal.returns-else-b-eq0
returns-else-b-eq0 c = simp (ne_eqb _ _ c.if-b-eq0.false) at (double_is c.args.b (search rules))
