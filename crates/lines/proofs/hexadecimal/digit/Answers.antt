-- `digit` meets its contract: its test is the definition's. Assumes nothing.
use borrow.Author.Tests.{le-ltb, lt-ltb}
use native.Mathlib.Omega.{arith}
use Rattle.lines.proofs.hexadecimal.digit.Goals as goal

pub returns-then-value-lt10 : goal.returns-then-value-lt10
returns-then-value-lt10 c = simp (lt-ltb _ _ c.if-value-lt10.true)

pub returns-else-value-lt10 : goal.returns-else-value-lt10
returns-else-value-lt10 c = simp (le-ltb _ _ c.if-value-lt10.false) (omega arith)
