-- `last_counter` meets its contract. Assumes nothing.
use Rattle.std.proofs.Common.{eq-eqb, ne_eqb}
use Rattle.echo.proofs.last_blocks.last_counter.Goals as goal

pub returns-then-within-eq0 : goal.returns-then-within-eq0
returns-then-within-eq0 c = simp (eq-eqb _ _ c.if-within-eq0.true)

pub returns-else-within-eq0 : goal.returns-else-within-eq0
returns-else-within-eq0 c = simp (ne_eqb _ _ c.if-within-eq0.false)
