-- `put_reason` meets its contract. Assumes nothing.
use Rattle.lines.proofs.Laws.Numbers.{reason_of_lem}
use Rattle.lines.proofs.reasons.put_reason.Goals as goal

pub returns : goal.returns
returns c = reason_of_lem _ c.ranges.error _ c.number.ensures _ _ _ _ c.put_number.ensures
