-- `number` meets its contract: of a number below 0 there is no other than 0. Assumes nothing.
use Rattle.lines.proofs.Laws.Numbers.{number_tried}
use Rattle.lines.proofs.reasons.number.Goals as goal

pub returns : goal.returns
returns c = number_tried _ _ _ c.ranges.error c.try_from.ensures c.unwrap_or.ensures
