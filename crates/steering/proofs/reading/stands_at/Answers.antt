-- `stands_at` meets its contract: at each return the tests that led there say which case of `read_at` holds. Assumes nothing.
use Rattle.steering.proofs.Laws.Reading.{at_end, cut, no_kind, past_end, stands, too_long}
use Rattle.steering.proofs.reading.stands_at.Goals as goal

pub returns-then-n-place : goal.returns-then-n-place
returns-then-n-place c = search past_end

pub returns-then-n-gt4096 : goal.returns-then-n-gt4096
returns-then-n-gt4096 c = search too_long

pub returns-then-place-n : goal.returns-then-place-n
returns-then-place-n c = search at_end

pub returns-in_default : goal.returns-in_default
returns-in_default c = search (no_kind, c.in_default.ensures.1)

pub returns-then-n-at : goal.returns-then-n-at
returns-then-n-at c = search (cut, c.in-Ok.ensures)

pub returns-clause-reading : goal.returns-clause-reading
returns-clause-reading c = search (stands, c.in-Ok.ensures)
