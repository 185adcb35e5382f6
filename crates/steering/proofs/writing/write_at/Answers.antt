-- `write_at` meets its contract, a case for each return. Assumes nothing.
use Rattle.steering.proofs.Laws.Writing.{answer_12, answer_5, answer_done, body_in_room}
use Rattle.steering.proofs.Laws.Writing.{left_12, left_5, left_done}
use Rattle.steering.proofs.writing.write_at.Goals as goal

pub returns-then-is_short-clause-answer : goal.returns-then-is_short-clause-answer
returns-then-is_short-clause-answer c = search answer_5

pub returns-then-is_short-clause-left : goal.returns-then-is_short-clause-left
returns-then-is_short-clause-left c = search left_5

pub returns-then-is_too_high-clause-answer : goal.returns-then-is_too_high-clause-answer
returns-then-is_too_high-clause-answer c = search answer_12

pub returns-then-is_too_high-clause-left : goal.returns-then-is_too_high-clause-left
returns-then-is_too_high-clause-left c = search left_12

pub put_body-requires : goal.put_body-requires
put_body-requires c = search body_in_room

pub returns-clause-answer : goal.returns-clause-answer
returns-clause-answer c = search answer_done

pub returns-clause-left : goal.returns-clause-left
returns-clause-left c = search left_done
