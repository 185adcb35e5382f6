-- `write_body_at` meets its contract, a case for each return: the record of that kind and body has these bytes. Assumes nothing.
use Rattle.steering.proofs.Laws.Writing.{body_answer, body_answer_10, body_answer_5, body_answer_9, body_left, body_left_10, body_left_5, body_left_9}
use Rattle.steering.proofs.writing.write_body_at.Goals as goal

pub returns-then-is_short-clause-answer : goal.returns-then-is_short-clause-answer
returns-then-is_short-clause-answer c = search body_answer_5

pub returns-then-is_short-clause-left : goal.returns-then-is_short-clause-left
returns-then-is_short-clause-left c = search body_left_5

pub returns-in_default-clause-answer : goal.returns-in_default-clause-answer
returns-in_default-clause-answer c = search (body_answer_9, c.in_default.ensures.1)

pub returns-in_default-clause-left : goal.returns-in_default-clause-left
returns-in_default-clause-left c = search (body_left_9, c.in_default.ensures.1)

pub returns-then-body_length-body-clause-answer : goal.returns-then-body_length-body-clause-answer
returns-then-body_length-body-clause-answer c = search (body_answer_10, c.in-Ok.ensures)

pub returns-then-body_length-body-clause-left : goal.returns-then-body_length-body-clause-left
returns-then-body_length-body-clause-left c = search (body_left_10, c.in-Ok.ensures)

pub returns-clause-answer : goal.returns-clause-answer
returns-clause-answer c = search (body_answer, c.in-Ok.ensures, c.type_inv.body)

pub returns-clause-left : goal.returns-clause-left
returns-clause-left c = search (body_left, c.in-Ok.ensures, c.type_inv.body)
