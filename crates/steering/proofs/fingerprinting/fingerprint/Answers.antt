-- `fingerprint` meets its contract, a case for each return. Assumes nothing.
use Rattle.echo.proofs.Promises.{handed_on}
use Rattle.steering.proofs.Laws.Answers.{refuses}
use Rattle.steering.proofs.Laws.Fingerprint.{left_digest, left_refused}
use Rattle.steering.proofs.fingerprinting.fingerprint.Goals as goal

pub returns-in_err-refusal_of-clause-answer : goal.returns-in_err-refusal_of-clause-answer
returns-in_err-refusal_of-clause-answer c =
    rw (handed_on c.from_residual.result _ c.from_residual.ensures) (search c.in_err-refusal_of.ensures)

pub returns-in_err-refusal_of-clause-left : goal.returns-in_err-refusal_of-clause-left
returns-in_err-refusal_of-clause-left c = search (left_refused, refuses, c.in_err-refusal_of.ensures)

pub returns-clause-left : goal.returns-clause-left
returns-clause-left c = search (left_digest, c.in_ok-refusal_of.ensures)
