-- `verify_tag` meets its contract: a check's refusal, or whether it says yes. Assumes nothing.
use Rattle.std.proofs.Common.{refl}
use Rattle.echo.proofs.Promises.{some}
use Rattle.hmac.proofs.Laws.Verified.{verify_refused, verify_right, verify_wrong}
use Rattle.hmac.proofs.at_once.verify_tag.Goals as goal

pub returns-in-Ok-true : goal.returns-in-Ok-true
returns-in-Ok-true c = verify_right _ _ _ _ _ _ c.in-Ok-true.ensures refl c.in-Ok-true.field-0-test

pub returns-in-Ok-false : goal.returns-in-Ok-false
returns-in-Ok-false c = verify_wrong _ _ _ _ _ _ c.in-Ok-false.ensures refl c.in-Ok-false.field-0-test

pub returns-in-Err : goal.returns-in-Err
returns-in-Err c = verify_refused _ _ _ _ _ _ c.in-Err.ensures (some _)
