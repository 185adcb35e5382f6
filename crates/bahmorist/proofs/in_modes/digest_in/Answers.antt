-- `digest_in` meets its contract: a number that is no mode's is refused behind all else, and any other names the mode of a digest. Assumes nothing.
use Rattle.std.specs.Prelude.{refl, true}
use Rattle.echo.proofs.Promises.{handed_on, some}
use Rattle.bahmorist.proofs.Laws.Modes.{digest_6, digest_left_on, digest_less, digest_passed_on, no_mode_leaves}
use Rattle.bahmorist.proofs.in_modes.digest_in.Goals as goal

pub returns-in_err-check_digest-clause-refusal : goal.returns-in_err-check_digest-clause-refusal
returns-in_err-check_digest-clause-refusal c =
    rw (handed_on c.from_residual.result _ c.from_residual.ensures)
    (digest_less _ _ _ _ _ true c.in_default.ensures refl _ c.in_err-check_digest.ensures (some _))

pub returns-in_err-check_digest-clause-left : goal.returns-in_err-check_digest-clause-left
returns-in_err-check_digest-clause-left c = no_mode_leaves _ _ _ _ _ true c.in_default.ensures refl _ c.in_err-check_digest.ensures

pub returns-in_default-clause-refusal : goal.returns-in_default-clause-refusal
returns-in_default-clause-refusal c = digest_6 _ _ _ _ _ true c.in_default.ensures refl _ c.in_ok-check_digest.ensures refl

pub returns-in_default-clause-left : goal.returns-in_default-clause-left
returns-in_default-clause-left c = no_mode_leaves _ _ _ _ _ true c.in_default.ensures refl _ c.in_ok-check_digest.ensures

pub returns-clause-refusal : goal.returns-clause-refusal
returns-clause-refusal c = digest_passed_on _ _ _ _ _ _ c.in-Some.ensures _ c.digest.ensures.refusal

pub returns-clause-left : goal.returns-clause-left
returns-clause-left c = digest_left_on _ _ _ _ _ _ c.in-Some.ensures _ c.digest.ensures.left
