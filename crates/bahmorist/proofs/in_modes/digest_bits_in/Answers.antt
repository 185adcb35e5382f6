-- `digest_bits_in` meets its contract: a number that is no mode's is refused behind 1, 2, 4 and 5, and any other names the mode. Assumes nothing.
use Rattle.std.specs.Prelude.{refl, true}
use Rattle.echo.proofs.Promises.{handed_on, some}
use Rattle.bahmorist.proofs.Laws.Modes.{bits_6, bits_left_on, bits_less, bits_no_mode_leaves, bits_passed_on}
use Rattle.bahmorist.proofs.in_modes.digest_bits_in.Goals as goal

pub returns-in_err-check_digest-clause-refusal : goal.returns-in_err-check_digest-clause-refusal
returns-in_err-check_digest-clause-refusal c =
    rw (handed_on c.from_residual.result _ c.from_residual.ensures)
    (bits_less _ _ _ _ _ _ true c.in_default.ensures refl _ c.in_err-check_digest.ensures (some _))

pub returns-in_err-check_digest-clause-left : goal.returns-in_err-check_digest-clause-left
returns-in_err-check_digest-clause-left c = bits_no_mode_leaves _ _ _ _ _ _ true c.in_default.ensures refl

pub returns-in_default-clause-refusal : goal.returns-in_default-clause-refusal
returns-in_default-clause-refusal c = bits_6 _ _ _ _ _ _ true c.in_default.ensures refl _ c.in_ok-check_digest.ensures refl

pub returns-in_default-clause-left : goal.returns-in_default-clause-left
returns-in_default-clause-left c = bits_no_mode_leaves _ _ _ _ _ _ true c.in_default.ensures refl

pub returns-clause-refusal : goal.returns-clause-refusal
returns-clause-refusal c = bits_passed_on _ _ _ _ _ _ _ c.in-Some.ensures _ c.digest_bits.ensures.refusal

pub returns-clause-left : goal.returns-clause-left
returns-clause-left c = bits_left_on _ _ _ _ _ _ _ c.in-Some.ensures _ c.digest_bits.ensures.left
