-- `compress_in` meets its contract: a number that is no mode's is refused behind the salt, and any other names the mode. Assumes nothing.
use Rattle.echo.proofs.Promises.{handed_on}
use Rattle.bahmorist.proofs.Laws.Modes.{compress_left_on, compress_no_mode, compress_passed_on, no_mode_keeps}
use Rattle.bahmorist.proofs.in_modes.compress_in.Goals as goal

pub returns-in_err-named-clause-refusal : goal.returns-in_err-named-clause-refusal
returns-in_err-named-clause-refusal c =
    rw (handed_on c.from_residual.result _ c.from_residual.ensures) (compress_no_mode _ _ _ _ _ _ c.in_err-named.ensures)

pub returns-in_err-named-clause-left : goal.returns-in_err-named-clause-left
returns-in_err-named-clause-left c = no_mode_keeps _ _ _ _ _ _ c.in_err-named.ensures

pub returns-clause-refusal : goal.returns-clause-refusal
returns-clause-refusal c = compress_passed_on _ _ _ _ _ _ c.in_ok-named.ensures _ c.compress.ensures.refusal

pub returns-clause-left : goal.returns-clause-left
returns-clause-left c = compress_left_on _ _ _ _ _ _ c.in_ok-named.ensures _ c.compress.ensures.left
