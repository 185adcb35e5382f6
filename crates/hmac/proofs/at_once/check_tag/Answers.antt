-- `check_tag` meets its contract: an opening, one piece and a check, each of which may refuse. Assumes nothing.
use Rattle.std.proofs.Common.{refl}
use Rattle.echo.proofs.Promises.{handed_on, some}
use Rattle.hmac.proofs.Laws.Opening.{open_blank, open_handed}
use Rattle.hmac.proofs.Laws.AtOnce.{check_checks, check_not_added, check_not_opened}
use Rattle.hmac.proofs.at_once.check_tag.Goals as goal

pub returns-in_err-opened : goal.returns-in_err-opened
returns-in_err-opened c =
    rw (handed_on c.from_residual.result _ c.from_residual.ensures)
    (check_not_opened _ _ _ _ _ (open_blank _ _ _ _ c.in_err-opened.ensures.refusal _ refl) _ (some _))

pub returns-in_err-whole : goal.returns-in_err-whole
returns-in_err-whole c =
    rw (handed_on c.from_residual-in_err-whole.result _ c.from_residual-in_err-whole.ensures)
    (let opened = open_handed _ _ _ _ c.in_ok-opened.ensures.refusal c.in_ok-opened.ensures.session in
    check_not_added _ _ _ _ _ opened _ refl _ c.in_err-whole.ensures (some _))

pub returns-in_err-checked : goal.returns-in_err-checked
returns-in_err-checked c =
    rw (handed_on c.from_residual-in_err-checked.result _ c.from_residual-in_err-checked.ensures)
    (let opened = open_handed _ _ _ _ c.in_ok-opened.ensures.refusal c.in_ok-opened.ensures.session in
    check_checks _ _ _ _ _ opened _ refl _ c.in_ok-whole.ensures refl _ c.in_err-checked.ensures)

pub returns : goal.returns
returns c =
    let opened = open_handed _ _ _ _ c.in_ok-opened.ensures.refusal c.in_ok-opened.ensures.session in
    check_checks _ _ _ _ _ opened _ refl _ c.in_ok-whole.ensures refl _ c.in_ok-checked.ensures
