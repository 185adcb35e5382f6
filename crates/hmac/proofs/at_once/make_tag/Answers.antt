-- `make_tag` meets its contract: an opening, one piece and a reading, each of which may refuse. Assumes nothing.
use Rattle.std.proofs.Common.{refl}
use Rattle.echo.proofs.Promises.{handed_on, some}
use Rattle.hmac.proofs.Laws.Opening.{open_blank, open_handed}
use Rattle.hmac.proofs.Laws.AtOnce.{left_not_added, left_not_opened, left_reads, make_not_added, make_not_opened, make_reads}
use Rattle.hmac.proofs.at_once.make_tag.Goals as goal

pub returns-in_err-opened-clause-refusal : goal.returns-in_err-opened-clause-refusal
returns-in_err-opened-clause-refusal c =
    rw (handed_on c.from_residual.result _ c.from_residual.ensures)
    (make_not_opened _ _ _ _ _ (open_blank _ _ _ _ c.in_err-opened.ensures.refusal _ refl) _ (some _))

pub returns-in_err-opened-clause-left : goal.returns-in_err-opened-clause-left
returns-in_err-opened-clause-left c = left_not_opened _ _ _ _ _ (open_blank _ _ _ _ c.in_err-opened.ensures.refusal _ refl) _ (some _)

pub returns-in_err-whole-clause-refusal : goal.returns-in_err-whole-clause-refusal
returns-in_err-whole-clause-refusal c =
    rw (handed_on c.from_residual-in_err-whole.result _ c.from_residual-in_err-whole.ensures)
    (let opened = open_handed _ _ _ _ c.in_ok-opened.ensures.refusal c.in_ok-opened.ensures.session in
    make_not_added _ _ _ _ _ opened _ refl _ c.in_err-whole.ensures (some _))

pub returns-in_err-whole-clause-left : goal.returns-in_err-whole-clause-left
returns-in_err-whole-clause-left c =
    let opened = open_handed _ _ _ _ c.in_ok-opened.ensures.refusal c.in_ok-opened.ensures.session in
    left_not_added _ _ _ _ _ opened _ refl _ c.in_err-whole.ensures (some _)

pub returns-clause-refusal : goal.returns-clause-refusal
returns-clause-refusal c =
    let opened = open_handed _ _ _ _ c.in_ok-opened.ensures.refusal c.in_ok-opened.ensures.session in
    make_reads _ _ _ _ _ opened _ refl _ c.in_ok-whole.ensures refl _ c.put_tag.ensures.refusal

pub returns-clause-left : goal.returns-clause-left
returns-clause-left c =
    let opened = open_handed _ _ _ _ c.in_ok-opened.ensures.refusal c.in_ok-opened.ensures.session in
    left_reads _ _ _ _ _ opened _ refl _ c.in_ok-whole.ensures refl _ c.put_tag.ensures.left
