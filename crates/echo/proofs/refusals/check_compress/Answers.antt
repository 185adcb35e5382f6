-- `check_compress` meets its contract, a case for each return. Assumes nothing.
use Rattle.echo.proofs.Laws.Answers.{handed_on}
use Rattle.echo.proofs.Laws.Refusals.{compress_7, compress_bounded_0, compress_less}
use Rattle.echo.proofs.refusals.check_compress.Goals as goal

pub returns-in_err-check_compress_wide : goal.returns-in_err-check_compress_wide
returns-in_err-check_compress_wide c =
    rw (handed_on c.from_residual.result _ c.from_residual.ensures) (compress_less _ _ _ _ _ _ c.in_err-check_compress_wide.ensures)

pub returns-then-counter-gt-LAST_COUNTER : goal.returns-then-counter-gt-LAST_COUNTER
returns-then-counter-gt-LAST_COUNTER c = search (compress_7, c.in_ok-check_compress_wide.ensures)

pub returns : goal.returns
returns c = search (compress_bounded_0, c.in_ok-check_compress_wide.ensures)
