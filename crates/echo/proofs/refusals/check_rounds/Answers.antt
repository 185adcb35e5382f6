-- `check_rounds` meets its contract, a case for each return. Assumes nothing.
use Rattle.echo.proofs.Laws.Answers.{handed_on}
use Rattle.echo.proofs.Laws.Refusals.{rounds_7, rounds_bounded_0, rounds_less}
use Rattle.echo.proofs.refusals.check_rounds.Goals as goal

pub returns-in_err-check_rounds_wide : goal.returns-in_err-check_rounds_wide
returns-in_err-check_rounds_wide c =
    rw (handed_on c.from_residual.result _ c.from_residual.ensures) (rounds_less _ _ _ _ _ c.in_err-check_rounds_wide.ensures)

pub returns-then-counter-gt-LAST_COUNTER : goal.returns-then-counter-gt-LAST_COUNTER
returns-then-counter-gt-LAST_COUNTER c = search (rounds_7, c.in_ok-check_rounds_wide.ensures)

pub returns : goal.returns
returns c = search (rounds_bounded_0, c.in_ok-check_rounds_wide.ensures)
