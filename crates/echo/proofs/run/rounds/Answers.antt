-- `rounds` meets its contract: a refusal leaves the square, and else it is `rounds_wide` with the upper half zero. Assumes nothing.
use Rattle.echo.specs.Routines.{rounds_leave}
use Rattle.echo.proofs.Laws.Refusals.{refused}
use Rattle.echo.proofs.Laws.UpperHalfZero.{same_rounds, same_rounds_refusal}
use Rattle.echo.proofs.run.rounds.Goals as goal

pub returns-in_err-check_rounds-clause-left : goal.returns-in_err-check_rounds-clause-left
unfolding rounds_leave
returns-in_err-check_rounds-clause-left c = search (refused, c.in_err-check_rounds.ensures)

pub returns-clause-refusal : goal.returns-clause-refusal
returns-clause-refusal c = search (same_rounds_refusal, c.in_ok-check_rounds.ensures)

pub returns-clause-left : goal.returns-clause-left
returns-clause-left c = search (same_rounds, c.in_ok-check_rounds.ensures)
