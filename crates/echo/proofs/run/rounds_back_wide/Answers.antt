-- `rounds_back_wide` meets its contract: a refusal leaves the square, and else the run is `run_back`'s. Assumes nothing.
use Rattle.echo.specs.Routines.{rounds_back_wide_leave}
use Rattle.echo.specs.Square.{rounds_back}
use Rattle.echo.proofs.Laws.Refusals.{refused, rounds_done, rounds_salt, rounds_square, rounds_words}
use Rattle.echo.proofs.run.rounds_back_wide.Goals as goal

pub returns-in_err-check_rounds_wide-clause-left : goal.returns-in_err-check_rounds_wide-clause-left
unfolding rounds_back_wide_leave
returns-in_err-check_rounds_wide-clause-left c = search (refused, c.in_err-check_rounds_wide.ensures)

pub sixteen-requires : goal.sixteen-requires
sixteen-requires c = search (rounds_salt, c.in_ok-check_rounds_wide.ensures)

pub run_back-requires-clause-s_len : goal.run_back-requires-clause-s_len
run_back-requires-clause-s_len c = search (rounds_square, c.in_ok-check_rounds_wide.ensures)

pub run_back-requires-clause-count_bound : goal.run_back-requires-clause-count_bound
run_back-requires-clause-count_bound c = search (rounds_words, c.in_ok-check_rounds_wide.ensures)

pub returns-clause-left : goal.returns-clause-left
unfolding rounds_back_wide_leave
returns-clause-left c = search (rounds_done rounds_back, c.in_ok-check_rounds_wide.ensures)
