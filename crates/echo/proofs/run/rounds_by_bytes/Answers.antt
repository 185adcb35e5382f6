-- `rounds_by_bytes` meets its contract: a refusal leaves the square, and else the run is `run_by_bytes`'s. Assumes nothing.
use Rattle.echo.specs.Routines.{rounds_leave}
use Rattle.echo.proofs.Laws.Refusals.{refused}
use Rattle.echo.proofs.Laws.UpperHalfZero.{same_run, same_salt, same_square, same_words}
use Rattle.echo.proofs.run.rounds_by_bytes.Goals as goal

pub returns-in_err-check_rounds-clause-left : goal.returns-in_err-check_rounds-clause-left
unfolding rounds_leave
returns-in_err-check_rounds-clause-left c = search (refused, c.in_err-check_rounds.ensures)

pub sixteen-requires : goal.sixteen-requires
sixteen-requires c = search (same_salt, c.in_ok-check_rounds.ensures)

pub run_by_bytes-requires-clause-s_len : goal.run_by_bytes-requires-clause-s_len
run_by_bytes-requires-clause-s_len c = search (same_square, c.in_ok-check_rounds.ensures)

pub run_by_bytes-requires-clause-count_bound : goal.run_by_bytes-requires-clause-count_bound
run_by_bytes-requires-clause-count_bound c = search (same_words, c.in_ok-check_rounds.ensures)

pub returns-clause-left : goal.returns-clause-left
returns-clause-left c = search (same_run, c.in_ok-check_rounds.ensures)
