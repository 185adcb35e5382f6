-- `check_rounds_wide` meets its contract, a case for each return. Assumes nothing.
use Rattle.echo.proofs.Laws.Refusals.{rounds_0, rounds_2, rounds_6_count, rounds_6_square}
use Rattle.echo.proofs.refusals.check_rounds_wide.Goals as goal

pub returns-then-salt-ne16 : goal.returns-then-salt-ne16
returns-then-salt-ne16 c = search rounds_2

pub returns-then-square-ne256 : goal.returns-then-square-ne256
returns-then-square-ne256 c = search rounds_6_square

pub returns-then-not-is_round_count : goal.returns-then-not-is_round_count
returns-then-not-is_round_count c = search rounds_6_count

pub returns : goal.returns
returns c = search rounds_0
