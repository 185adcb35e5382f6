-- `round_count` meets its contract. Assumes nothing.
use Rattle.echo.proofs.Laws.Families.{rounds_10, rounds_8}
use Rattle.echo.proofs.compression.round_count.Goals as goal

pub returns-then-chaining-chaining_size : goal.returns-then-chaining-chaining_size
returns-then-chaining-chaining_size c = search rounds_8

pub returns-else-chaining-chaining_size : goal.returns-else-chaining-chaining_size
returns-else-chaining-chaining_size c = search rounds_10
