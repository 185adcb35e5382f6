-- `chaining_size` meets its contract, a case for each return. Assumes nothing.
use Rattle.echo.proofs.Laws.Families.{chaining_double_long, chaining_double_short, chaining_single_long, chaining_single_short}
use Rattle.echo.proofs.families.chaining_size.Goals as goal

pub returns-then-bits-le256 : goal.returns-then-bits-le256
returns-then-bits-le256 c = search chaining_double_short

pub returns-else-bits-le256 : goal.returns-else-bits-le256
returns-else-bits-le256 c = search chaining_double_long

pub returns-then-bits-le256-2 : goal.returns-then-bits-le256-2
returns-then-bits-le256-2 c = search chaining_single_short

pub returns-else-bits-le256-2 : goal.returns-else-bits-le256-2
returns-else-bits-le256-2 c = search chaining_single_long
