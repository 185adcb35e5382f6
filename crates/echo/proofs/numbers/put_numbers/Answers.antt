-- `put_numbers` meets its contract, a number a turn. Assumes nothing.
use Rattle.std.proofs.Common.{rules}
use Rattle.aes_round.proofs.Promises.{fill_none}
use Rattle.echo.proofs.Laws.SquareNumbers.{all_numbers, next_number}
use Rattle.echo.proofs.numbers.put_numbers.Goals as goal

pub loop-k-init : goal.loop-k-init
loop-k-init c = (search rules, fill_none _ _ _ (search rules))

pub loop-k-preserved : goal.loop-k-preserved
loop-k-preserved c = (search rules, search next_number)

pub returns : goal.returns
returns c = search all_numbers
