-- `refusal_of` meets its contract, a case for each return. Assumes nothing.
use Rattle.echo.proofs.Promises.{handed_on}
use Rattle.steering.proofs.Laws.Fingerprint.{print_2, print_5, print_accepted, print_refused}
use Rattle.steering.proofs.fingerprinting.refusal_of.Goals as goal

pub returns-then-salt-ne16 : goal.returns-then-salt-ne16
returns-then-salt-ne16 c = search print_2

pub returns-then-room-lt32 : goal.returns-then-room-lt32
returns-then-room-lt32 c = search print_5

pub returns-in_err-count : goal.returns-in_err-count
returns-in_err-count c =
    rw (handed_on c.from_residual.result _ c.from_residual.ensures) (search (print_refused, c.in_err-count.ensures))

pub returns : goal.returns
returns c = search (print_accepted, c.in_ok-count.ensures)
