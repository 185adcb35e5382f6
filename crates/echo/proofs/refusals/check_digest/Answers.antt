-- `check_digest` meets its contract, a case for each return. Assumes nothing.
use Rattle.echo.proofs.Laws.Refusals.{digest_0, digest_1, digest_2, digest_4, digest_5}
use Rattle.echo.proofs.refusals.check_digest.Goals as goal

pub returns-then-not-admitted : goal.returns-then-not-admitted
returns-then-not-admitted c = search digest_1

pub returns-then-salt-ne16 : goal.returns-then-salt-ne16
returns-then-salt-ne16 c = search digest_2

pub returns-then-message-gt-LIMIT : goal.returns-then-message-gt-LIMIT
returns-then-message-gt-LIMIT c = search digest_4

pub returns-then-room-bits : goal.returns-then-room-bits
returns-then-room-bits c = search digest_5

pub returns : goal.returns
returns c = search digest_0
