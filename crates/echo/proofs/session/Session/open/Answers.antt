-- `open` meets its contract, a case for each return. Assumes nothing.
use Rattle.std.proofs.Common.{rules}
use Rattle.echo.proofs.Laws.Sessions.{admitted_most, open_0, open_1, open_2}
use Rattle.echo.proofs.session.Session.open.Goals as goal

pub returns-then-not-admitted : goal.returns-then-not-admitted
returns-then-not-admitted c = rw c.refused.ensures (search open_1)

pub returns-then-salt-ne16 : goal.returns-then-salt-ne16
returns-then-salt-ne16 c = rw c.refused-then-salt-ne16.ensures (search open_2)

pub initial-requires : goal.initial-requires
initial-requires c = search (rules, admitted_most)

pub returns : goal.returns
returns c = search open_0
