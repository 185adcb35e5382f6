-- `blank` meets its contract. Assumes nothing.
use Rattle.std.proofs.Common.{refl}
use Rattle.echo.specs.Session.{blank}
use Rattle.echo.proofs.session.Session.blank.Goals as goal

pub returns : goal.returns
unfolding blank
returns c = refl
