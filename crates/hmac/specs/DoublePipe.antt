-- ECHO as it stands under a tag: in double-pipe. Assumes nothing.
use Rattle.std.specs.Prelude.{Bool, true, false, List, ℕ}
use Rattle.echo.specs.declared.mode.Mode.{Mode}
use Rattle.echo.specs.declared.mode.Mode.TheVariants.{DoublePipe, SinglePipe}
use Rattle.echo.specs.declared.session.Session.{Session}
use Rattle.echo.specs.Digest as Digest
use Rattle.echo.specs.Families as Families
use Rattle.echo.specs.Session as Session

abbrev pub is_double_pipe : Mode → Bool
is_double_pipe DoublePipe = true
is_double_pipe SinglePipe = false

abbrev pub block_size : ℕ → ℕ
block_size h = Families.block_size DoublePipe h

abbrev pub digest_of : ℕ → List ℕ → List ℕ → List ℕ
digest_of h salt message = Digest.digest_of DoublePipe h salt message

abbrev pub opened : ℕ → List ℕ → Session
opened h salt = Session.opened DoublePipe h salt
