-- Modes by their numbers. Assumes nothing.
use Rattle.std.specs.Prelude.{ℕ, cond, eqb}
use Rattle.echo.specs.declared.mode.Mode.{Mode}
use Rattle.echo.specs.declared.mode.Mode.TheVariants.{DoublePipe, SinglePipe}

-- 1 is single-pipe, and any other number double-pipe
abbrev pub mode_of : ℕ → Mode
mode_of number = cond (eqb number 1) SinglePipe DoublePipe

abbrev pub number_of : Mode → ℕ
number_of DoublePipe = 0
number_of SinglePipe = 1
