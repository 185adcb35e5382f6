-- `admitted` meets its contract, by the tests of its branches. Assumes nothing.
use Rattle.std.proofs.Common.{◌<◌, ◌≤◌, ◌∙◌, ⊎_elim, arith, le-leb}
use borrow.Author.Tests.{lt-leb}
use Rattle.echo.specs.Session.{admitted}
use Rattle.echo.proofs.families.admitted.Goals.{then-bits-ge128, else-bits-ge128}
use Rattle.echo.proofs.families.admitted.Goals as goal

pub returns-then-bits-le512 : goal.returns-then-bits-le512
unfolding admitted
returns-then-bits-le512 c =
    let least : 128 ≤ c.args.bits = omega arith in
    let most : c.args.bits ≤ 512 = omega arith in
    simp (le-leb _ _ least, le-leb _ _ most)

pub returns-else-bits-le512 : goal.returns-else-bits-le512
unfolding admitted
returns-else-bits-le512 c =
    elim c.if-bits-ge128.branch [
      | then-bits-ge128 w ↦
          let more : 512 < c.args.bits = ⊎_elim (λ h. omega arith) (λ h. absurd (omega arith)) c.if-bits-le512.either in
          w.t-3-is ∙ simp (le-leb _ _ w.if-bits-ge128.true, lt-leb _ _ more)
      | else-bits-ge128 w ↦ w.t-3-is ∙ simp (lt-leb _ _ w.if-bits-ge128.false)
    ]
