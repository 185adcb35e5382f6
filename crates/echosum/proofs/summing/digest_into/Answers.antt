-- `digest_into` keeps its promise: a digest that was read fits its room. Assumes nothing.
use Rattle.std.proofs.Common.{ap, arith, sym}
use Rattle.echo.specs.Answers.{Answer}
use Rattle.echo.proofs.Promises.{read_fits}
use Rattle.echosum.proofs.summing.digest_into.Goals as goal

pub returns-in-Ok : goal.returns-in-Ok
returns-in-Ok c = omega (arith, read_fits _ _ (sym (ap (λ (r : Answer). r.refusal) c.in-Ok.ensures.answer)))
