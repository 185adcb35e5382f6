-- `put_back` meets its contract, with a tag: three texts, one behind the other. Assumes nothing.
use Rattle.std.proofs.Common.{arith}
use Rattle.echosum.proofs.Laws.Style.{back_put}
use Rattle.echosum.proofs.style.put_back.Goals as goal

pub returns-then-style : goal.returns-then-style
returns-then-style g c =
    let put =
    back_put _ c.args.style _ _ _ _ _ _ c.if-style.true c.end-end.ensures c.text.ensures.text c.hex.ensures.text c.text-then-style.ensures.text in
    grind (arith, put)
