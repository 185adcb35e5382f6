-- `put_tag` meets its contract: five texts, one behind the other. Assumes nothing.
use Rattle.std.proofs.Common.{arith}
use Rattle.echosum.proofs.Laws.Style.{tag_put}
use Rattle.echosum.proofs.style.put_tag.Goals as goal

pub returns : goal.returns
returns g c =
    let put =
    tag_put _ _ _ _ _ _ _ _ _ _ _ c.text.ensures.text c.decimal.ensures.text c.mode_text.ensures c.text-2.ensures.text c.hex.ensures.text
    c.text-3.ensures.text in
    grind (arith, put)
