-- `put_line` meets its contract: what stands in front of the name fits its line. Assumes nothing.
use Rattle.std.proofs.Common.{arith}
use Rattle.echosum.proofs.Laws.Style.{line_as_it_is, line_named}
use Rattle.echosum.proofs.style.put_line.Goals as goal
use Rattle.echosum.proofs.style.put_line.Goals.{then-style, else-style}

pub returns : goal.returns
returns g c =
    λ d s.
    elim c.if-style.branch [
      | then-style w ↦
          line_as_it_is c.args.style _ _ _ _ _ c.new-front.ensures c.put_front.ensures w.bytes.ensures.text _ _ _ _ _ _ w.line-is (grind arith)
          c.put_back.ensures w.if-style.true _ w.text.ensures.text w.text-then-style.ensures.text d s
      | else-style w ↦
          line_named c.args.style _ _ _ _ _ c.new-front.ensures c.put_front.ensures w.bytes-else-style.ensures.text _ _ _ _ _ _ w.line-is (grind arith)
          c.put_back.ensures w.if-style.false w.named.ensures.text d s
    ]
