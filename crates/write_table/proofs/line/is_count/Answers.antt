-- `is_count` meets its contract: the line is compared with the one that the count has. Assumes nothing.
use Rattle.std.proofs.Common.{◌∙◌, ap, ◌≡◌, arith}
use Rattle.write_table.specs.Line.{count_line, same_of}
use Rattle.write_table.proofs.Laws.Line.{count_put}
use Rattle.write_table.proofs.line.is_count.Goals as goal

pub returns : goal.returns
returns c =
    let is : c.bytes.result.now ≡ count_line c.args.count = grind (arith, count_put) in
    c.is_same.ensures ∙ ap (same_of c.args.line.now) is
