-- `table_in` meets its contract: the text is what the line so far, the records before it and the bytes to come make of it. Assumes nothing.
use Rattle.std.proofs.Common.{◌∙◌, ap, Ok}
use Rattle.std.proofs.lemmas.Result.{err_from_is_err_and}
use borrow.Author.Rules.{rules}
use Rattle.write_table.proofs.Laws.Text.{bad_is, bad_made, left_is, made_is, next_line, next_long, next_size, one_byte}
use Rattle.write_table.proofs.text.table_in.Goals as goal

pub loop-i-preserved-then-byte-ne10 : goal.loop-i-preserved-then-byte-ne10
loop-i-preserved-then-byte-ne10 c = (search rules, search rules, search rules, search rules, search one_byte)

pub returns-in_err-longer-clause-made : goal.returns-in_err-longer-clause-made
returns-in_err-longer-clause-made c =
    let p = err_from_is_err_and c.from_residual.result c.from_residual.ensures.1 in
    rw (p.1, p.2)
    (bad_is _ _ _ _ _ _ _ c.loop-i.invariant c.loop-i-test.true c.if-byte-ne10.false _ c.is_end-is_last.ensures _ c.take_line.ensures.step _
    c.take_line.ensures.left _ c.in_err-longer.was)

pub returns-in-Over-clause-made : goal.returns-in-Over-clause-made
returns-in-Over-clause-made c =
    made_is _ _ _ _ _ _ _ c.loop-i.invariant c.loop-i-test.true c.if-byte-ne10.false _ c.is_end-is_last.ensures _ c.take_line.ensures.step _
    c.take_line.ensures.left _ (c.in_ok-longer.was ∙ ap Ok c.in-Over.is)

pub returns-in-Over-clause-left : goal.returns-in-Over-clause-left
returns-in-Over-clause-left c =
    left_is _ _ _ _ _ _ _ c.loop-i.invariant c.loop-i-test.true c.if-byte-ne10.false _ c.is_end-is_last.ensures _ c.take_line.ensures.step _
    c.take_line.ensures.left _ (c.in_ok-longer.was ∙ ap Ok c.in-Over.is)

pub loop-i-preserved : goal.loop-i-preserved
loop-i-preserved c =
    let more = c.in_ok-longer.was ∙ ap Ok c.in-More.is in (
      search rules,
      search rules,
      next_size _ _ _ _ _ _ _ c.loop-i.invariant c.loop-i-test.true c.if-byte-ne10.false _ c.is_end-is_last.ensures _ c.take_line.ensures.step _
          c.take_line.ensures.left _ more,
      search next_long,
      next_line _ _ _ _ _ _ _ c.loop-i.invariant c.loop-i-test.true c.if-byte-ne10.false _ c.is_end-is_last.ensures _ c.take_line.ensures.step _
          c.take_line.ensures.left _ more,
    )

pub returns-clause-made : goal.returns-clause-made
returns-clause-made c = search bad_made
