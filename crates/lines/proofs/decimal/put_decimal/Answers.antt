-- `put_decimal` meets its contract: the digits of what is left stand before those found. Assumes nothing.
use borrow.Author.Rules.{rules}
use Rattle.lines.proofs.Laws.Decimal.{all_found, first_found, first_rest, more_to_find, next_found, next_rest}
use Rattle.lines.proofs.Laws.Lines.{put_length}
use Rattle.lines.proofs.decimal.put_decimal.Goals as goal

pub loop-rest-init : goal.loop-rest-init
loop-rest-init c = (search rules, search rules, search first_rest, search first_found)

pub overflow_sub-from : goal.overflow_sub-from
overflow_sub-from c = search more_to_find

pub loop-rest-preserved : goal.loop-rest-preserved
loop-rest-preserved c = (search rules, search rules, search next_rest, search next_found)

pub shape_of-room : goal.shape_of-room
shape_of-room c = search put_length

pub returns : goal.returns
returns c = search all_found
