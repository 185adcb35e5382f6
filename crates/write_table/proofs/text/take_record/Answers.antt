-- `take_record` meets its contract: a record of a line is refused only where it finds no room. Assumes nothing.
use Rattle.write_table.proofs.Laws.Text.{record_left, record_put, record_refused, record_taken}
use Rattle.write_table.proofs.text.take_record.Goals as goal

pub returns-in-Ok-clause-step : goal.returns-in-Ok-clause-step
returns-in-Ok-clause-step c = record_taken _ c.requires.fits _ c.requires.room_len.0 _ _ c.in-Ok.ensures.answer _

pub returns-in-Ok-clause-left : goal.returns-in-Ok-clause-left
returns-in-Ok-clause-left c = record_put _ c.requires.fits _ c.requires.room_len.0 _ _ c.in-Ok.ensures.answer _ c.in-Ok.ensures.left

pub returns-in-Err-clause-step : goal.returns-in-Err-clause-step
returns-in-Err-clause-step c = record_refused _ c.requires.fits _ c.requires.room_len.0 _ _ c.in-Err.ensures.answer _

pub returns-in-Err-clause-left : goal.returns-in-Err-clause-left
returns-in-Err-clause-left c = record_left _ c.requires.fits _ c.requires.room_len.0 _ _ c.in-Err.ensures.answer _ c.in-Err.ensures.left
