-- `take_line` meets its contract, a case for each case of a line. Assumes nothing.
use Rattle.write_table.proofs.Laws.Text.{leaves_is, line_fits, step_is, step_of_record}
use Rattle.write_table.proofs.text.take_line.Goals as goal

pub take_record-requires-clause-fits : goal.take_record-requires-clause-fits
take_record-requires-clause-fits c = search line_fits

pub returns-in-Record-clause-step : goal.returns-in-Record-clause-step
returns-in-Record-clause-step c = search step_of_record

pub returns-in-Record-clause-left : goal.returns-in-Record-clause-left
returns-in-Record-clause-left c = search leaves_is

pub returns-in-Count-clause-step : goal.returns-in-Count-clause-step
returns-in-Count-clause-step c = search step_is

pub returns-in-Count-clause-left : goal.returns-in-Count-clause-left
returns-in-Count-clause-left c = search leaves_is

pub returns-in-Unreadable-clause-step : goal.returns-in-Unreadable-clause-step
returns-in-Unreadable-clause-step c = search step_is

pub returns-in-Unreadable-clause-left : goal.returns-in-Unreadable-clause-left
returns-in-Unreadable-clause-left c = search leaves_is
