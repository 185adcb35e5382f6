-- `record_of` meets its contract, a case for each kind. Assumes nothing.
use Rattle.steering.proofs.Laws.Records.{high_fits, high_read, hold_fits, hold_read, low_fits, low_read, node_read, note_read}
use Rattle.steering.proofs.records.record_of.Goals as goal

pub overflow_cast-result : goal.overflow_cast-result
overflow_cast-result c = search (low_fits, c.type_inv.body)

pub overflow_cast-result-in-HighFloor : goal.overflow_cast-result-in-HighFloor
overflow_cast-result-in-HighFloor c = search (high_fits, c.type_inv.body)

pub overflow_cast-result-in-Hold : goal.overflow_cast-result-in-Hold
overflow_cast-result-in-Hold c = search (hold_fits, c.type_inv.body)

pub returns-in-Node : goal.returns-in-Node
returns-in-Node c = search node_read

pub returns-in-LowFloor : goal.returns-in-LowFloor
returns-in-LowFloor c = search low_read

pub returns-in-HighFloor : goal.returns-in-HighFloor
returns-in-HighFloor c = search high_read

pub returns-in-Hold : goal.returns-in-Hold
returns-in-Hold c = search hold_read

pub returns-in-Note : goal.returns-in-Note
returns-in-Note c = search note_read
