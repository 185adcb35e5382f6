-- `row_tables` meets its contract: what follows from the table of the substitution is the table of the row. Assumes nothing.
use Rattle.aes_round.proofs.Laws.ByTables.{row_tables_are}
use Rattle.aes_round.proofs.rows.row_tables.Goals as goal

pub returns : goal.returns
returns c = search row_tables_are
