-- `both_tables` meets its contract: a test over the 256 entries for the rule, and one for each undoing the other. Assumes nothing.
use Rattle.aes_round.specs.Bytes.{xor}
use Rattle.aes_round.specs.Field.{mul}
use Rattle.aes_round.proofs.Laws.Substitution.{sub_table_is, undo_is}
use Rattle.aes_round.proofs.tables.both_tables.Goals as goal

pub returns-clause-rule : goal.returns-clause-rule
unfolding mul xor
returns-clause-rule c = sub_table_is _ tt tt

pub returns-clause-undo : goal.returns-clause-undo
unfolding mul xor
returns-clause-undo c = undo_is _ _ tt
