-- `with_substitution` meets its contract: a test over the 256 entries for the substitution, and one for each table that follows. Assumes nothing.
use mathlib.Core.Path.{refl}
use lib.Dec.{lit<}
use Rattle.aes_round.specs.Bytes.{xor}
use Rattle.aes_round.specs.Field.{mul}
use Rattle.aes_round.specs.Mixing.{forward}
use Rattle.aes_round.specs.Numbers.{number}
use Rattle.aes_round.proofs.Laws.ByTables.{follows}
use Rattle.aes_round.proofs.Laws.Substitution.{sub_table_is}
use Rattle.aes_round.proofs.rows.with_substitution.Goals as goal

pub returns-clause-rule : goal.returns-clause-rule
unfolding number forward mul xor
returns-clause-rule c = sub_table_is _ tt tt

pub returns-clause-row_0 : goal.returns-clause-row_0
unfolding number forward mul xor
returns-clause-row_0 c = follows 0 _ _ (lit< tt) refl tt tt

pub returns-clause-row_1 : goal.returns-clause-row_1
unfolding number forward mul xor
returns-clause-row_1 c = follows 1 _ _ (lit< tt) refl tt tt

pub returns-clause-row_2 : goal.returns-clause-row_2
unfolding number forward mul xor
returns-clause-row_2 c = follows 2 _ _ (lit< tt) refl tt tt

pub returns-clause-row_3 : goal.returns-clause-row_3
unfolding number forward mul xor
returns-clause-row_3 c = follows 3 _ _ (lit< tt) refl tt tt
