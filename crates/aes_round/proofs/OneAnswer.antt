-- No second answer meets a public routine's contract: two results that both meet it are equal. None of these routines has memory lent to it.
-- `Post` is the routine's contract as it stands in src/, of the arguments a, the result r and the parameters at exit s. Assumes nothing.
use mathlib.Core.Path.{◌≡◌, sym, ◌∙◌}
use Rattle.aes_round.proofs.field.double.Reads as double
use Rattle.aes_round.proofs.field.times.Reads as times
use Rattle.aes_round.proofs.substitution.substitute.Reads as substitute
use Rattle.aes_round.proofs.substitution.substitute_back.Reads as substitute_back
use Rattle.aes_round.proofs.mixing.mix.Reads as mix
use Rattle.aes_round.proofs.mixing.mix_back.Reads as mix_back
use Rattle.aes_round.proofs.rounds.round.Reads as round
use Rattle.aes_round.proofs.rounds.round_back.Reads as round_back
use Rattle.aes_round.proofs.rounds.two_rounds.Reads as two_rounds
use Rattle.aes_round.proofs.rounds.two_rounds_back.Reads as two_rounds_back
use Rattle.aes_round.proofs.rows.row_tables.Reads as row_tables
use Rattle.aes_round.proofs.by_tables.round_by_tables.Reads as round_by_tables
use Rattle.aes_round.proofs.numbers.mix_numbers.Reads as mix_numbers

pub double_has_one_answer : (κs : _) (a : _) (r r' : _) (s s' : _) → double.Post κs a r s → double.Post κs a r' s' → r ≡ r'
double_has_one_answer κs a r r' s s' p q = p ∙ sym q

pub times_has_one_answer : (κs : _) (a : _) (r r' : _) (s s' : _) → times.Post κs a r s → times.Post κs a r' s' → r ≡ r'
times_has_one_answer κs a r r' s s' p q = p ∙ sym q

pub substitute_has_one_answer : (κs : _) (a : _) (r r' : _) (s s' : _) → substitute.Post κs a r s → substitute.Post κs a r' s' → r ≡ r'
substitute_has_one_answer κs a r r' s s' p q = p ∙ sym q

pub substitute_back_has_one_answer : (κs : _) (a : _) (r r' : _) (s s' : _) → substitute_back.Post κs a r s → substitute_back.Post κs a r' s' → r ≡ r'
substitute_back_has_one_answer κs a r r' s s' p q = p ∙ sym q

pub mix_has_one_answer : (κs : _) (a : _) (r r' : _) (s s' : _) → mix.Post κs a r s → mix.Post κs a r' s' → r ≡ r'
mix_has_one_answer κs a r r' s s' p q = p ∙ sym q

pub mix_back_has_one_answer : (κs : _) (a : _) (r r' : _) (s s' : _) → mix_back.Post κs a r s → mix_back.Post κs a r' s' → r ≡ r'
mix_back_has_one_answer κs a r r' s s' p q = p ∙ sym q

pub round_has_one_answer : (κs : _) (a : _) (r r' : _) (s s' : _) → round.Post κs a r s → round.Post κs a r' s' → r ≡ r'
round_has_one_answer κs a r r' s s' p q = p ∙ sym q

pub round_back_has_one_answer : (κs : _) (a : _) (r r' : _) (s s' : _) → round_back.Post κs a r s → round_back.Post κs a r' s' → r ≡ r'
round_back_has_one_answer κs a r r' s s' p q = p ∙ sym q

pub two_rounds_has_one_answer : (κs : _) (a : _) (r r' : _) (s s' : _) → two_rounds.Post κs a r s → two_rounds.Post κs a r' s' → r ≡ r'
two_rounds_has_one_answer κs a r r' s s' p q = p ∙ sym q

pub two_rounds_back_has_one_answer : (κs : _) (a : _) (r r' : _) (s s' : _) → two_rounds_back.Post κs a r s → two_rounds_back.Post κs a r' s' → r ≡ r'
two_rounds_back_has_one_answer κs a r r' s s' p q = p ∙ sym q

pub row_tables_has_one_answer : (κs : _) (a : _) (r r' : _) (s s' : _) → row_tables.Post κs a r s → row_tables.Post κs a r' s' → r ≡ r'
row_tables_has_one_answer κs a r r' s s' p q = p ∙ sym q

pub round_by_tables_has_one_answer : (κs : _) (a : _) (r r' : _) (s s' : _) → round_by_tables.Post κs a r s → round_by_tables.Post κs a r' s' → r ≡ r'
round_by_tables_has_one_answer κs a r r' s s' p q = p ∙ sym q

pub mix_numbers_has_one_answer : (κs : _) (a : _) (r r' : _) (s s' : _) → mix_numbers.Post κs a r s → mix_numbers.Post κs a r' s' → r ≡ r'
mix_numbers_has_one_answer κs a r r' s s' p q = p ∙ sym q
