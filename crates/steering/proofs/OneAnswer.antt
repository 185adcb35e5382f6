-- No second answer meets a public routine's contract: two results, and two states of the memory lent for writing, that both meet it are
-- equal. `Post` is the routine's contract as it stands in src/, of the arguments a, the result r and the parameters at exit s. Assumes
-- nothing.
use mathlib.Core.Path.{◌≡◌, sym, ◌∙◌}
use Rattle.steering.proofs.Laws.Answers.{counted_one, fingerprinted_one, reading_one, written_one}
use Rattle.steering.proofs.reading.read_at.Reads as read_at
use Rattle.steering.proofs.counting.count.Reads as count
use Rattle.steering.proofs.writing.kind_of.Reads as kind_of
use Rattle.steering.proofs.writing.write_at.Reads as write_at
use Rattle.steering.proofs.writing.write_body_at.Reads as write_body_at
use Rattle.steering.proofs.fingerprinting.fingerprint.Reads as fingerprint
use Rattle.steering.proofs.refusals.Refusal.number.Reads as number
use Rattle.steering.proofs.refusals.Refusal.place.Reads as place
use Rattle.steering.proofs.refusals.WriteRefusal.number.Reads as write_number

pub read_at_has_one_answer : (κs : _) (a : _) (r r' : _) (s s' : _) → read_at.Post κs a r s → read_at.Post κs a r' s' → r ≡ r'
read_at_has_one_answer κs a r r' s s' p q = reading_one r r' (p ∙ sym q)

pub count_has_one_answer : (κs : _) (a : _) (r r' : _) (s s' : _) → count.Post κs a r s → count.Post κs a r' s' → r ≡ r'
count_has_one_answer κs a r r' s s' p q = counted_one r r' (p ∙ sym q)

pub kind_of_has_one_answer : (κs : _) (a : _) (r r' : _) (s s' : _) → kind_of.Post κs a r s → kind_of.Post κs a r' s' → r ≡ r'
kind_of_has_one_answer κs a r r' s s' p q = p ∙ sym q

pub write_at_has_one_answer : (κs : _) (a : _) (r r' : _) (s s' : _) → write_at.Post κs a r s → write_at.Post κs a r' s'
    → (r ≡ r') × (s.0.now ≡ s'.0.now)
write_at_has_one_answer κs a r r' s s' p q = (written_one r r' (p.0 ∙ sym q.0), p.1 ∙ sym q.1)

pub write_body_at_has_one_answer : (κs : _) (a : _) (r r' : _) (s s' : _) → write_body_at.Post κs a r s → write_body_at.Post κs a r' s'
    → (r ≡ r') × (s.0.now ≡ s'.0.now)
write_body_at_has_one_answer κs a r r' s s' p q = (written_one r r' (p.0 ∙ sym q.0), p.1 ∙ sym q.1)

pub fingerprint_has_one_answer : (κs : _) (a : _) (r r' : _) (s s' : _) → fingerprint.Post κs a r s → fingerprint.Post κs a r' s'
    → (r ≡ r') × (s.1.1.0.now ≡ s'.1.1.0.now)
fingerprint_has_one_answer κs a r r' s s' p q = (fingerprinted_one r r' (p.0 ∙ sym q.0), p.1 ∙ sym q.1)

pub refusal_number_has_one_answer : (κs : _) (a : _) (r r' : _) (s s' : _) → number.Post κs a r s → number.Post κs a r' s' → r ≡ r'
refusal_number_has_one_answer κs a r r' s s' p q = p ∙ sym q

pub place_has_one_answer : (κs : _) (a : _) (r r' : _) (s s' : _) → place.Post κs a r s → place.Post κs a r' s' → r ≡ r'
place_has_one_answer κs a r r' s s' p q = p ∙ sym q

pub write_refusal_number_has_one_answer : (κs : _) (a : _) (r r' : _) (s s' : _) → write_number.Post κs a r s → write_number.Post κs a r' s'
    → r ≡ r'
write_refusal_number_has_one_answer κs a r r' s s' p q = p ∙ sym q
