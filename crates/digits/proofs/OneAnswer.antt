-- No second answer meets a public routine's contract: two results that both meet it are equal. `Post` is the routine's contract as it stands in
-- src/, of the arguments a, the result r and the parameters at exit s. Assumes nothing.
use mathlib.Core.Path.{◌≡◌, sym, ◌∙◌}
use Rattle.digits.proofs.hexadecimal.bytes_in.Reads as bytes
use Rattle.digits.proofs.hexadecimal.nibble.Reads as nibble
use Rattle.digits.proofs.numbers.number_in.Reads as numbering
use Rattle.digits.proofs.salts.salt_in.Reads as salting

pub nibble_has_one_answer : (κs : _) (a : _) (r r' : _) (s s' : _) → nibble.Post κs a r s → nibble.Post κs a r' s' → r ≡ r'
nibble_has_one_answer κs a r r' s s' p q = p.0 ∙ sym q.0

pub bytes_in_has_one_answer : (N : _) (fits : _) (κs : _) (a : _) (r r' : _) (s s' : _) → bytes.Post N fits κs a r s → bytes.Post N fits κs a r' s'
    → r ≡ r'
bytes_in_has_one_answer N fits κs a r r' s s' p q = p ∙ sym q

pub number_in_has_one_answer : (κs : _) (a : _) (r r' : _) (s s' : _) → numbering.Post κs a r s → numbering.Post κs a r' s' → r ≡ r'
number_in_has_one_answer κs a r r' s s' p q = p ∙ sym q

pub salt_in_has_one_answer : (κs : _) (a : _) (r r' : _) (s s' : _) → salting.Post κs a r s → salting.Post κs a r' s' → r ≡ r'
salt_in_has_one_answer κs a r r' s s' p q = p ∙ sym q
