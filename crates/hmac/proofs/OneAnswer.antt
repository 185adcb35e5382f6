-- No second answer meets a public routine's contract: two results, and two states of the memory lent for writing, that both meet it are
-- equal. `Post` is the routine's contract as it stands in src/, of the arguments a, the result r and the parameters at exit s. Assumes
-- nothing.
use mathlib.Core.Path.{◌≡◌, refl, sym, ◌∙◌}
use Rattle.echo.proofs.Promises.{one_refusal}
use Rattle.hmac.proofs.Laws.Answers.{one_checking, one_tag_answer, one_verdict, one_verification}
use Rattle.hmac.proofs.tag_session.TagSession.«open».Reads as opening
use Rattle.hmac.proofs.tag_session.TagSession.is_session.Reads as is_session
use Rattle.hmac.proofs.tag_session.TagSession.add.Reads as add
use Rattle.hmac.proofs.tag_session.TagSession.read.Reads as read
use Rattle.hmac.proofs.tag_session.TagSession.check.Reads as check
use Rattle.hmac.proofs.at_once.make_tag.Reads as make_tag
use Rattle.hmac.proofs.at_once.check_tag.Reads as check_tag
use Rattle.hmac.proofs.at_once.verify_tag.Reads as verify_tag
use Rattle.hmac.proofs.at_once.Unverified.number.Reads as number
use Rattle.hmac.proofs.comparison.same.Reads as same

pub open_has_one_answer : (κs : _) (a : _) (r r' : _) (s s' : _) → opening.Post κs a r s → opening.Post κs a r' s' → r ≡ r'
open_has_one_answer κs a r r' s s' p q = one_tag_answer r r' (p ∙ sym q)

pub is_session_has_one_answer : (κs : _) (a : _) (r r' : _) (s s' : _) → is_session.Post κs a r s → is_session.Post κs a r' s' → r ≡ r'
is_session_has_one_answer κs a r r' s s' p q = p ∙ sym q

pub add_has_one_answer : (κs : _) (a : _) (r r' : _) (s s' : _) → add.Post κs a r s → add.Post κs a r' s' → r ≡ r'
add_has_one_answer κs a r r' s s' p q = one_tag_answer r r' (p ∙ sym q)

pub read_has_one_answer : (κs : _) (a : _) (r r' : _) (s s' : _) → read.Post κs a r s → read.Post κs a r' s' → (r ≡ r') × (s.1.0.now ≡ s'.1.0.now)
read_has_one_answer κs a r r' s s' p q = (one_tag_answer r r' (p.0 ∙ sym q.0), p.1 ∙ sym q.1)

pub check_has_one_answer : (κs : _) (a : _) (r r' : _) (s s' : _) → check.Post κs a r s → check.Post κs a r' s' → r ≡ r'
check_has_one_answer κs a r r' s s' p q = one_checking r r' (p ∙ sym q)

pub make_tag_has_one_answer : (κs : _) (a : _) (r r' : _) (s s' : _) → make_tag.Post κs a r s → make_tag.Post κs a r' s'
    → (r ≡ r') × (s.1.1.1.1.0.now ≡ s'.1.1.1.1.0.now)
make_tag_has_one_answer κs a r r' s s' p q = (one_refusal (λ a b. refl) r r' (p.0 ∙ sym q.0), p.1 ∙ sym q.1)

pub check_tag_has_one_answer : (κs : _) (a : _) (r r' : _) (s s' : _) → check_tag.Post κs a r s → check_tag.Post κs a r' s' → r ≡ r'
check_tag_has_one_answer κs a r r' s s' p q = one_verdict r r' (p ∙ sym q)

pub verify_tag_has_one_answer : (κs : _) (a : _) (r r' : _) (s s' : _) → verify_tag.Post κs a r s → verify_tag.Post κs a r' s' → r ≡ r'
verify_tag_has_one_answer κs a r r' s s' p q = one_verification (λ a b. refl) r r' (p ∙ sym q)

pub same_has_one_answer : (κs : _) (a : _) (r r' : _) (s s' : _) → same.Post κs a r s → same.Post κs a r' s' → r ≡ r'
same_has_one_answer κs a r r' s s' p q = p ∙ sym q

pub number_has_one_answer : (κs : _) (a : _) (r r' : _) (s s' : _) → number.Post κs a r s → number.Post κs a r' s' → r ≡ r'
number_has_one_answer κs a r r' s s' p q = p ∙ sym q
