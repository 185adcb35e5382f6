-- No second answer meets a public routine's contract: two results, and two states of the memory lent for writing, that both meet it are
-- equal. `Post` is the routine's contract as it stands in src/, of the arguments a, the result r and the parameters at exit s. Assumes
-- nothing.
use Rattle.std.proofs.Common.{◌≡◌, sym, refl, ◌∙◌}
use Rattle.echo.proofs.run.rounds.Reads as rounds
use Rattle.echo.proofs.run.rounds_back.Reads as rounds_back
use Rattle.echo.proofs.run.rounds_by_bytes.Reads as rounds_by_bytes
use Rattle.echo.proofs.run.rounds_wide.Reads as rounds_wide
use Rattle.echo.proofs.run.rounds_back_wide.Reads as rounds_back_wide
use Rattle.echo.proofs.compression.compress.Reads as compress
use Rattle.echo.proofs.compression.compress_wide.Reads as compress_wide
use Rattle.echo.proofs.session.Session.«open».Reads as opening
use Rattle.echo.proofs.session.Session.is_session.Reads as is_session
use Rattle.echo.proofs.session.Session.add.Reads as add
use Rattle.echo.proofs.session.Session.add_bits.Reads as add_bits
use Rattle.echo.proofs.session.Session.read.Reads as read
use Rattle.echo.proofs.digest_at_once.digest.Reads as digest
use Rattle.echo.proofs.digest_at_once.digest_bits.Reads as digest_bits
use Rattle.echo.proofs.refusals.check_digest.Reads as check_digest
use Rattle.echo.proofs.refusal.Refusal.number.Reads as number
use Rattle.echo.proofs.Laws.Answers.{one_answer, one_refusal}

pub rounds_has_one_answer : (κs : _) (a : _) (r r' : _) (s s' : _) → rounds.Post κs a r s → rounds.Post κs a r' s' → (r ≡ r') × (s.0.now ≡ s'.0.now)
rounds_has_one_answer κs a r r' s s' p q = (one_refusal (λ a b. refl) r r' (p.0 ∙ sym q.0), p.1 ∙ sym q.1)

pub rounds_back_has_one_answer : (κs : _) (a : _) (r r' : _) (s s' : _) → rounds_back.Post κs a r s → rounds_back.Post κs a r' s'
    → (r ≡ r') × (s.0.now ≡ s'.0.now)
rounds_back_has_one_answer κs a r r' s s' p q = (one_refusal (λ a b. refl) r r' (p.0 ∙ sym q.0), p.1 ∙ sym q.1)

pub rounds_by_bytes_has_one_answer : (κs : _) (a : _) (r r' : _) (s s' : _) → rounds_by_bytes.Post κs a r s → rounds_by_bytes.Post κs a r' s'
    → (r ≡ r') × (s.0.now ≡ s'.0.now)
rounds_by_bytes_has_one_answer κs a r r' s s' p q = (one_refusal (λ a b. refl) r r' (p.0 ∙ sym q.0), p.1 ∙ sym q.1)

pub compress_has_one_answer : (κs : _) (a : _) (r r' : _) (s s' : _) → compress.Post κs a r s → compress.Post κs a r' s'
    → (r ≡ r') × (s.1.0.now ≡ s'.1.0.now)
compress_has_one_answer κs a r r' s s' p q = (one_refusal (λ a b. refl) r r' (p.0 ∙ sym q.0), p.1 ∙ sym q.1)

pub rounds_wide_has_one_answer : (κs : _) (a : _) (r r' : _) (s s' : _) → rounds_wide.Post κs a r s → rounds_wide.Post κs a r' s'
    → (r ≡ r') × (s.0.now ≡ s'.0.now)
rounds_wide_has_one_answer κs a r r' s s' p q = (one_refusal (λ a b. refl) r r' (p.0 ∙ sym q.0), p.1 ∙ sym q.1)

pub rounds_back_wide_has_one_answer : (κs : _) (a : _) (r r' : _) (s s' : _) → rounds_back_wide.Post κs a r s → rounds_back_wide.Post κs a r' s'
    → (r ≡ r') × (s.0.now ≡ s'.0.now)
rounds_back_wide_has_one_answer κs a r r' s s' p q = (one_refusal (λ a b. refl) r r' (p.0 ∙ sym q.0), p.1 ∙ sym q.1)

pub compress_wide_has_one_answer : (κs : _) (a : _) (r r' : _) (s s' : _) → compress_wide.Post κs a r s → compress_wide.Post κs a r' s'
    → (r ≡ r') × (s.1.0.now ≡ s'.1.0.now)
compress_wide_has_one_answer κs a r r' s s' p q = (one_refusal (λ a b. refl) r r' (p.0 ∙ sym q.0), p.1 ∙ sym q.1)

pub open_has_one_answer : (κs : _) (a : _) (r r' : _) (s s' : _) → opening.Post κs a r s → opening.Post κs a r' s' → r ≡ r'
open_has_one_answer κs a r r' s s' p q = one_answer r r' (p ∙ sym q)

pub is_session_has_one_answer : (κs : _) (a : _) (r r' : _) (s s' : _) → is_session.Post κs a r s → is_session.Post κs a r' s' → r ≡ r'
is_session_has_one_answer κs a r r' s s' p q = p ∙ sym q

pub add_has_one_answer : (κs : _) (a : _) (r r' : _) (s s' : _) → add.Post κs a r s → add.Post κs a r' s' → r ≡ r'
add_has_one_answer κs a r r' s s' p q = one_answer r r' (p ∙ sym q)

pub add_bits_has_one_answer : (κs : _) (a : _) (r r' : _) (s s' : _) → add_bits.Post κs a r s → add_bits.Post κs a r' s' → r ≡ r'
add_bits_has_one_answer κs a r r' s s' p q = one_answer r r' (p ∙ sym q)

pub read_has_one_answer : (κs : _) (a : _) (r r' : _) (s s' : _) → read.Post κs a r s → read.Post κs a r' s' → (r ≡ r') × (s.1.0.now ≡ s'.1.0.now)
read_has_one_answer κs a r r' s s' p q = (one_answer r r' (p.0 ∙ sym q.0), p.1 ∙ sym q.1)

pub digest_has_one_answer : (κs : _) (a : _) (r r' : _) (s s' : _) → digest.Post κs a r s → digest.Post κs a r' s'
    → (r ≡ r') × (s.1.1.1.1.0.now ≡ s'.1.1.1.1.0.now)
digest_has_one_answer κs a r r' s s' p q = (one_refusal (λ a b. refl) r r' (p.0 ∙ sym q.0), p.1 ∙ sym q.1)

pub digest_bits_has_one_answer : (κs : _) (a : _) (r r' : _) (s s' : _) → digest_bits.Post κs a r s → digest_bits.Post κs a r' s'
    → (r ≡ r') × (s.1.1.1.1.1.0.now ≡ s'.1.1.1.1.1.0.now)
digest_bits_has_one_answer κs a r r' s s' p q = (one_refusal (λ a b. refl) r r' (p.0 ∙ sym q.0), p.1 ∙ sym q.1)

pub check_digest_has_one_answer : (κs : _) (a : _) (r r' : _) (s s' : _) → check_digest.Post κs a r s → check_digest.Post κs a r' s' → r ≡ r'
check_digest_has_one_answer κs a r r' s s' p q = one_refusal (λ a b. refl) r r' (p ∙ sym q)

pub number_has_one_answer : (κs : _) (a : _) (r r' : _) (s s' : _) → number.Post κs a r s → number.Post κs a r' s' → r ≡ r'
number_has_one_answer κs a r r' s s' p q = p ∙ sym q
