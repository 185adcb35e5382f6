-- No second answer meets a public routine's contract: two results, and two states of the memory lent for writing, that both meet it are
-- equal. `Post` is the routine's contract as it stands in src/, of the arguments a, the result r and the parameters at exit s. Assumes
-- nothing.
use mathlib.Core.Path.{◌≡◌, sym, ◌∙◌}
use Rattle.bahmorist.proofs.bahmorist_digest.Reads as bahmorist_digest
use Rattle.bahmorist.proofs.bahmorist_digest_in.Reads as digesting
use Rattle.bahmorist.proofs.bahmorist_digest_bits.Reads as digesting_bits
use Rattle.bahmorist.proofs.bahmorist_rounds.Reads as bahmorist_rounds
use Rattle.bahmorist.proofs.bahmorist_rounds_back.Reads as bahmorist_rounds_back
use Rattle.bahmorist.proofs.bahmorist_rounds_wide.Reads as bahmorist_rounds_wide
use Rattle.bahmorist.proofs.bahmorist_rounds_back_wide.Reads as rounding_back
use Rattle.bahmorist.proofs.bahmorist_compress.Reads as bahmorist_compress
use Rattle.bahmorist.proofs.bahmorist_compress_in.Reads as compressing
use Rattle.bahmorist.proofs.bahmorist_compress_wide.Reads as compressing_wide
use Rattle.bahmorist.proofs.bahmorist_fingerprint.Reads as bahmorist_fingerprint
use Rattle.bahmorist.proofs.bahmorist_read_at.Reads as bahmorist_read_at
use Rattle.bahmorist.proofs.bahmorist_count.Reads as bahmorist_count
use Rattle.bahmorist.proofs.bahmorist_write_at.Reads as bahmorist_write_at
use Rattle.bahmorist.proofs.bahmorist_hmac.Reads as bahmorist_hmac
use Rattle.bahmorist.proofs.bahmorist_hmac_verify.Reads as bahmorist_hmac_verify
use Rattle.bahmorist.proofs.bahmorist_hmac_check.Reads as bahmorist_hmac_check
use Rattle.bahmorist.proofs.bahmorist_same.Reads as bahmorist_same
use Rattle.bahmorist.proofs.bahmorist_version.Reads as bahmorist_version

pub bahmorist_digest_has_one_answer : (κs : _) (a : _) (r r' : _) (s s' : _) → bahmorist_digest.Post κs a r s → bahmorist_digest.Post κs a r' s'
    → (r ≡ r') × (s.1.1.1.0.now ≡ s'.1.1.1.0.now)
bahmorist_digest_has_one_answer κs a r r' s s' p q = (p.0 ∙ sym q.0, p.1 ∙ sym q.1)

pub bahmorist_digest_in_has_one_answer : (κs : _) (a : _) (r r' : _) (s s' : _) → digesting.Post κs a r s → digesting.Post κs a r' s'
    → (r ≡ r') × (s.1.1.1.1.0.now ≡ s'.1.1.1.1.0.now)
bahmorist_digest_in_has_one_answer κs a r r' s s' p q = (p.0 ∙ sym q.0, p.1 ∙ sym q.1)

pub bahmorist_digest_bits_has_one_answer : (κs : _) (a : _) (r r' : _) (s s' : _) → digesting_bits.Post κs a r s → digesting_bits.Post κs a r' s'
    → (r ≡ r') × (s.1.1.1.1.1.0.now ≡ s'.1.1.1.1.1.0.now)
bahmorist_digest_bits_has_one_answer κs a r r' s s' p q = (p.0 ∙ sym q.0, p.1 ∙ sym q.1)

pub bahmorist_rounds_has_one_answer : (κs : _) (a : _) (r r' : _) (s s' : _) → bahmorist_rounds.Post κs a r s → bahmorist_rounds.Post κs a r' s'
    → (r ≡ r') × (s.0.now ≡ s'.0.now)
bahmorist_rounds_has_one_answer κs a r r' s s' p q = (p.0 ∙ sym q.0, p.1 ∙ sym q.1)

pub bahmorist_rounds_back_has_one_answer : (κs : _) (a : _) (r r' : _) (s s' : _) → bahmorist_rounds_back.Post κs a r s → bahmorist_rounds_back.Post κs a r' s'
    → (r ≡ r') × (s.0.now ≡ s'.0.now)
bahmorist_rounds_back_has_one_answer κs a r r' s s' p q = (p.0 ∙ sym q.0, p.1 ∙ sym q.1)

pub bahmorist_rounds_wide_has_one_answer : (κs : _) (a : _) (r r' : _) (s s' : _) → bahmorist_rounds_wide.Post κs a r s → bahmorist_rounds_wide.Post κs a r' s'
    → (r ≡ r') × (s.0.now ≡ s'.0.now)
bahmorist_rounds_wide_has_one_answer κs a r r' s s' p q = (p.0 ∙ sym q.0, p.1 ∙ sym q.1)

pub bahmorist_rounds_back_wide_has_one_answer : (κs : _) (a : _) (r r' : _) (s s' : _) → rounding_back.Post κs a r s → rounding_back.Post κs a r' s'
    → (r ≡ r') × (s.0.now ≡ s'.0.now)
bahmorist_rounds_back_wide_has_one_answer κs a r r' s s' p q = (p.0 ∙ sym q.0, p.1 ∙ sym q.1)

pub bahmorist_compress_has_one_answer : (κs : _) (a : _) (r r' : _) (s s' : _) → bahmorist_compress.Post κs a r s → bahmorist_compress.Post κs a r' s'
    → (r ≡ r') × (s.0.now ≡ s'.0.now)
bahmorist_compress_has_one_answer κs a r r' s s' p q = (p.0 ∙ sym q.0, p.1 ∙ sym q.1)

pub bahmorist_compress_in_has_one_answer : (κs : _) (a : _) (r r' : _) (s s' : _) → compressing.Post κs a r s → compressing.Post κs a r' s'
    → (r ≡ r') × (s.1.0.now ≡ s'.1.0.now)
bahmorist_compress_in_has_one_answer κs a r r' s s' p q = (p.0 ∙ sym q.0, p.1 ∙ sym q.1)

pub bahmorist_compress_wide_has_one_answer : (κs : _) (a : _) (r r' : _) (s s' : _) → compressing_wide.Post κs a r s → compressing_wide.Post κs a r' s'
    → (r ≡ r') × (s.1.0.now ≡ s'.1.0.now)
bahmorist_compress_wide_has_one_answer κs a r r' s s' p q = (p.0 ∙ sym q.0, p.1 ∙ sym q.1)

pub bahmorist_fingerprint_has_one_answer : (κs : _) (a : _) (r r' : _) (s s' : _) → bahmorist_fingerprint.Post κs a r s → bahmorist_fingerprint.Post κs a r' s'
    → (r ≡ r') × (s.1.1.0.now ≡ s'.1.1.0.now) × (s.1.1.1.0.now ≡ s'.1.1.1.0.now)
bahmorist_fingerprint_has_one_answer κs a r r' s s' p q = (p.0 ∙ sym q.0, p.1.0 ∙ sym q.1.0, p.1.1 ∙ sym q.1.1)

pub bahmorist_read_at_has_one_answer : (κs : _) (a : _) (r r' : _) (s s' : _) → bahmorist_read_at.Post κs a r s → bahmorist_read_at.Post κs a r' s'
    → (r ≡ r') × (s.1.1.0.now ≡ s'.1.1.0.now) × (s.1.1.1.0.now ≡ s'.1.1.1.0.now)
bahmorist_read_at_has_one_answer κs a r r' s s' p q = (p.0 ∙ sym q.0, p.1.0 ∙ sym q.1.0, p.1.1 ∙ sym q.1.1)

pub bahmorist_count_has_one_answer : (κs : _) (a : _) (r r' : _) (s s' : _) → bahmorist_count.Post κs a r s → bahmorist_count.Post κs a r' s'
    → (r ≡ r') × (s.1.0.now ≡ s'.1.0.now) × (s.1.1.0.now ≡ s'.1.1.0.now)
bahmorist_count_has_one_answer κs a r r' s s' p q = (p.0 ∙ sym q.0, p.1.0 ∙ sym q.1.0, p.1.1 ∙ sym q.1.1)

pub bahmorist_write_at_has_one_answer : (κs : _) (a : _) (r r' : _) (s s' : _) → bahmorist_write_at.Post κs a r s → bahmorist_write_at.Post κs a r' s'
    → (r ≡ r') × (s.0.now ≡ s'.0.now) × (s.1.1.1.1.0.now ≡ s'.1.1.1.1.0.now)
bahmorist_write_at_has_one_answer κs a r r' s s' p q = (p.0 ∙ sym q.0, p.1.0 ∙ sym q.1.0, p.1.1 ∙ sym q.1.1)

pub bahmorist_hmac_has_one_answer : (κs : _) (a : _) (r r' : _) (s s' : _) → bahmorist_hmac.Post κs a r s → bahmorist_hmac.Post κs a r' s'
    → (r ≡ r') × (s.1.1.1.1.0.now ≡ s'.1.1.1.1.0.now)
bahmorist_hmac_has_one_answer κs a r r' s s' p q = (p.0 ∙ sym q.0, p.1 ∙ sym q.1)

pub bahmorist_hmac_check_has_one_answer : (κs : _) (a : _) (r r' : _) (s s' : _) → bahmorist_hmac_check.Post κs a r s → bahmorist_hmac_check.Post κs a r' s'
    → (r ≡ r') × (s.1.1.1.1.1.0.now ≡ s'.1.1.1.1.1.0.now)
bahmorist_hmac_check_has_one_answer κs a r r' s s' p q = (p.0 ∙ sym q.0, p.1 ∙ sym q.1)

pub bahmorist_hmac_verify_has_one_answer : (κs : _) (a : _) (r r' : _) (s s' : _) → bahmorist_hmac_verify.Post κs a r s → bahmorist_hmac_verify.Post κs a r' s'
    → r ≡ r'
bahmorist_hmac_verify_has_one_answer κs a r r' s s' p q = p ∙ sym q

pub bahmorist_same_has_one_answer : (κs : _) (a : _) (r r' : _) (s s' : _) → bahmorist_same.Post κs a r s → bahmorist_same.Post κs a r' s' → r ≡ r'
bahmorist_same_has_one_answer κs a r r' s s' p q = p ∙ sym q

pub bahmorist_version_has_one_answer : (κs : _) (a : _) (r r' : _) (s s' : _) → bahmorist_version.Post κs a r s → bahmorist_version.Post κs a r' s' → r ≡ r'
bahmorist_version_has_one_answer κs a r r' s s' p q = p ∙ sym q
