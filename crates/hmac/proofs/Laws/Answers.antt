-- What a routine answers is known by its numbers. Assumes nothing.
use Rattle.std.proofs.Common.{◌≡◌, Bool, Result, Ok, Err, IsOk, sym, refl, ap, ◌∙◌, ap₂, arith}
use Rattle.echo.specs.declared.refusal.Refusal.{Refusal}
use Rattle.echo.specs.declared.refusal.Refusal.TheVariants.{NotAdmitted, NoSalt, NoSession, TooLong, NoRoom, WrongSize, CounterTooHigh, BehindPart, SetBelow}
use Rattle.echo.specs.declared.session.Refused.{Refused}
use Rattle.echo.specs.declared.session.Session.{Session}
use Rattle.echo.specs.Answers.{Answer, answer_of, number_of}
use Rattle.echo.proofs.Promises.{one_number, some}
use Rattle.hmac.specs.declared.at_once.Unverified.{Unverified}
use Rattle.hmac.specs.declared.at_once.Unverified.TheVariants.{Refused as RefusedCheck, WrongTag}
use Rattle.hmac.specs.declared.tag_session.Checked.{Checked}
use Rattle.hmac.specs.declared.tag_session.RefusedTag.{RefusedTag}
use Rattle.hmac.specs.declared.tag_session.TagSession.{TagSession}
use Rattle.hmac.specs.Answers.{Checking, TagAnswer, Verdict, checking_of, tag_answer_of, unverified_number, verdict_of, verification_of}

-- a digest session that answered 0 was handed back
pub is_taken : (r : Result Session Refused) (s : Session) → ◌≡◌ {A = Answer} (answer_of r) (record { refusal = 0; session = s }) → IsOk r
is_taken (Ok t) s e = refl
is_taken (Err p) s e = absurd (some p.refusal (ap (λ (x : Answer). x.refusal) e))

pub taken_is : (r : Result Session Refused) (s t : Session) → ◌≡◌ {A = Answer} (answer_of r) (record { refusal = 0; session = s }) → r ≡ Ok t → t ≡ s
taken_is r s t e o = ap (λ (x : Answer). x.session) (sym (ap answer_of o) ∙ e)

-- ---- equal in numbers is equal

pub one_tag_answer : (r s : Result TagSession RefusedTag) → tag_answer_of r ≡ tag_answer_of s → r ≡ s
one_tag_answer (Ok s) (Ok t) e = ap (λ (x : TagAnswer). Ok x.session) e
one_tag_answer (Ok s) (Err q) e = absurd (some q.refusal (sym (ap (λ (x : TagAnswer). x.refusal) e)))
one_tag_answer (Err p) (Ok t) e = absurd (some p.refusal (ap (λ (x : TagAnswer). x.refusal) e))
one_tag_answer (Err p) (Err q) e =
    ap₂ (λ (refusal : Refusal) (session : TagSession). Err (record { refusal = refusal; session = session }))
    (one_number p.refusal q.refusal (ap (λ (x : TagAnswer). x.refusal) e)) (ap (λ (x : TagAnswer). x.session) e)

pub one_checking : (r s : Result Checked RefusedTag) → checking_of r ≡ checking_of s → r ≡ s
one_checking (Ok c) (Ok d) e = ap (λ (x : Checking). Ok (record { yes = x.yes; session = x.session })) e
one_checking (Ok c) (Err q) e = absurd (some q.refusal (sym (ap (λ (x : Checking). x.refusal) e)))
one_checking (Err p) (Ok d) e = absurd (some p.refusal (ap (λ (x : Checking). x.refusal) e))
one_checking (Err p) (Err q) e =
    ap₂ (λ (refusal : Refusal) (session : TagSession). Err (record { refusal = refusal; session = session }))
    (one_number p.refusal q.refusal (ap (λ (x : Checking). x.refusal) e)) (ap (λ (x : Checking). x.session) e)

pub one_verdict : (r s : Result Bool Refusal) → verdict_of r ≡ verdict_of s → r ≡ s
one_verdict (Ok a) (Ok b) e = ap (λ (x : Verdict). Ok x.yes) e
one_verdict (Ok a) (Err q) e = absurd (some q (sym (ap (λ (x : Verdict). x.refusal) e)))
one_verdict (Err p) (Ok b) e = absurd (some p (ap (λ (x : Verdict). x.refusal) e))
one_verdict (Err p) (Err q) e = ap Err (one_number p q (ap (λ (x : Verdict). x.refusal) e))

not_19 : (p : Refusal) → number_of p ≡ 19 → ⊥
not_19 NotAdmitted e = omega arith
not_19 NoSalt e = omega arith
not_19 NoSession e = omega arith
not_19 TooLong e = omega arith
not_19 NoRoom e = omega arith
not_19 WrongSize e = omega arith
not_19 CounterTooHigh e = omega arith
not_19 BehindPart e = omega arith
not_19 SetBelow e = omega arith

not_0 : (u : Unverified) → unverified_number u ≡ 0 → ⊥
not_0 (RefusedCheck p) e = some p e
not_0 WrongTag e = omega arith

one_unverified : (u v : Unverified) → unverified_number u ≡ unverified_number v → u ≡ v
one_unverified (RefusedCheck p) (RefusedCheck q) e = ap RefusedCheck (one_number p q e)
one_unverified (RefusedCheck p) WrongTag e = absurd (not_19 p e)
one_unverified WrongTag (RefusedCheck q) e = absurd (not_19 q (sym e))
one_unverified WrongTag WrongTag e = refl

-- where there is one value besides why a tag is not verified
pub one_verification : {A : Type 0} → ((a b : A) → a ≡ b) → (r s : Result A Unverified) → verification_of r ≡ verification_of s → r ≡ s
one_verification one (Ok a) (Ok b) e = ap Ok (one a b)
one_verification one (Ok a) (Err v) e = absurd (not_0 v (sym e))
one_verification one (Err u) (Ok b) e = absurd (not_0 u e)
one_verification one (Err u) (Err v) e = ap Err (one_unverified u v e)
