-- What a routine answers is known by its numbers: a refusal by its own, which is never 0, and so each answer. Assumes nothing.
use Rattle.std.proofs.Common.{◌≡◌, ℕ, ◌==◌, Option, Some, None, Result, Ok, Err, sym, refl, ap, ◌∙◌, ap₂}
use Rattle.std.specs.Prelude.{IsErrAnd}
use Rattle.echo.specs.Answers.{Answer, answer_of, number_of, refusal_of}
use Rattle.echo.specs.Families.{either}
use Rattle.echo.specs.declared.refusal.Refusal.{Refusal}
use Rattle.echo.specs.declared.refusal.Refusal.TheVariants.{NotAdmitted, NoSalt, NoSession, TooLong, NoRoom, WrongSize, CounterTooHigh, BehindPart, SetBelow}
use Rattle.echo.specs.declared.session.Refused.{Refused}
use Rattle.echo.specs.declared.session.Session.{Session}

-- the refusal of a number
abbrev numbered : ℕ → Option Refusal
numbered n =
    either (n == 1) (Some NotAdmitted)
    (either (n == 2) (Some NoSalt)
    (either (n == 3) (Some NoSession)
    (either (n == 4) (Some TooLong)
    (either (n == 5) (Some NoRoom)
    (either (n == 6) (Some WrongSize)
    (either (n == 7) (Some CounterTooHigh) (either (n == 16) (Some BehindPart) (either (n == 17) (Some SetBelow) None))))))))

its_number : (p : Refusal) → numbered (number_of p) ≡ Some p
its_number NotAdmitted = refl
its_number NoSalt = refl
its_number NoSession = refl
its_number TooLong = refl
its_number NoRoom = refl
its_number WrongSize = refl
its_number CounterTooHigh = refl
its_number BehindPart = refl
its_number SetBelow = refl

pub some : (p : Refusal) → number_of p ≡ 0 → ⊥
some p e =
    let z : ◌≡◌ {A = Option Refusal} (Some p) None = sym (its_number p) ∙ ap numbered e in
    cc

pub one_number : (p q : Refusal) → number_of p ≡ number_of q → p ≡ q
one_number p q e =
    let z : ◌≡◌ {A = Option Refusal} (Some p) (Some q) = sym (its_number p) ∙ ap numbered e ∙ its_number q in
    cc

-- where there is one value besides a refusal
pub one_refusal : {A : Type 0} → ((a b : A) → a ≡ b) → (r s : Result A Refusal) → refusal_of r ≡ refusal_of s → r ≡ s
one_refusal one (Ok a) (Ok b) e = ap Ok (one a b)
one_refusal one (Ok a) (Err q) e = absurd (some q (sym e))
one_refusal one (Err p) (Ok b) e = absurd (some p e)
one_refusal one (Err p) (Err q) e = ap Err (one_number p q e)

pub one_answer : (r s : Result Session Refused) → answer_of r ≡ answer_of s → r ≡ s
one_answer (Ok s) (Ok t) e = ap (λ (x : Answer). Ok x.session) e
one_answer (Ok s) (Err q) e = absurd (some q.refusal (sym (ap (λ (x : Answer). x.refusal) e)))
one_answer (Err p) (Ok t) e = absurd (some p.refusal (ap (λ (x : Answer). x.refusal) e))
one_answer (Err p) (Err q) e =
    ap₂ (λ (refusal : Refusal) (session : Session). Err (record { refusal = refusal; session = session }))
    (one_number p.refusal q.refusal (ap (λ (x : Answer). x.refusal) e)) (ap (λ (x : Answer). x.session) e)

-- ---- what `?` hands on

-- of a refusal that becomes x on its way, x is handed on
pub handed_on : {B T E : Type 0} (r : Result T E) (x : E) → B × IsErrAnd r (λ e. e ≡ x) → r ≡ Err x
handed_on (Ok a) x h = absurd h.1
handed_on (Err y) x h = ap Err h.1
