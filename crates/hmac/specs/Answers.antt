-- What the routines answer, in this paper's numbers: that of a refusal, 0 for none, and what is handed back. Assumes nothing.
use Rattle.std.specs.Prelude.{Bool, false, ℕ, Result, Ok, Err}
use Rattle.echo.specs.declared.refusal.Refusal.{Refusal}
use Rattle.echo.specs.Answers.{number_of}
use Rattle.hmac.specs.declared.at_once.Unverified.{Unverified}
use Rattle.hmac.specs.declared.at_once.Unverified.TheVariants.{Refused, WrongTag}
use Rattle.hmac.specs.declared.tag_session.Checked.{Checked}
use Rattle.hmac.specs.declared.tag_session.RefusedTag.{RefusedTag}
use Rattle.hmac.specs.declared.tag_session.TagSession.{TagSession}

pub record TagAnswer : Type 0 where
  pub refusal : ℕ
  pub session : TagSession

abbrev pub tag_answer_of : Result TagSession RefusedTag → TagAnswer
tag_answer_of (Ok session) = record { refusal = 0; session = session }
tag_answer_of (Err refused) = record { refusal = number_of refused.refusal; session = refused.session }

-- a refused check says no
pub record Checking : Type 0 where
  pub refusal : ℕ
  pub yes : Bool
  pub session : TagSession

abbrev pub checking_of : Result Checked RefusedTag → Checking
checking_of (Ok checked) = record { refusal = 0; yes = checked.yes; session = checked.session }
checking_of (Err refused) = record { refusal = number_of refused.refusal; yes = false; session = refused.session }

pub record Verdict : Type 0 where
  pub refusal : ℕ
  pub yes : Bool

abbrev pub verdict_of : Result Bool Refusal → Verdict
verdict_of (Ok right) = record { refusal = 0; yes = right }
verdict_of (Err refusal) = record { refusal = number_of refusal; yes = false }

-- 19: the tag is not the message's
abbrev pub unverified_number : Unverified → ℕ
unverified_number (Refused refusal) = number_of refusal
unverified_number WrongTag = 19

abbrev pub verification_of : {A : Type 0} → Result A Unverified → ℕ
verification_of (Ok a) = 0
verification_of (Err unverified) = unverified_number unverified
