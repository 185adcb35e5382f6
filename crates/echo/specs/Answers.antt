-- What the routines answer, in this paper's numbers: that of a refusal, 0 for none, and the session that is handed back. Assumes nothing.
use Rattle.std.specs.Prelude.{ℕ, Result, Ok, Err}
use Rattle.echo.specs.declared.refusal.Refusal.{Refusal}
use Rattle.echo.specs.declared.refusal.Refusal.TheVariants.{NotAdmitted, NoSalt, NoSession, TooLong, NoRoom, WrongSize, CounterTooHigh, BehindPart, SetBelow}
use Rattle.echo.specs.declared.session.Refused.{Refused}
use Rattle.echo.specs.declared.session.Session.{Session}

abbrev pub number_of : Refusal → ℕ
number_of NotAdmitted = 1
number_of NoSalt = 2
number_of NoSession = 3
number_of TooLong = 4
number_of NoRoom = 5
number_of WrongSize = 6
number_of CounterTooHigh = 7
number_of BehindPart = 16
number_of SetBelow = 17

abbrev pub refusal_of : {A : Type 0} → Result A Refusal → ℕ
refusal_of (Ok a) = 0
refusal_of (Err refusal) = number_of refusal

pub record Answer : Type 0 where
  pub refusal : ℕ
  pub session : Session

abbrev pub answer_of : Result Session Refused → Answer
answer_of (Ok session) = record { refusal = 0; session = session }
answer_of (Err refused) = record { refusal = number_of refused.refusal; session = refused.session }
