-- `put_number` meets its contract, a number at a time. Assumes nothing.
use Rattle.lines.specs.Reasons.{bytes_of, reason_of}
use Rattle.lines.proofs.Laws.Reasons.{known, unknown}
use Rattle.lines.proofs.reasons.put_number.Goals as goal

pub returns-then-error-eq2 : goal.returns-then-error-eq2
unfolding bytes_of reason_of
returns-then-error-eq2 c = search (known 2)

pub returns-then-error-eq5 : goal.returns-then-error-eq5
unfolding bytes_of reason_of
returns-then-error-eq5 c = search (known 5)

pub returns-then-error-eq9 : goal.returns-then-error-eq9
unfolding bytes_of reason_of
returns-then-error-eq9 c = search (known 9)

pub returns-then-error-eq13 : goal.returns-then-error-eq13
unfolding bytes_of reason_of
returns-then-error-eq13 c = search (known 13)

pub returns-then-error-eq20 : goal.returns-then-error-eq20
unfolding bytes_of reason_of
returns-then-error-eq20 c = search (known 20)

pub returns-then-error-eq21 : goal.returns-then-error-eq21
unfolding bytes_of reason_of
returns-then-error-eq21 c = search (known 21)

pub returns-then-error-eq28 : goal.returns-then-error-eq28
unfolding bytes_of reason_of
returns-then-error-eq28 c = search (known 28)

pub returns-then-error-eq36 : goal.returns-then-error-eq36
unfolding bytes_of reason_of
returns-then-error-eq36 c = search (known 36)

pub returns : goal.returns
unfolding bytes_of
returns c = search unknown
