-- `check_add_bits` meets its contract, a case for each return. Assumes nothing.
use Rattle.echo.proofs.Laws.Sessions.{add_0, add_16, add_17, add_3, add_4, add_6, taken_most}
use Rattle.echo.proofs.session.Session.check_add_bits.Goals as goal

pub returns-then-not-is_session : goal.returns-then-not-is_session
returns-then-not-is_session c = search add_3

pub overflow_sub-self : goal.overflow_sub-self
overflow_sub-self c = search taken_most

pub returns-then-self-count : goal.returns-then-self-count
returns-then-self-count c = search add_4

pub returns-then-piece-count : goal.returns-then-piece-count
returns-then-piece-count c = search add_6

pub returns-then-behind_part : goal.returns-then-behind_part
returns-then-behind_part c = search add_16

pub returns-then-not-zero_bits_from : goal.returns-then-not-zero_bits_from
returns-then-not-zero_bits_from c = search add_17

pub returns : goal.returns
returns c = search add_0
