-- `read` meets its contract, a case for each return. Assumes nothing.
use Rattle.echo.proofs.Laws.Sessions.{bits_most, digest_fits, digest_long, digest_within, left_3, left_5, left_digest, read_0, read_3, read_5}
use Rattle.echo.proofs.Laws.Sessions.{rest_zero, taken_most}
use Rattle.echo.proofs.session.Session.read.Goals as goal

pub returns-then-not-is_session-clause-answer : goal.returns-then-not-is_session-clause-answer
returns-then-not-is_session-clause-answer c = rw c.refused.ensures (search read_3)

pub returns-then-not-is_session-clause-left : goal.returns-then-not-is_session-clause-left
returns-then-not-is_session-clause-left c = search left_3

pub returns-then-out-n-clause-answer : goal.returns-then-out-n-clause-answer
returns-then-out-n-clause-answer c = rw c.refused-then-out-n.ensures (search read_5)

pub returns-then-out-n-clause-left : goal.returns-then-out-n-clause-left
returns-then-out-n-clause-left c = search left_5

pub finish-v-requires-clause-waiting_value : goal.finish-v-requires-clause-waiting_value
finish-v-requires-clause-waiting_value c = search rest_zero

pub finish-v-requires-clause-bits_bound : goal.finish-v-requires-clause-bits_bound
finish-v-requires-clause-bits_bound c = search bits_most

pub finish-v-requires-clause-taken_le_bit_limit : goal.finish-v-requires-clause-taken_le_bit_limit
finish-v-requires-clause-taken_le_bit_limit c = search taken_most

pub slice_bounds-v-end : goal.slice_bounds-v-end
slice_bounds-v-end c = search digest_within

pub slice_bounds-copy_in-end : goal.slice_bounds-copy_in-end
slice_bounds-copy_in-end c = search digest_long

pub copy_in-requires : goal.copy_in-requires
copy_in-requires c = search digest_fits

pub returns-clause-answer : goal.returns-clause-answer
returns-clause-answer c = search read_0

pub returns-clause-left : goal.returns-clause-left
returns-clause-left c = search left_digest
