-- `is_session` meets its contract, a case for each return. Assumes nothing.
use Rattle.std.proofs.Common.{rules}
use Rattle.echo.proofs.Laws.Sessions.{is_clear, is_not_clear, is_out}
use Rattle.echo.proofs.Laws.Waiting.{block_bits_fit, lent_within, some_block_bits}
use Rattle.echo.proofs.session.Session.is_session.Goals as goal

pub returns-then-not-admitted : goal.returns-then-not-admitted
returns-then-not-admitted c = search is_out

pub overflow_mul-within : goal.overflow_mul-within
overflow_mul-within c = search block_bits_fit

pub nonzero_rem-within : goal.nonzero_rem-within
nonzero_rem-within c = search some_block_bits

pub zeros_from-requires : goal.zeros_from-requires
zeros_from-requires c = search lent_within

pub returns-then-zero_bits_from : goal.returns-then-zero_bits_from
returns-then-zero_bits_from c =
    is_clear _ _ c.admitted.ensures (search rules) c.if-self-gt-BIT_LIMIT.false _ c.block_size.ensures _ c.zero_bits_from.ensures c.if-zero_bits_from.true _ _
    c.zeros_from.ensures c.chaining_size.ensures

pub returns-else-zero_bits_from : goal.returns-else-zero_bits_from
returns-else-zero_bits_from c = search is_not_clear
