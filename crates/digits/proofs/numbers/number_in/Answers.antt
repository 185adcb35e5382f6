-- `number_in` meets its contract: sixteen digits are below 10^16, so no step wraps. Assumes nothing.
use Rattle.std.proofs.Common.{arith}
use Rattle.digits.proofs.Laws.Numbers.{few_digits}
use Rattle.digits.proofs.numbers.number_in.Goals as goal

pub overflow_mul-value : goal.overflow_mul-value
overflow_mul-value c = omega (arith, few_digits c.loop-digit.digit-index c.loop-digit.value (omega arith) (omega arith))

pub overflow_add-value : goal.overflow_add-value
overflow_add-value c =
    omega (arith, few_digits c.loop-digit.digit-index c.loop-digit.value (omega arith) (omega arith), c.in_ok-decimal.ensures.small)
