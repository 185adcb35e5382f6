-- `number_in` meets its contract: the number of the digits so far goes on over those to come. Sixteen digits are below 10^16, so no
-- step wraps. Assumes nothing.
use Rattle.std.proofs.Common.{◌≡◌, ◌<◌, ◌^◌, ◌≤◌, drop, length}
use Rattle.digits.specs.Numbers.{number_from, number_of}
use Rattle.digits.proofs.numbers.number_in.Given as goal

abbrev pub invariant-loop-digit : goal.invariant-loop-digit
invariant-loop-digit l =
    (length l.word ≤ 16) × (l.value < 10 ^ l.digit-index) × (number_of l.word ≡ number_from l.value (drop l.digit-index l.word))
