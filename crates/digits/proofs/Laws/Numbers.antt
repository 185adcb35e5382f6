-- Numbers, a digit at a time. Assumes nothing.
use Rattle.std.proofs.Common.{◌≡◌, ℕ, ◌+◌, ◌*◌, ◌<◌, ◌≤◌, ◌^◌, List, drop, get_or, length, Some, arith, add-one, drop-cons}
use Rattle.std.proofs.Math.Nat.{pow-le-pow_right, pow-succ'}
use Rattle.digits.specs.Numbers.{decimal_of, number_from}

-- the number n of i digits, fewer than sixteen, so that one more fits
pub few_digits : (i n : ℕ) → i < 16 → n < 10 ^ i → n < 10 ^ 15
few_digits i n h p = omega (arith, pow-le-pow_right {n = 10} (omega arith) {i = i} {j = 15} (omega arith))

-- one more digit
pub one_more : (i n d : ℕ) → n < 10 ^ i → d ≤ 9 → 10 * n + d < 10 ^ (i + 1)
one_more i n d h g = rw (add-one i, pow-succ') (omega arith)

pub number_turn : (word : List ℕ) (i n d : ℕ) → i < length word → decimal_of (get_or word i 0) ≡ Some d
    → number_from n (drop i word) ≡ number_from (10 * n + d) (drop (i + 1) word)
unfolding number_from
number_turn word i n d h e = rw (drop-cons word i 0 h, e, add-one i)

-- what the loop of `number_in` keeps
pub ruleset digit_steps = (one_more, number_turn)
