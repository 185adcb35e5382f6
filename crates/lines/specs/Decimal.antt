-- Decimal digits. Assumes nothing.
use Rattle.std.specs.Prelude.{ℕ, zero, suc, ◌+◌, ◌/◌, ◌%◌, cond, List, [], ◌∷◌, ◌++◌, eqb}

-- the digits of a number below 10^k, without zeros in front: none for 0
unfoldable pub significant : ℕ → ℕ → List ℕ
significant zero n = []
significant (suc k) n = cond (eqb n 0) [] (significant k (n / 10) ++ ((48 + n % 10) ∷ []))

-- the digits of a number below 2^64, which has at most twenty: one for 0
unfoldable pub decimal_of : ℕ → List ℕ
decimal_of n = significant 19 (n / 10) ++ ((48 + n % 10) ∷ [])
