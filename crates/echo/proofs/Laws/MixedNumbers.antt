-- BIG.MixColumns on the numbers of the square. Assumes nothing.
use Rattle.std.proofs.Common.{◌≡◌, ℕ, ◌+◌, ◌*◌, ◌/◌, ◌%◌, ◌<◌, ◌≤◌, List, length, get_or, set, sym, refl, ap, ◌∙◌, subst, ap₂, ⊎_elim, not-suc-le-zero, add-zero, eq-or-lt_of_le, arith, length-set, get_or-set_other, get_or-set_same}
use Rattle.aes_round.specs.Array.{column}
use Rattle.aes_round.specs.Bytes.{Bytes, tab}
use Rattle.aes_round.specs.ByTables.{mix_numbers}
use Rattle.aes_round.specs.Mixing.{forward, mix_column}
use Rattle.aes_round.specs.Numbers.{byte_of, bytes_of, numbers}
use Rattle.aes_round.proofs.Promises.{agree, are_numbers, byte_of_numbers, bytes_of_numbers, entry_is, entry_mix, get_or-column, get_or_mix_numbers}
use Rattle.aes_round.proofs.Promises.{get_or-numbers, is_tab, length-column, number_ext}
use Rattle.echo.specs.Square.{big_mix_columns}
use Rattle.echo.proofs.Laws.SquareNumbers.{four_by_lem, four_stores, four_by, number_of, put_by}

-- ---- BIG.MixColumns: at a turn the four numbers at 16 c + j, 16 c + 4 + j, 16 c + 8 + j and 16 c + 12 + j

-- the stores in their order: the place p is written as the store number `store p`
abbrev store : ℕ → ℕ
store p = 16 * (p % 4) + 4 * (p / 16) + p / 4 % 4

-- and the place of a store
abbrev store_at : ℕ → ℕ
store_at n = 16 * (n / 4 % 4) + 4 * (n % 4) + n / 16

stored_at : (p : ℕ) → p < 64 → store_at (store p) ≡ p
stored_at = agree (λ p. store_at (store p)) (λ p. p) 64 tt

store_of : (c j i : ℕ) → j < 4 → i < 4 → store (16 * c + j + 4 * i) ≡ 16 * j + 4 * c + i
store_of c j i hj hi = ap₂ (λ (x y : ℕ). 16 * x + 4 * y + (16 * c + j + 4 * i) / 4 % 4) column square ∙ ap (λ (z : ℕ). 16 * j + 4 * c + z) row
  where
    column : (16 * c + j + 4 * i) % 4 ≡ j
    column = omega arith

    square : (16 * c + j + 4 * i) / 16 ≡ c
    square = omega arith

    row : (16 * c + j + 4 * i) / 4 % 4 ≡ i
    row = omega arith

module _ (s : List ℕ) where
  -- the square that the numbers s have, mixed
  pub mixed : List ℕ
  mixed = big_mix_columns (bytes_of 64 s)

  -- n stores are done
  pub record Stored (n : ℕ) (r : List ℕ) : Type 0 where
    pub long : length r ≡ 64
    pub done : (p : ℕ) → p < 64 → store p < n → get_or r p 0 ≡ number_of mixed p

  pub none_stored : (r : List ℕ) → length r ≡ 64 → Stored 0 r
  none_stored r l = record { long = l; done = λ p h lt. absurd (not-suc-le-zero lt) }

  more_stored : (n : ℕ) (r : List ℕ) (at v : ℕ) → Stored n r → at < 64 → store at ≡ n → v ≡ number_of mixed at → Stored (n + 1) (set r at v)
  more_stored n r at v S h o e = record {
    long = length-set r at v ∙ S.long;
    done = λ p hp lt.
        ⊎_elim
        (λ (q : store p ≡ n). ap (λ (k : ℕ). get_or (set r at v) k 0) (same p hp (q ∙ sym o))
        ∙ get_or-set_same r at v 0 (subst (λ (m : ℕ). at < m) (sym S.long) h) ∙ e ∙ ap (number_of mixed) (sym (same p hp (q ∙ sym o))))
        (λ (l : store p < n). get_or-set_other r at p v 0 (λ q. differ (store p) n l (ap store q ∙ o)) ∙ S.done p hp l)
        (eq-or-lt_of_le (last (store p) n lt));
  }
    where
      same : (p : ℕ) → p < 64 → store p ≡ store at → p ≡ at
      same p hp q = sym (stored_at p hp) ∙ ap store_at q ∙ stored_at at h

      differ : (a b : ℕ) → a < b → a ≡ b → ⊥
      differ a b l q = omega arith

      last : (a b : ℕ) → a < b + 1 → a ≤ b
      last a b l = omega arith

  module _ (c j : ℕ) (hc : c < 4) (hj : j < 4) where
    -- the bytes p of the four numbers are a column of the square
    column_is : (p : ℕ) → p < 4 → column 16 (bytes_of 64 s) c (4 * j + p) ≡ tab 4 (λ k. byte_of (get_or (four_by 4 s (16 * c + j)) k 0) p)
    column_is p hp =
        is_tab 4 _ _ (length-column 16 (bytes_of 64 s) c (4 * j + p))
        (λ k hk.
        get_or-column 16 (bytes_of 64 s) c (4 * j + p) k hk ∙ entry_is 16 (bytes_of 64 s) (4 * c + k) (4 * j + p)
        ∙ byte_of_numbers 64 s (16 * (4 * c + k) + (4 * j + p)) (omega arith) ∙ ap₂ (λ (q r : ℕ). byte_of (get_or s q 0) r) (quotient k) (remainder k)
        ∙ ap (λ (x : ℕ). byte_of x p) (sym (four_by_lem 4 s (16 * c + j) k hk)))
      where
        quotient : (k : ℕ) → (16 * (4 * c + k) + (4 * j + p)) / 4 ≡ 16 * c + j + 4 * k
        quotient k = omega arith

        remainder : (k : ℕ) → (16 * (4 * c + k) + (4 * j + p)) % 4 ≡ p
        remainder k = omega arith

    mixed_number : (i : ℕ) → i < 4 → get_or (mix_numbers (four_by 4 s (16 * c + j))) i 0 ≡ number_of mixed (16 * c + j + 4 * i)
    unfolding mixed big_mix_columns
    mixed_number i hi =
        get_or_mix_numbers (four_by 4 s (16 * c + j)) i hi
        ∙ number_ext _ _
        (λ p hp. sym
        (ap (λ (k : ℕ). get_or (big_mix_columns (bytes_of 64 s)) k 0) (place p) ∙ sym (entry_is 16 _ (4 * c + i) (4 * j + p))
        ∙ entry_mix 16 forward (bytes_of 64 s) (4 * c + i) (4 * j + p) (omega arith) (omega arith)
        ∙ ap₂ (λ (q r : ℕ). get_or (mix_column forward (column 16 (bytes_of 64 s) q (4 * j + p))) r 0) quotient remainder
        ∙ ap (λ (v : List ℕ). get_or (mix_column forward v) i 0) (column_is p hp)))
      where
        place : (p : ℕ) → 4 * (16 * c + j + 4 * i) + p ≡ 16 * (4 * c + i) + (4 * j + p)
        place p = omega arith

        quotient : (4 * c + i) / 4 ≡ c
        quotient = omega arith

        remainder : (4 * c + i) % 4 ≡ i
        remainder = omega arith

    -- a turn: four stores
    turn_stored : (n : ℕ) (r v : List ℕ) → Stored n r → n ≡ 16 * j + 4 * c → v ≡ mix_numbers (four_by 4 s (16 * c + j))
        → Stored (n + 4) (put_by 4 r (16 * c + j) v)
    turn_stored n r v S e ev =
        four_stores Stored 4 (16 * c + j) n r v
        (λ i hi q T.
        more_stored (n + i) q (16 * c + j + 4 * i) (get_or v i 0) T (omega arith) (store_of c j i hj hi ∙ ap (λ (m : ℕ). m + i) (sym e))
        (ap (λ (w : List ℕ). get_or w i 0) ev ∙ mixed_number i hi)) S

  -- the inner loop, over c: it begins, goes on and ends
  pub begin_stored : (j : ℕ) (r : List ℕ) → Stored (16 * j) r → Stored (16 * j + 0) r
  begin_stored j r = subst (λ (n : ℕ). Stored n r) (sym (add-zero (16 * j)))

  pub next_stored : (c j : ℕ) (r v : List ℕ) → Stored (16 * j + 4 * c) r → c < 4 → j < 4 → v ≡ mix_numbers (four_by 4 s (16 * c + j))
      → Stored (16 * j + 4 * (c + 1)) (put_by 4 r (16 * c + j) v)
  next_stored c j r v S hc hj ev = subst (λ (n : ℕ). Stored n (put_by 4 r (16 * c + j) v)) (steps c j) (turn_stored c j hc hj (16 * j + 4 * c) r v S refl ev)
    where
      steps : (c j : ℕ) → 16 * j + 4 * c + 4 ≡ 16 * j + 4 * (c + 1)
      steps c j = omega arith

  pub end_stored : (c j : ℕ) (r : List ℕ) → Stored (16 * j + 4 * c) r → c ≤ 4 → 4 ≤ c → Stored (16 * (j + 1)) r
  end_stored c j r S most least = subst (λ (n : ℕ). Stored n r) (steps c j most least) S
    where
      steps : (c j : ℕ) → c ≤ 4 → 4 ≤ c → 16 * j + 4 * c ≡ 16 * (j + 1)
      steps c j most least = omega arith

  pub all_stored : (j : ℕ) (r : List ℕ) → Stored (16 * j) r → 4 ≤ j → r ≡ numbers 64 (big_mix_columns (bytes_of 64 s))
  unfolding mixed
  all_stored j r S h = are_numbers 64 _ r S.long (λ p lt. S.done p lt (omega arith))

-- the numbers of a square, mixed
pub mix_by_numbers : (s : List ℕ) (c j i : ℕ) → Bytes 256 s → c < 4 → j < 4 → i < 4
    → get_or (numbers 64 (big_mix_columns s)) (16 * c + j + 4 * i) 0 ≡ get_or (mix_numbers (four_by 4 (numbers 64 s) (16 * c + j))) i 0
unfolding mixed
mix_by_numbers s c j i S hc hj hi =
    get_or-numbers 64 (big_mix_columns s) (16 * c + j + 4 * i) (omega arith)
    ∙ ap (λ (q : List ℕ). number_of (big_mix_columns q) (16 * c + j + 4 * i)) (sym (bytes_of_numbers 64 s S))
    ∙ sym (mixed_number (numbers 64 s) c j hc hj i hi)
