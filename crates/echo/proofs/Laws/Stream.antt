-- The iteration over blocks, and a message that grows byte by byte. Assumes nothing.
use Rattle.std.proofs.Common.{◌≡◌, ℕ, zero, suc, ◌+◌, ◌-◌, ◌*◌, ◌/◌, ◌%◌, ◌<◌, ◌≤◌, List, [], ◌∷◌, ◌++◌, length, take, drop, set, replicate, refl, ap, ◌∙◌, append_assoc, add-zero, add-suc, mod-lt, mul-le-mul_left, mul-suc, mul-add, add-one, arith, length-append, length-drop, drop_of_length-le, drop-drop, lt-ltb}
use native.Mathlib.Nat.{div-add-mod, min-eq_right, mul-div-le}
use lib.Seq.{drop-append-le, set_at, take-append-le}
use Rattle.aes_round.proofs.Promises.{length-xor}
use Rattle.echo.specs.Compression.{big_final, compress}
use Rattle.echo.specs.Digest.{block, block_count, counter_at, iterate}
use Rattle.echo.specs.Square.{keys_from}
use Rattle.echo.proofs.Laws.Counting.{div_full, div_more, div_on, mod_full, mod_more}

-- ---- the iteration

pub length-compress : (c r : ℕ) (key : ℕ → List ℕ) (salt v m : List ℕ) → length (compress c r key salt v m) ≡ c
unfolding compress big_final
length-compress c r key salt v m = length-xor c _ _

module _ (c r : ℕ) (salt v : List ℕ) where
  pub length-iterate : (blocks : ℕ → List ℕ) (counters : ℕ → ℕ) (t : ℕ) → length v ≡ c → length (iterate c r salt v blocks counters t) ≡ c
  unfolding iterate
  length-iterate blocks counters zero e = e
  length-iterate blocks counters (suc t) e = length-compress c r _ salt _ _

  -- after a turn v does not matter to it
  pub length_turns : (blocks : ℕ → List ℕ) (counters : ℕ → ℕ) (t : ℕ) → 0 < t → length (iterate c r salt v blocks counters t) ≡ c
  unfolding iterate
  length_turns blocks counters zero some = absurd (omega arith)
  length_turns blocks counters (suc t) some = length-compress c r _ salt _ _

  -- blocks and counters count only below the number of turns
  pub iterate_ext : (f g : ℕ → List ℕ) (p q : ℕ → ℕ) (t : ℕ) → ((i : ℕ) → i < t → f i ≡ g i) → ((i : ℕ) → i < t → p i ≡ q i)
      → iterate c r salt v f p t ≡ iterate c r salt v g q t
  unfolding iterate
  iterate_ext f g p q zero F P = refl
  iterate_ext f g p q (suc t) F P =
      rw (F t (omega arith), P t (omega arith), iterate_ext f g p q t (λ i h. F i (omega arith)) (λ i h. P i (omega arith)))

  -- m turns, and n more
  pub iterate_on : (f : ℕ → List ℕ) (p : ℕ → ℕ) (m n : ℕ)
      → iterate c r salt v f p (m + n) ≡ iterate c r salt (iterate c r salt v f p m) (λ i. f (m + i)) (λ i. p (m + i)) n
  unfolding iterate
  iterate_on f p m zero = rw add-zero
  iterate_on f p m (suc n) = rw add-suc (ap (λ (u : List ℕ). compress c r (keys_from (p (m + n))) salt u (f (m + n))) (iterate_on f p m n))

-- ---- blocks of a message

pub length_snoc : (xs : List ℕ) (x : ℕ) → length (xs ++ x ∷ []) ≡ length xs + 1
length_snoc xs x = length-append xs (x ∷ [])

module _ (b : ℕ) (pos : 0 < b) where
  -- a block before the end ends before the end
  pub block_ends : (n i : ℕ) → i < n / b → b * i + b ≤ n
  block_ends n i h = omega (arith, mul-le-mul_left b h, mul-suc b i, mul-div-le n b)

  -- a block that is full stays
  pub block_stays : (xs ys : List ℕ) (i : ℕ) → i < length xs / b → block b (xs ++ ys) i ≡ block b xs i
  unfolding block
  block_stays xs ys i h =
      let g = block_ends (length xs) i h in
      rw (drop-append-le (b * i) xs ys (omega arith), take-append-le b (drop (b * i) xs) ys (simp length-drop (omega arith)))

  -- and has the number of message bits by its end as its counter, where b is in bits
  pub counter_full_block : (n i : ℕ) → i < n / b → counter_at b n i ≡ b * i + b
  unfolding counter_at
  counter_full_block n i h =
      let g = block_ends n i h in
      rw (lt-ltb (b * i) n (omega arith), min-eq_right g)

  -- the full blocks, and those that are left, in bits too
  pub blocks_left : (n : ℕ) → n / b + (block_count b n - n / b) ≡ block_count b n
  unfolding block_count
  blocks_left n = omega (arith, div_on b pos n 144)

  pub one_left : (n : ℕ) → 0 < block_count b n - n / b
  unfolding block_count
  one_left n = omega (arith, div_on b pos n 144)

  -- blocks behind the full ones
  pub block_rest : (xs ys : List ℕ) (i : ℕ) → block b (xs ++ ys) (length xs / b + i) ≡ block b (drop (b * (length xs / b)) xs ++ ys) i
  unfolding block
  block_rest xs ys i =
      rw
      (mul-add b (length xs / b) i, ← drop-drop (b * i) (b * (length xs / b)) (xs ++ ys), drop-append-le (b * (length xs / b)) xs ys (mul-div-le (length xs) b))

  -- the bytes behind the full blocks
  pub length_rest : (xs : List ℕ) → length (drop (b * (length xs / b)) xs) ≡ length xs % b
  length_rest xs = simp length-drop (omega (arith, div-add-mod (length xs) b))

  -- one byte more
  module _ (xs : List ℕ) (x : ℕ) where
    rest_snoc : drop (b * (length xs / b)) (xs ++ x ∷ []) ≡ drop (b * (length xs / b)) xs ++ x ∷ []
    rest_snoc = drop-append-le (b * (length xs / b)) xs (x ∷ []) (mul-div-le (length xs) b)

    -- the bytes behind the full blocks, in a room whose other bytes are zero: the byte is stored behind them
    stored : (room : ℕ) → b ≤ room
        → set (drop (b * (length xs / b)) xs ++ replicate (room - length xs % b) 0) (length xs % b) x
        ≡ drop (b * (length xs / b)) (xs ++ x ∷ []) ++ replicate (room - (length xs % b + 1)) 0
    stored room fits =
        let r = mod-lt (length xs) pos in
        let e : room - length xs % b ≡ suc (room - (length xs % b + 1)) = omega arith in
        rw (e, set_at (drop (b * (length xs / b)) xs) 0 (replicate (room - (length xs % b + 1)) 0) x (length xs % b) (length_rest xs), rest_snoc, append_assoc)

    -- where it doesn't fill a block
    module _ (h : length xs % b + 1 < b) where
      pub count_more : length (xs ++ x ∷ []) / b ≡ length xs / b
      count_more = ap (λ (n : ℕ). n / b) (length_snoc xs x) ∙ div_more b pos (length xs) h

      pub stored_more : (room : ℕ) → b ≤ room
          → set (drop (b * (length xs / b)) xs ++ replicate (room - length xs % b) 0) (length xs % b) x
          ≡ drop (b * (length (xs ++ x ∷ []) / b)) (xs ++ x ∷ []) ++ replicate (room - length (xs ++ x ∷ []) % b) 0
      stored_more room fits = rw (stored room fits, count_more, length_snoc xs x, mod_more b pos (length xs) h)

    -- where it fills a block
    module _ (h : length xs % b + 1 ≡ b) where
      pub count_full : length (xs ++ x ∷ []) / b ≡ suc (length xs / b)
      count_full = ap (λ (n : ℕ). n / b) (length_snoc xs x) ∙ div_full b pos (length xs) h ∙ add-one (length xs / b)

      pub counter_full : b * (length xs / b) + b ≡ length xs + 1
      counter_full = omega (arith, div-add-mod (length xs) b)

      pub stored_full : (room : ℕ) → b ≤ room
          → take b (set (drop (b * (length xs / b)) xs ++ replicate (room - length xs % b) 0) (length xs % b) x) ≡ block b (xs ++ x ∷ []) (length xs / b)
      unfolding block
      stored_full room fits = ap (take b) (stored room fits) ∙ take-append-le b _ _ (simp (length-drop, length-append) (omega (arith, counter_full)))

      pub nothing_waits : (room : ℕ)
          → replicate room 0 ≡ drop (b * (length (xs ++ x ∷ []) / b)) (xs ++ x ∷ []) ++ replicate (room - length (xs ++ x ∷ []) % b) 0
      nothing_waits room =
          let m : length (xs ++ x ∷ []) % b ≡ 0 = ap (λ (n : ℕ). n % b) (length_snoc xs x) ∙ mod_full b pos (length xs) h in
          let z : room - 0 ≡ room = omega arith in
          let l : length (xs ++ x ∷ []) ≤ b * (length (xs ++ x ∷ []) / b) = omega (arith, div-add-mod (length (xs ++ x ∷ [])) b) in
          rw (drop_of_length-le (xs ++ x ∷ []) l, m, z)
