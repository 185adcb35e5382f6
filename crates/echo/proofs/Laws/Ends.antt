-- The blocks that are left when a message ends: waiting bytes and padding. Assumes nothing.
use Rattle.std.proofs.Common.{◌≡◌, ℕ, zero, suc, ◌+◌, ◌-◌, ◌*◌, ◌/◌, ◌%◌, ◌^◌, ◌<◌, ◌≤◌, min, Bool, true, eqb, ltb, List, ◌∷◌, ◌++◌, length, get_or, take, drop, set, replicate, sym, refl, ap, ◌∙◌, subst, ap₂, ⊎_elim, append_assoc, add-zero, mod-lt, mod-eq_of_lt, mul-zero, mul-one, mul-add, arith, length-append, length-set, length-take-le, take_all, get_or-set_other, get_or-take, get_or-set_same, take_at, drop_at, le-ltb, lt-ltb, eq-eqb, ne_eqb}
use native.Mathlib.Nat.{div-add-mod, div-eq_of_lt, min-eq_left, mul-add-div, mul-add-mod_self_left}
use lib.ListN.{get_or-replicate, length-replicate, replicate-append-replicate}
use Rattle.aes_round.proofs.Promises.{length-xor, lt_or_le, same_list}
use Rattle.echo.specs.declared.mode.Mode.{Mode}
use Rattle.echo.specs.declared.session.Session.{Session}
use Rattle.echo.specs.Bits.{bits_of, byte_bits, packed}
use Rattle.echo.specs.Compression.{big_final, compress}
use Rattle.echo.specs.Digest.{block, block_count, counter_at, iterate}
use Rattle.echo.specs.Families.{block_size, chaining_size, either, round_count}
use Rattle.echo.specs.Padding.{padding}
use Rattle.echo.specs.Placed.{Placed}
use Rattle.echo.specs.Session.{all_zero, block_of, chaining_of, compressed, final_chaining, made}
use Rattle.echo.specs.Square.{keys_from}
use Rattle.echo.proofs.Laws.Bits.{Part, take_part, zero_within}
use Rattle.echo.proofs.Laws.Counting.{bits_mod, div_on, mod_on}
use Rattle.echo.proofs.Laws.Families.{block_pos, sizes}
use Rattle.echo.proofs.Laws.Joined.{first_part, second_part}
use Rattle.echo.proofs.Laws.Padded.{ending, length_lengths, lengths_of, packed_behind}
use Rattle.echo.proofs.Laws.Zeros.{both, zero_from}

-- a block of b bytes whose last eighteen are the lengths e
closed : (b : ℕ) (w e t : List ℕ) → length w ≡ 224 → 128 ≤ b → b ≤ 224 → length e ≡ 18 → Placed w (b - 18) e 18 t → take b t ≡ take (b - 18) w ++ e
closed b w e t lw least most le P =
    same_list b (take b t) (take (b - 18) w ++ e) (length-take-le b t (omega (arith, P.long))) (length-append (take (b - 18) w) e ∙ omega (arith, short, le))
    (λ k h. get_or-take b t k 0 h ∙ ⊎_elim (front k) (back k h) (lt_or_le k (b - 18)))
  where
    short : length (take (b - 18) w) ≡ b - 18
    short = length-take-le (b - 18) w (omega arith)

    front : (k : ℕ) → k < b - 18 → get_or t k 0 ≡ get_or (take (b - 18) w ++ e) k 0
    front k l = P.before k l ∙ sym (first_part (b - 18) (take (b - 18) w) e short k l ∙ get_or-take (b - 18) w k 0 l)

    on : (k : ℕ) → b - 18 ≤ k → b - 18 + (k - (b - 18)) ≡ k
    on k g = omega arith

    left : (k : ℕ) → k < b → b - 18 ≤ k → k - (b - 18) < 18
    left k h g = omega arith

    back : (k : ℕ) → k < b → b - 18 ≤ k → get_or t k 0 ≡ get_or (take (b - 18) w ++ e) k 0
    back k h g =
        ap (λ (i : ℕ). get_or t i 0) (sym (on k g))
        ∙ P.inside (k - (b - 18)) (left k h g)
        ∙ sym (ap (λ (i : ℕ). get_or (take (b - 18) w ++ e) i 0) (sym (on k g)) ∙ second_part (b - 18) (take (b - 18) w) e short (k - (b - 18)))

-- the first m bytes of a waiting block in which the padding has begun
begun : (w : List ℕ) (u m y : ℕ) → all_zero (drop (suc u) w) ≡ true → u < m → m ≤ length w → take m (set w u y) ≡ take u w ++ (y ∷ replicate (m - u - 1) 0)
begun w u m y e h l =
    same_list m _ _ (length-take-le m (set w u y) (subst (λ (n : ℕ). m ≤ n) (sym (length-set w u y)) l))
    (length-append (take u w) _ ∙ omega (arith, short, length-replicate {A = ℕ} (m - u - 1) 0))
    (λ k lt. get_or-take m (set w u y) k 0 lt ∙ ⊎_elim (before k) (from k lt) (lt_or_le k u))
  where
    short : length (take u w) ≡ u
    short = length-take-le u w (omega arith)

    before : (k : ℕ) → k < u → get_or (set w u y) k 0 ≡ get_or (take u w ++ (y ∷ replicate (m - u - 1) 0)) k 0
    before k lt =
        get_or-set_other w u k y 0 (λ q. omega arith)
        ∙ sym (first_part u (take u w) (y ∷ replicate (m - u - 1) 0) short k lt ∙ get_or-take u w k 0 lt)

    behind : (j : ℕ) → u + j < m → get_or (set w u y) (u + j) 0 ≡ get_or (y ∷ replicate (m - u - 1) 0) j 0
    behind zero lt =
        ap (λ (i : ℕ). get_or (set w u y) i 0) (add-zero u) ∙ get_or-set_same w u y 0 (omega arith)
    behind (suc j) lt =
        get_or-set_other w u (u + suc j) y 0 (λ q. omega arith) ∙ zero_from w (suc u) (u + suc j) e (omega arith)
        ∙ sym (get_or-replicate (m - u - 1) j 0 0 (omega arith))

    on : (k : ℕ) → u ≤ k → u + (k - u) ≡ k
    on k g = omega arith

    from : (k : ℕ) → k < m → u ≤ k → get_or (set w u y) k 0 ≡ get_or (take u w ++ (y ∷ replicate (m - u - 1) 0)) k 0
    from k lt g =
        ap (λ (i : ℕ). get_or (set w u y) i 0) (sym (on k g))
        ∙ behind (k - u) (omega arith)
        ∙ sym
        (ap (λ (i : ℕ). get_or (take u w ++ (y ∷ replicate (m - u - 1) 0)) i 0) (sym (on k g))
        ∙ second_part u (take u w) (y ∷ replicate (m - u - 1) 0) short (k - u))

-- ---- the numbers

-- in bits, with blocks of MSIZE: the counter of the first block that is left and of a second, and how many are left
module _ (msize L : ℕ) (least : 145 ≤ msize) where
  some : 0 < msize
  some = omega arith

  -- the padding fits behind the bits that wait
  one_block : L % msize + 145 ≤ msize → block_count msize L - L / msize ≡ 1
  unfolding block_count
  one_block h = omega (arith, div_on msize some L 144, div-eq_of_lt (less h))
    where
      less : L % msize + 145 ≤ msize → L % msize + 144 < msize
      less h = omega arith

  -- it does not: a second block
  two_blocks : msize < L % msize + 145 → block_count msize L - L / msize ≡ 2
  unfolding block_count
  two_blocks h =
      omega
      (arith, div_on msize some L 144, ap (λ (x : ℕ). x / msize) (over h) ∙ mul-add-div some 1 (L % msize + 144 - msize), div-eq_of_lt (rest h), mod-lt L some)
    where
      over : msize < L % msize + 145 → L % msize + 144 ≡ msize * 1 + (L % msize + 144 - msize)
      over h = omega (arith, mul-one msize)

      rest : msize < L % msize + 145 → L % msize + 144 - msize < msize
      rest h = omega (arith, mod-lt L some)

  first_counter : counter_at msize L (L / msize + 0) ≡ either (eqb (L % msize) 0) 0 L
  unfolding counter_at
  first_counter = by (L % msize) refl
    where
      here : msize * (L / msize + 0) ≡ msize * (L / msize)
      here = ap (λ (x : ℕ). msize * x) (add-zero (L / msize))

      by : (u : ℕ) → L % msize ≡ u
          → either (ltb (msize * (L / msize + 0)) L) (min L (msize * (L / msize + 0) + msize)) 0 ≡ either (eqb (L % msize) 0) 0 L
      by zero e =
          ap (λ (t : Bool). either t (min L (msize * (L / msize + 0) + msize)) 0)
          (le-ltb (msize * (L / msize + 0)) L (omega (arith, here, div-add-mod L msize)))
          ∙ sym (ap (λ (t : Bool). either t 0 L) (eq-eqb (L % msize) 0 e))
      by (suc u) e =
          ap (λ (t : Bool). either t (min L (msize * (L / msize + 0) + msize)) 0)
          (lt-ltb (msize * (L / msize + 0)) L (omega (arith, here, div-add-mod L msize)))
          ∙ min-eq_left (omega (arith, here, div-add-mod L msize, mod-lt L some))
          ∙ sym (ap (λ (t : Bool). either t 0 L) (ne_eqb (L % msize) 0 (λ z. omega arith)))

  second_counter : counter_at msize L (L / msize + 1) ≡ 0
  unfolding counter_at
  second_counter =
      ap (λ (t : Bool). either t (min L (msize * (L / msize + 1) + msize)) 0)
      (le-ltb (msize * (L / msize + 1)) L (omega (arith, mul-add msize (L / msize) 1, mul-one msize, div-add-mod L msize, mod-lt L some)))

-- in bytes, n of them whole: the zeros between the marked byte and the lengths
module _ (b n : ℕ) (least : 128 ≤ b) where
  some_bytes : 0 < b
  some_bytes = omega arith

  one_zeros : n % b + 19 ≤ b → b - (n + 18) % b - 1 ≡ b - 18 - n % b - 1
  one_zeros h = omega (arith, mod_on b some_bytes n 18, mod-eq_of_lt (less h))
    where
      less : n % b + 19 ≤ b → n % b + 18 < b
      less h = omega arith

  two_zeros : b < n % b + 19 → b - (n + 18) % b - 1 ≡ b - n % b - 1 + (b - 18)
  two_zeros h =
      omega (
        arith,
        mod_on b some_bytes n 18,
        ap (λ (x : ℕ). x % b) (over h) ∙ mul-add-mod_self_left b 1 (n % b + 18 - b),
        mod-eq_of_lt (rest h),
        mod-lt n some_bytes,
      )
    where
      over : b < n % b + 19 → n % b + 18 ≡ b * 1 + (n % b + 18 - b)
      over h = omega (arith, mul-one b)

      rest : b < n % b + 19 → n % b + 18 - b < b
      rest h = omega (arith, mod-lt n some_bytes)

-- the padding fits, told by the whole bytes or by the bits
module _ (b L : ℕ) (least : 128 ≤ b) where
  one_by_bits : L / 8 % b + 19 ≤ b → L % (8 * b) + 145 ≤ 8 * b
  one_by_bits h = omega (arith, bits_mod b (some_bytes b L least) L)

  two_by_bits : b < L / 8 % b + 19 → 8 * b < L % (8 * b) + 145
  two_by_bits h = omega (arith, bits_mod b (some_bytes b L least) L)

-- ---- the blocks

take_zeros : (m n : ℕ) → m ≤ n → take {A = ℕ} m (replicate n 0) ≡ replicate m 0
take_zeros m n h =
    ap (take m) (ap (λ (k : ℕ). replicate k 0) (sym (on h)) ∙ sym (replicate-append-replicate m (n - m) 0))
    ∙ take_at (replicate m 0) (replicate (n - m) 0) m (length-replicate m 0)
  where
    on : m ≤ n → m + (n - m) ≡ n
    on h = omega arith

-- w is a waiting block in which the padding has begun: y is the part byte, marked, behind the whole bytes
module _ (b h L y : ℕ) (w : List ℕ) (lw : length w ≡ 224) (least : 128 ≤ b) (most : b ≤ 224) (z : all_zero (drop (suc (L / 8 % b)) w) ≡ true) where
  abbrev used : ℕ
  used = L / 8 % b

  -- the bytes that are left
  abbrev left : List ℕ
  left = take used w ++ (y ∷ (replicate (b - (L / 8 + 18) % b - 1) 0 ++ lengths_of h L))

  begun_long : (m : ℕ) → m ≤ 224 → length (take m (set w used y)) ≡ m
  begun_long m l = length-take-le m (set w used y) (omega (arith, length-set w used y))

  -- one block: the waiting bytes, the marked byte, zeros and the lengths
  one : used + 19 ≤ b → block b left 0 ≡ take (b - 18) (set w used y) ++ lengths_of h L
  unfolding block
  one k =
      ap₂ (λ (x : ℕ) (l : List ℕ). take b (drop x l)) (mul-zero b)
      (ap (λ (x : ℕ). take used w ++ (y ∷ (replicate x 0 ++ lengths_of h L))) (one_zeros b (L / 8) least k)
      ∙ sym (append_assoc (take used w) (y ∷ replicate (b - 18 - used - 1) 0) (lengths_of h L))
      ∙ ap (λ (l : List ℕ). l ++ lengths_of h L) (sym (begun w used (b - 18) y z (omega arith) (omega arith))))
      ∙ take_all b (take (b - 18) (set w used y) ++ lengths_of h L)
      (omega (arith, length-append (take (b - 18) (set w used y)) (lengths_of h L), length_lengths h L, begun_long (b - 18) (omega arith)))

  -- two blocks: the lengths stand in the second
  halves : b < used + 19 → left ≡ take b (set w used y) ++ (replicate (b - 18) 0 ++ lengths_of h L)
  halves k =
      ap (λ (x : ℕ). take used w ++ (y ∷ (replicate x 0 ++ lengths_of h L))) (two_zeros b (L / 8) least k)
      ∙ ap (λ (l : List ℕ). take used w ++ (y ∷ (l ++ lengths_of h L))) (sym (replicate-append-replicate (b - used - 1) (b - 18) 0))
      ∙ ap (λ (l : List ℕ). take used w ++ (y ∷ l)) (append_assoc (replicate (b - used - 1) 0) (replicate (b - 18) 0) (lengths_of h L))
      ∙ sym (append_assoc (take used w) (y ∷ replicate (b - used - 1) 0) (replicate (b - 18) 0 ++ lengths_of h L))
      ∙ ap (λ (l : List ℕ). l ++ (replicate (b - 18) 0 ++ lengths_of h L)) (sym (begun w used b y z (mod-lt (L / 8) (some_bytes b L least)) (omega arith)))

  two_first : b < used + 19 → block b left 0 ≡ take b (set w used y)
  unfolding block
  two_first k = ap₂ (λ (x : ℕ) (l : List ℕ). take b (drop x l)) (mul-zero b) (halves k) ∙ take_at (take b (set w used y)) _ b (begun_long b most)

  two_second : b < used + 19 → block b left 1 ≡ take (b - 18) (replicate 224 0) ++ lengths_of h L
  unfolding block
  two_second k =
      ap₂ (λ (x : ℕ) (l : List ℕ). take b (drop x l)) (mul-one b) (halves k)
      ∙ ap (take b) (drop_at (take b (set w used y)) _ b (begun_long b most))
      ∙ take_all b (replicate (b - 18) 0 ++ lengths_of h L)
      (omega (arith, length-append (replicate (b - 18) 0) (lengths_of h L), length-replicate {A = ℕ} (b - 18) 0, length_lengths h L))
      ∙ ap (λ (l : List ℕ). l ++ lengths_of h L) (sym (take_zeros (b - 18) 224 (omega arith)))

-- ---- the lengths e put into the last bytes of a block, by a block size b that the code computed

module _ (mode : Mode) (h b : ℕ) (size : b ≡ block_size mode h) where
  pub lengths_fit : 18 ≤ b
  lengths_fit = let S = sizes mode h in omega arith

  module _ (w e : List ℕ) (lw : length w ≡ 224) (le : length e ≡ 18) where
    pub lengths_within : b - 18 + length e ≤ length w
    lengths_within = let S = sizes mode h in omega arith

    pub closed_block : (L k : ℕ) (salt v t u : List ℕ) → u ≡ compressed mode h salt v k (take (block_size mode h) t) → Placed w (b - 18) e (length e) t
        → e ≡ lengths_of h L → u ≡ compressed mode h salt v k (take (block_size mode h - 18) w ++ lengths_of h L)
    closed_block L k salt v t u r P d =
        let S = sizes mode h in
        r
        ∙ ap (compressed mode h salt v k)
        (closed (block_size mode h) w e t lw S.block_least S.block_most le
        (subst (λ (x : ℕ). Placed w (x - 18) e 18 t) size (subst (λ (x : ℕ). Placed w (b - 18) e x t) le P))
        ∙ ap (λ (l : List ℕ). take (block_size mode h - 18) w ++ l) d)

-- ---- the final chaining variable

abbrev step : Mode → ℕ → List ℕ → ℕ → List ℕ → List ℕ → List ℕ
step mode h salt k = compress (chaining_size mode h) (round_count mode (chaining_size mode h)) (keys_from k) salt

-- the chaining variable of the room that has taken a block
taken_in : (mode : Mode) (h : ℕ) (salt v : List ℕ) (k : ℕ) (m : List ℕ)
    → take (chaining_size mode h) (compressed mode h salt v k m) ≡ step mode h salt k (take (chaining_size mode h) v) m
unfolding compress big_final
taken_in mode h salt v k m = take_at _ (drop (chaining_size mode h) v) (chaining_size mode h) (length-xor (chaining_size mode h) _ _)

-- the bits that wait, unused ones zero: whole bytes, a part byte, and zeros behind it
module _ (mode : Mode) (h L : ℕ) (w : List ℕ) (lw : length w ≡ 224) (z : all_zero (drop (L % (8 * block_size mode h)) (bits_of w)) ≡ true) where
  abbrev at : ℕ
  at = L / 8 % block_size mode h

  at_place : L % (8 * block_size mode h) ≡ 8 * at + L % 8
  at_place = bits_mod (block_size mode h) (block_pos mode h) L

  within : at < length w
  within = let S = sizes mode h in omega (arith, mod-lt (L / 8) (block_pos mode h))

  few : L % 8 < 8
  few = omega arith

  ended : (all_zero (drop (L % 8) (byte_bits (get_or w at 0))) ≡ true) × (all_zero (drop (suc at) w) ≡ true)
  ended =
      both (all_zero (drop (L % 8) (byte_bits (get_or w at 0)))) (all_zero (drop (suc at) w))
      (sym (zero_within w at (L % 8) within (omega (arith, few))) ∙ ap (λ (n : ℕ). all_zero (drop n (bits_of w))) (sym at_place) ∙ z)

  pub part_is : Part (get_or w at 0) (L % 8)
  part_is = record { few = few; clear = ended.0 }

  pub zero_after : all_zero (drop (suc at) w) ≡ true
  zero_after = ended.1

  -- with the padding, in bytes
  pub bytes_left : packed (take (L % (8 * block_size mode h)) (bits_of w) ++ padding (8 * block_size mode h) h L)
      ≡ take at w ++ ending (block_size mode h) h L (get_or w at 0)
  bytes_left =
      ap (λ (l : List ℕ). packed (l ++ padding (8 * block_size mode h) h L))
      (ap (λ (n : ℕ). take n (bits_of w)) at_place ∙ take_part w at (L % 8) within (omega (arith, few)))
      ∙ packed_behind (block_size mode h) (block_pos mode h) h L (get_or w at 0) part_is (take at w)

module _ (mode : Mode) (h L : ℕ) (salt v w : List ℕ) (lw : length w ≡ 224) (z : all_zero (drop (L % (8 * block_size mode h)) (bits_of w)) ≡ true) where
  abbrev b : ℕ
  b = block_size mode h

  abbrev c : ℕ
  c = chaining_size mode h

  -- the place of the marked byte, and the byte
  abbrev u : ℕ
  u = L / 8 % b

  abbrev y : ℕ
  y = get_or w u 0 + 2 ^ (7 - L % 8)

  -- the blocks that are left, their counters, and the chaining variable that has taken so many of them
  abbrev bytes : List ℕ
  bytes = take u w ++ ending b h L (get_or w u 0)

  abbrev counters : ℕ → ℕ
  counters i = counter_at (8 * b) L (L / (8 * b) + i)

  abbrev through : ℕ → List ℕ
  through = iterate c (round_count mode c) salt (take c v) (block b bytes) counters

  zeros : all_zero (drop (suc u) w) ≡ true
  zeros = zero_after mode h L w lw z

  final_is : final_chaining (made mode h salt v L w) ≡ through (block_count (8 * b) L - L / (8 * b))
  unfolding final_chaining
  final_is =
      ap (λ (l : List ℕ). iterate c (round_count mode c) salt (take c v) (block b l) counters (block_count (8 * b) L - L / (8 * b)))
      (bytes_left mode h L w lw z)

  long : 145 ≤ 8 * b
  long = let S = sizes mode h in omega arith

  first_in : (r m : List ℕ) → r ≡ compressed mode h salt v (either (eqb (L % (8 * b)) 0) 0 L) m → m ≡ block b bytes 0
      → take c r ≡ step mode h salt (counters 0) (take c v) (block b bytes 0)
  first_in r m e f =
      ap (take c) e
      ∙ taken_in mode h salt v _ m
      ∙ ap₂ (λ (k : ℕ) (l : List ℕ). step mode h salt k (take c v) l) (sym (first_counter (8 * b) L long)) f

  final_one : u + 19 ≤ b → (r : List ℕ) → r ≡ compressed mode h salt v (either (eqb (L % (8 * b)) 0) 0 L) (take (b - 18) (set w u y) ++ lengths_of h L)
      → take c r ≡ final_chaining (made mode h salt v L w)
  unfolding iterate
  final_one k r e =
      let S = sizes mode h in
      first_in r _ e (sym (one b h L y w lw S.block_least S.block_most zeros k))
      ∙ ap through (sym (one_block (8 * b) L long (one_by_bits b L S.block_least k)))
      ∙ sym final_is

  final_two : b < u + 19 → (r : List ℕ) → r ≡ compressed mode h salt v (either (eqb (L % (8 * b)) 0) 0 L) (take b (set w u y))
      → take c (compressed mode h salt r 0 (take (b - 18) (replicate 224 0) ++ lengths_of h L)) ≡ final_chaining (made mode h salt v L w)
  unfolding iterate
  final_two k r e =
      let S = sizes mode h in
      taken_in mode h salt r 0 _
      ∙ ap₂ (step mode h salt 0) (first_in r _ e (sym (two_first b h L y w lw S.block_least S.block_most zeros k)))
      (sym (two_second b h L y w lw S.block_least S.block_most zeros k))
      ∙ ap (λ (x : ℕ). step mode h salt x (step mode h salt (counters 0) (take c v) (block b bytes 0)) (block b bytes 1)) (sym (second_counter (8 * b) L long))
      ∙ ap through (sym (two_blocks (8 * b) L long (two_by_bits b L S.block_least k)))
      ∙ sym final_is

-- the part byte, at the place that the code computed
pub part_clear : (mode : Mode) (h L b : ℕ) → b ≡ block_size mode h → (w : List ℕ) → length w ≡ 224
    → all_zero (drop (L % (8 * block_size mode h)) (bits_of w)) ≡ true → all_zero (drop (L % 8) (byte_bits (get_or w (L / 8 % b) 0))) ≡ true
part_clear mode h L b size w lw z =
    ap (λ (x : ℕ). all_zero (drop (L % 8) (byte_bits (get_or w (L / 8 % x) 0)))) size ∙ (part_is mode h L w lw z).clear

-- of the block size b and the counter k that the code has
module _ (mode : Mode) (h L b k : ℕ) (size : b ≡ block_size mode h) (counter : k ≡ either (eqb (L % (8 * b)) 0) 0 L) where
  counter_is : k ≡ either (eqb (L % (8 * block_size mode h)) 0) 0 L
  counter_is = counter ∙ ap (λ (x : ℕ). either (eqb (L % (8 * x)) 0) 0 L) size

  -- and of the marked byte y
  module _ (salt v w : List ℕ) (lw : length w ≡ 224) (z : all_zero (drop (L % (8 * block_size mode h)) (bits_of w)) ≡ true)
      (y : ℕ) (mark : y ≡ get_or w (L / 8 % b) 0 + 2 ^ (7 - L % 8)) where
    begun_is : set w (L / 8 % b) y ≡ set w (L / 8 % block_size mode h) (get_or w (L / 8 % block_size mode h) 0 + 2 ^ (7 - L % 8))
    begun_is = ap (set w (L / 8 % b)) mark ∙ ap (λ (x : ℕ). set w (L / 8 % x) (get_or w (L / 8 % x) 0 + 2 ^ (7 - L % 8))) size

    one_left : L / 8 % b + 19 ≤ b → (u : List ℕ)
        → u ≡ compressed mode h salt v k (take (block_size mode h - 18) (set w (L / 8 % b) y) ++ lengths_of h L)
        → take (chaining_size mode h) u ≡ final_chaining (made mode h salt v L w)
    one_left fits u e =
        final_one mode h L salt v w lw z (subst (λ (x : ℕ). L / 8 % x + 19 ≤ x) size fits) u
        (e ∙ ap₂ (λ (x : ℕ) (l : List ℕ). compressed mode h salt v x (take (block_size mode h - 18) l ++ lengths_of h L)) counter_is begun_is)

    -- t is the session when the first of two blocks is compressed
    two_left : b < L / 8 % b + 19 → (t : Session) (r : List ℕ)
        → t ≡ made mode h salt (compressed mode h salt v k (take (block_size mode h) (set w (L / 8 % b) y))) L (set w (L / 8 % b) y)
        → r ≡ compressed t.mode t.bits t.salt t.chaining 0 (take (block_size t.mode t.bits - 18) (replicate 224 0) ++ lengths_of t.bits t.taken)
        → take (chaining_size mode h) r ≡ final_chaining (made mode h salt v L w)
    two_left over t r first second =
        ap (take (chaining_size mode h))
        (second
        ∙ ap (λ (u : Session).
        compressed u.mode u.bits u.salt u.chaining 0 (take (block_size u.mode u.bits - 18) (replicate 224 0) ++ lengths_of u.bits u.taken))
        first)
        ∙ final_two mode h L salt v w lw z (subst (λ (x : ℕ). x < L / 8 % x + 19) size over)
        (compressed mode h salt v k (take (block_size mode h) (set w (L / 8 % b) y)))
        (ap₂ (λ (x : ℕ) (l : List ℕ). compressed mode h salt v x (take (block_size mode h) l)) counter_is begun_is)

-- the same of a session
module _ (s : Session) (b k y : ℕ) (size : b ≡ block_of s) (counter : k ≡ either (eqb (s.taken % (8 * b)) 0) 0 s.taken) (lw : length s.waiting ≡ 224)
    (z : all_zero (drop (s.taken % (8 * block_of s)) (bits_of s.waiting)) ≡ true)
    (mark : y ≡ get_or s.waiting (s.taken / 8 % b) 0 + 2 ^ (7 - s.taken % 8)) where
  pub ends_in_one : s.taken / 8 % b + 19 ≤ b → (u : List ℕ)
      → u ≡ compressed s.mode s.bits s.salt s.chaining k (take (block_of s - 18) (set s.waiting (s.taken / 8 % b) y) ++ lengths_of s.bits s.taken)
      → take (chaining_of s) u ≡ final_chaining s
  unfolding final_chaining
  ends_in_one = one_left s.mode s.bits s.taken b k size counter s.salt s.chaining s.waiting lw z y mark

  pub ends_in_two : b < s.taken / 8 % b + 19 → (t : Session) (r : List ℕ)
      → t ≡ made s.mode s.bits s.salt (compressed s.mode s.bits s.salt s.chaining k (take (block_of s) (set s.waiting (s.taken / 8 % b) y))) s.taken
      (set s.waiting (s.taken / 8 % b) y)
      → r ≡ compressed t.mode t.bits t.salt t.chaining 0 (take (block_of t - 18) (replicate 224 0) ++ lengths_of t.bits t.taken)
      → take (chaining_of s) r ≡ final_chaining s
  unfolding final_chaining
  ends_in_two = two_left s.mode s.bits s.taken b k size counter s.salt s.chaining s.waiting lw z y mark
