-- A session that began behind q blocks, with the chaining variable v, and has taken the bytes m since, and perhaps a part byte. `rest` is the
-- chaining room that the family doesn't use. An opened session is one (q = 0), and so is every record that is a session. Assumes nothing.
use Rattle.std.proofs.Common.{◌≡◌, ℕ, zero, suc, ◌+◌, ◌-◌, ◌*◌, ◌/◌, ◌%◌, ◌<◌, ◌≤◌, true, List, [], ◌∷◌, ◌++◌, length, take, drop, set, replicate, sym, refl, ap, ◌∙◌, subst, ap₂, ⊎_elim, append_assoc, append-nil, add-zero, add_assoc, mod-lt, mul_assoc, eq-or-lt_of_le, mul-add, arith, take_at, drop_at, ne_eqb}
use native.Mathlib.Nat.{mul-add-div, mul-add-mod_self_left}
use lib.Seq.{set_at}
use Rattle.echo.specs.declared.mode.Mode.{Mode}
use Rattle.echo.specs.declared.session.Session.{Session}
use Rattle.echo.specs.Bits.{bits_of, byte_bits, packed}
use Rattle.echo.specs.Compression.{compress}
use Rattle.echo.specs.Digest.{block, block_count, counter_at, iterate}
use Rattle.echo.specs.Families.{block_size, chaining_size, round_count}
use Rattle.echo.specs.Padding.{padding}
use Rattle.echo.specs.Session.{add_byte, add_bytes, add_part, admitted, all_zero, bit_limit, final_chaining, is_session, made}
use Rattle.echo.specs.Square.{keys_from}
use Rattle.echo.proofs.Laws.Bits.{Part, no_bits, part_ends, take-bits}
use Rattle.echo.proofs.Laws.Counting.{bits_div, bits_mod}
use Rattle.echo.proofs.Laws.Families.{block_pos, sizes}
use Rattle.echo.proofs.Laws.Padded.{ending, packed_behind}
use Rattle.echo.proofs.Laws.Sessions.{is_clear}
use Rattle.echo.proofs.Laws.Stream.{
  block_rest,
  block_stays,
  blocks_left,
  count_full,
  count_more,
  counter_full,
  counter_full_block,
  iterate_ext,
  iterate_on,
  length-iterate,
  length_rest,
  length_snoc,
  nothing_waits,
  stored_full,
  stored_more,
}
use Rattle.echo.proofs.Laws.Waiting.{put_full, put_more}
use Rattle.echo.proofs.Laws.Zeros.{zeros_are_zero}

pub made_eq : {mode : Mode} {h m n : ℕ} {salt u w x y : List ℕ} → u ≡ w → m ≡ n → x ≡ y → made mode h salt u m x ≡ made mode h salt w n y
made_eq p r s = rw (p, r, s)

module _ (mode : Mode) (h : ℕ) (salt v rest : List ℕ) (q : ℕ) where
  abbrev b : ℕ
  b = block_size mode h

  abbrev c : ℕ
  c = chaining_size mode h

  -- the message bytes taken
  abbrev count : List ℕ → ℕ
  count m = b * q + length m

  -- the chaining variable after the first t blocks of m
  unfoldable pub chained : List ℕ → ℕ → List ℕ
  chained m = iterate c (round_count mode c) salt v (block b m) (λ i. 8 * (b * (q + i) + b))

  unfoldable pub state_from : List ℕ → Session
  state_from m = made mode h salt (chained m (length m / b) ++ rest) (8 * count m) (drop (b * (length m / b)) m ++ replicate (224 - length m % b) 0)

  -- with a part byte x, of which r bits count
  unfoldable pub state_with : List ℕ → ℕ → ℕ → Session
  state_with m x r =
      made mode h salt (chained m (length m / b) ++ rest) (8 * count m + r) (drop (b * (length m / b)) m ++ (x ∷ replicate (223 - length m % b) 0))

  -- ---- numbers

  abbrev few : (m : List ℕ) → length m % b < b
  few m = mod-lt (length m) (block_pos mode h)

  count_rest : (m : List ℕ) → count m % b ≡ length m % b
  count_rest m = mul-add-mod_self_left b q (length m)

  count_blocks : (m : List ℕ) → count m / b ≡ q + length m / b
  count_blocks m = mul-add-div (block_pos mode h) q (length m)

  -- the bits of n bytes and a part byte
  whole : (n r : ℕ) → r < 8 → (8 * n + r) / 8 ≡ n
  whole n r l = omega arith

  part : (n r : ℕ) → r < 8 → (8 * n + r) % 8 ≡ r
  part n r l = omega arith

  byte_place : (m : List ℕ) → length m % b ≡ 8 * count m / 8 % b
  byte_place m =
      let e : 8 * count m / 8 ≡ count m = omega arith in
      sym (ap (λ (n : ℕ). n % b) e ∙ count_rest m)

  bits_rest : (m : List ℕ) (r : ℕ) → r < 8 → (8 * count m + r) % (8 * b) ≡ 8 * (length m % b) + r
  bits_rest m r l =
      bits_mod b (block_pos mode h) (8 * count m + r)
      ∙ ap₂ (λ (x y : ℕ). 8 * x + y) (ap (λ (n : ℕ). n % b) (whole (count m) r l) ∙ count_rest m) (part (count m) r l)

  bits_blocks : (m : List ℕ) (r : ℕ) → r < 8 → (8 * count m + r) / (8 * b) ≡ q + length m / b
  bits_blocks m r l = bits_div b (block_pos mode h) (8 * count m + r) ∙ ap (λ (n : ℕ). n / b) (whole (count m) r l) ∙ count_blocks m

  count_snoc : (m : List ℕ) (x : ℕ) → 8 * count (m ++ x ∷ []) ≡ 8 * count m + 8
  count_snoc m x = omega (arith, length_snoc m x)

  block_fits : b ≤ 224
  block_fits = (sizes mode h).block_most

  -- full blocks stay
  chained_stays : (xs ys : List ℕ) → chained (xs ++ ys) (length xs / b) ≡ chained xs (length xs / b)
  unfolding chained
  chained_stays xs ys = iterate_ext _ _ salt _ _ _ _ _ _ (block_stays b (block_pos mode h) xs ys) (λ i l. refl)

  chained_more : (xs : List ℕ) (x : ℕ) → length xs % b + 1 < b → chained xs (length xs / b) ≡ chained (xs ++ x ∷ []) (length (xs ++ x ∷ []) / b)
  chained_more xs x l = sym (ap (chained (xs ++ x ∷ [])) (count_more b (block_pos mode h) xs x l) ∙ chained_stays xs (x ∷ []))

  -- the counter of a block that a byte fills
  filled_counter : (xs : List ℕ) (x : ℕ) → length xs % b + 1 ≡ b → 8 * (b * (q + length xs / b) + b) ≡ 8 * count xs + 8
  filled_counter xs x e = omega (arith, mul-add b q (length xs / b), counter_full b (block_pos mode h) xs x e)

  chained_full : (xs : List ℕ) (x : ℕ) → length xs % b + 1 ≡ b
      → chained (xs ++ x ∷ []) (length (xs ++ x ∷ []) / b)
      ≡ compress c (round_count mode c) (keys_from (8 * count xs + 8)) salt (chained xs (length xs / b)) (block b (xs ++ x ∷ []) (length xs / b))
  unfolding chained iterate
  chained_full xs x e = rw (count_full b (block_pos mode h) xs x e, chained_stays xs (x ∷ []), filled_counter xs x e)

  module _ (lv : length v ≡ c) where
    length_chained : (m : List ℕ) (t : ℕ) → length (chained m t) ≡ c
    unfolding chained
    length_chained m t = length-iterate c _ salt v _ _ t lv

    -- the chaining room: what the family uses of it, and the rest
    room_used : (m : List ℕ) (t : ℕ) → take c (chained m t ++ rest) ≡ chained m t
    room_used m t = take_at (chained m t) rest c (length_chained m t)

    room_rest : (m : List ℕ) (t : ℕ) → drop c (chained m t ++ rest) ≡ rest
    room_rest m t = drop_at (chained m t) rest c (length_chained m t)

    -- ---- one byte more, and many

    add_one_byte : (xs : List ℕ) (x : ℕ) → add_byte (state_from xs) x ≡ state_from (xs ++ x ∷ [])
    unfolding state_from
    add_one_byte xs x = ⊎_elim full more (eq-or-lt_of_le (mod-lt (length xs) (block_pos mode h)))
      where
        full : suc (length xs % b) ≡ b → add_byte (state_from xs) x ≡ state_from (xs ++ x ∷ [])
        full e =
            let f : length xs % b + 1 ≡ b = omega arith in
            sym (put_full (state_from xs) (length xs % b) b (byte_place xs) refl (omega arith) x
            (made mode h salt (chained (xs ++ x ∷ []) (length (xs ++ x ∷ []) / b) ++ rest) (8 * count xs + 8) (set (state_from xs).waiting (length xs % b) x))
            (made_eq
            (rw (chained_full xs x f, room_used xs (length xs / b), room_rest xs (length xs / b), stored_full b (block_pos mode h) xs x f 224 block_fits))
            refl refl))
            ∙ made_eq refl (sym (count_snoc xs x)) (nothing_waits b (block_pos mode h) xs x f 224)

        more : suc (length xs % b) < b → add_byte (state_from xs) x ≡ state_from (xs ++ x ∷ [])
        more e =
            let l : length xs % b + 1 < b = omega arith in
            sym (put_more (state_from xs) (length xs % b) b (byte_place xs) refl l x)
            ∙ made_eq (ap (λ (u : List ℕ). u ++ rest) (chained_more xs x l)) (sym (count_snoc xs x)) (stored_more b (block_pos mode h) xs x l 224 block_fits)

    pub add_more : (xs ys : List ℕ) → add_bytes (state_from xs) ys ≡ state_from (xs ++ ys)
    unfolding add_bytes
    add_more xs [] = ap state_from (sym (append-nil xs))
    add_more xs (y ∷ ys) =
        ap (λ (s : Session). add_bytes s ys) (add_one_byte xs y) ∙ add_more (xs ++ y ∷ []) ys ∙ ap state_from (append_assoc xs (y ∷ []) ys)

    -- ---- a part byte, and none

    zeros_are : (m : List ℕ) → replicate {A = ℕ} (224 - length m % b) 0 ≡ 0 ∷ replicate (223 - length m % b) 0
    zeros_are m =
        let e : 224 - length m % b ≡ suc (223 - length m % b) = omega (arith, few m, block_fits) in
        ap (λ (k : ℕ). replicate k 0) e

    pub no_part : (m : List ℕ) → state_from m ≡ state_with m 0 0
    unfolding state_from state_with
    no_part m = made_eq refl (sym (add-zero (8 * count m))) (ap (λ (l : List ℕ). drop (b * (length m / b)) m ++ l) (zeros_are m))

    pub add_part_lem : (m : List ℕ) (x r : ℕ) → Part x r → add_part (state_from m) x r ≡ state_with m x r
    unfolding add_part state_from state_with
    add_part_lem m x zero P = no_part m ∙ ap (λ (y : ℕ). state_with m y 0) (sym (no_bits x P))
    add_part_lem m x (suc r) P = rw (ne_eqb (suc r) 0 (λ z. omega arith)) (made_eq refl refl stored)
      where
        waits : List ℕ
        waits = drop (b * (length m / b)) m ++ replicate (224 - length m % b) 0

        stored : set waits (8 * count m / 8 % b) x ≡ drop (b * (length m / b)) m ++ (x ∷ replicate (223 - length m % b) 0)
        stored =
            ap₂ (λ (l : List ℕ) (k : ℕ). set (drop (b * (length m / b)) m ++ l) k x) (zeros_are m) (sym (byte_place m))
            ∙ set_at (drop (b * (length m / b)) m) 0 (replicate (223 - length m % b) 0) x (length m % b) (length_rest b (block_pos mode h) m)

    -- it is a session all along
    pub state_is_session : (m : List ℕ) (x r : ℕ) → Part x r → admitted h ≡ true → 8 * count m + r ≤ bit_limit → all_zero rest ≡ true
        → is_session (state_with m x r) ≡ true
    unfolding state_with
    state_is_session m x r P a l z =
        sym (is_clear (state_with m x r) true (sym a) refl l b refl true (sym waits) refl c true (sym (ap all_zero (room_rest m (length m / b)) ∙ z)) refl)
      where
        waits : all_zero (drop ((8 * count m + r) % (8 * b)) (bits_of (drop (b * (length m / b)) m ++ (x ∷ replicate (223 - length m % b) 0)))) ≡ true
        waits =
            rw (bits_rest m r P.few)
            (part_ends (drop (b * (length m / b)) m) x (replicate (223 - length m % b) 0) (length m % b) r (length_rest b (block_pos mode h) m) P
            (zeros_are_zero (223 - length m % b)))

    -- ---- what is read: the paper's iteration from v, over the bits since and the padding

    pub state_final : (m : List ℕ) (x r : ℕ) → Part x r → (L : ℕ) → L ≡ 8 * count m + r
        → final_chaining (state_with m x r)
        ≡ iterate c (round_count mode c) salt v (block b (packed ((bits_of m ++ take r (byte_bits x)) ++ padding (8 * b) h L)))
        (λ i. counter_at (8 * b) L (q + i)) (block_count (8 * b) L - q)
    unfolding final_chaining state_with chained
    state_final m x r P L is =
        rw (← is, room_used m t, bits_left, packed_left, blocks, packed_all) (sym whole_is)
      where
        t : ℕ
        t = length m / b

        E : List ℕ
        E = ending b h L x

        few_bits : r < 8
        few_bits = P.few

        r_is : L % 8 ≡ r
        r_is = ap (λ (n : ℕ). n % 8) is ∙ part (count m) r few_bits

        P_is : Part x (L % 8)
        P_is = subst (λ (k : ℕ). Part x k) (sym r_is) P

        blocks : L / (8 * b) ≡ q + t
        blocks = ap (λ (n : ℕ). n / (8 * b)) is ∙ bits_blocks m r few_bits

        behind : List ℕ
        behind = drop (b * t) m ++ E

        bits_left : take (L % (8 * b)) (bits_of (drop (b * t) m ++ (x ∷ replicate (223 - length m % b) 0))) ≡ bits_of (drop (b * t) m) ++ take r (byte_bits x)
        bits_left =
            ap (λ (n : ℕ). take n (bits_of (drop (b * t) m ++ (x ∷ replicate (223 - length m % b) 0))))
            (ap (λ (n : ℕ). n % (8 * b)) is ∙ bits_rest m r few_bits)
            ∙ take-bits (drop (b * t) m) x (replicate (223 - length m % b) 0) (length m % b) r (length_rest b (block_pos mode h) m) (omega (arith, few_bits))

        padded : (l : List ℕ) → packed ((bits_of l ++ take r (byte_bits x)) ++ padding (8 * b) h L) ≡ l ++ E
        padded l =
            ap (λ (k : ℕ). packed ((bits_of l ++ take k (byte_bits x)) ++ padding (8 * b) h L)) (sym r_is)
            ∙ packed_behind b (block_pos mode h) h L x P_is l

        packed_left : packed ((bits_of (drop (b * t) m) ++ take r (byte_bits x)) ++ padding (8 * b) h L) ≡ behind
        packed_left = padded (drop (b * t) m)

        packed_all : packed ((bits_of m ++ take r (byte_bits x)) ++ padding (8 * b) h L) ≡ m ++ E
        packed_all = padded m

        left : ℕ
        left = block_count (8 * b) L - (q + t)

        some : 0 < 8 * b
        some = omega (arith, block_pos mode h)

        all : block_count (8 * b) L - q ≡ t + left
        all = omega (arith, blocks_left (8 * b) some L, blocks)

        counted : (i : ℕ) → i < t → counter_at (8 * b) L (q + i) ≡ 8 * (b * (q + i) + b)
        counted i l = counter_full_block (8 * b) some L (q + i) (omega (arith, l, blocks)) ∙ omega (arith, mul_assoc 8 b (q + i))

        whole_is : iterate c (round_count mode c) salt v (block b (m ++ E)) (λ i. counter_at (8 * b) L (q + i)) (block_count (8 * b) L - q)
            ≡ iterate c (round_count mode c) salt (chained m t) (block b behind) (λ i. counter_at (8 * b) L (q + t + i)) left
        whole_is =
            ap (iterate c (round_count mode c) salt v (block b (m ++ E)) (λ i. counter_at (8 * b) L (q + i))) all
            ∙ iterate_on c (round_count mode c) salt v (block b (m ++ E)) (λ i. counter_at (8 * b) L (q + i)) t left
            ∙ iterate_ext c (round_count mode c) salt _ _ (block b behind) _ (λ i. counter_at (8 * b) L (q + t + i)) left
            (λ i l. block_rest b (block_pos mode h) m E i) (λ i l. ap (counter_at (8 * b) L) (sym (add_assoc q t i)))
            ∙ ap (λ (u : List ℕ). iterate c (round_count mode c) salt u (block b behind) (λ i. counter_at (8 * b) L (q + t + i)) left)
            (iterate_ext c (round_count mode c) salt v _ _ _ _ t (block_stays b (block_pos mode h) m E) counted)
