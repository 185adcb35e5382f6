-- Bytes as bits and bits as bytes: one undoes the other, bytes and a part byte at the front, the bit that marks a part byte, and bits that are
-- zero. Assumes nothing.
use Rattle.std.proofs.Common.{◌≡◌, ℕ, zero, suc, ◌+◌, ◌-◌, ◌*◌, ◌/◌, ◌%◌, ◌^◌, ◌<◌, ◌≤◌, Bool, true, false, ◌&&◌, eqb, List, [], ◌∷◌, ◌++◌, length, get_or, take, drop, replicate, sym, refl, ap, ◌∙◌, ap₂, true≢false, append_assoc, append-nil, arith, length-append, length-drop, take-append-drop, length-take-le, take_all, eq-eqb, ne_eqb}
use lib.ListN.{get_or-append, get_or-eq_default, length-replicate}
use lib.ListN.{replicate-append-replicate}
use lib.Seq.{drop-append-add, drop-append-le, drop-length, drop-nil, split_at, take-append-add, take-append-le, take-length}
use Rattle.aes_round.specs.Bytes.{tab}
use Rattle.aes_round.proofs.Promises.{get_or-tab, is_tab, length-tab, tab_none}
use Rattle.echo.specs.Bits.{bits_of, byte_bits, first_byte, packed}
use Rattle.echo.specs.Session.{all_zero}
use Rattle.echo.proofs.Laws.Zeros.{both, zero_append, zeros_only}

pub length_byte : (x : ℕ) → length (byte_bits x) ≡ 8
unfolding byte_bits
length_byte x = refl

-- a number by seven halvings: what is left of each, and the last half
halved : (x a b c d e f g h i j k l m n : ℕ) → x ≡ 2 * a + h → a ≡ 2 * b + i → b ≡ 2 * c + j → c ≡ 2 * d + k → d ≡ 2 * e + l → e ≡ 2 * f + m
    → f ≡ 2 * g + n → 128 * g + 64 * n + 32 * m + 16 * l + 8 * k + 4 * j + 2 * i + h ≡ x
halved x a b c d e f g h i j k l m n p q r s t u v = omega arith

byte_back : (x : ℕ) → first_byte (byte_bits x) ≡ x
unfolding first_byte byte_bits
byte_back x = halved x (x / 2) (x / 4) (x / 8) (x / 16) (x / 32) (x / 64) (x / 128) _ _ _ _ _ _ _ by_1 by_2 by_4 by_8 by_16 by_32 by_64
  where
    by_1 : x ≡ 2 * (x / 2) + x % 2
    by_1 = omega arith

    by_2 : x / 2 ≡ 2 * (x / 4) + x / 2 % 2
    by_2 = omega arith

    by_4 : x / 4 ≡ 2 * (x / 8) + x / 4 % 2
    by_4 = omega arith

    by_8 : x / 8 ≡ 2 * (x / 16) + x / 8 % 2
    by_8 = omega arith

    by_16 : x / 16 ≡ 2 * (x / 32) + x / 16 % 2
    by_16 = omega arith

    by_32 : x / 32 ≡ 2 * (x / 64) + x / 32 % 2
    by_32 = omega arith

    by_64 : x / 64 ≡ 2 * (x / 128) + x / 64 % 2
    by_64 = omega arith

pub length-bits : (xs : List ℕ) → length (bits_of xs) ≡ 8 * length xs
unfolding bits_of
length-bits [] = refl
length-bits (x ∷ xs) = omega (arith, length-append (byte_bits x) (bits_of xs), length_byte x, length-bits xs)

pub bits_append : (xs ys : List ℕ) → bits_of (xs ++ ys) ≡ bits_of xs ++ bits_of ys
unfolding bits_of
bits_append [] ys = refl
bits_append (x ∷ xs) ys = ap (λ (l : List ℕ). byte_bits x ++ l) (bits_append xs ys) ∙ sym (append_assoc (byte_bits x) (bits_of xs) (bits_of ys))

-- ---- bits as bytes

first_only : (e rest : List ℕ) → length e ≡ 8 → first_byte (e ++ rest) ≡ first_byte e
unfolding first_byte
first_only e rest l =
    let at = get_or-append e rest 0 in
    rw (
      at 0 (omega arith),
      at 1 (omega arith),
      at 2 (omega arith),
      at 3 (omega arith),
      at 4 (omega arith),
      at 5 (omega arith),
      at 6 (omega arith),
      at 7 (omega arith),
    )

packed_byte : (e rest : List ℕ) → length e ≡ 8 → packed (e ++ rest) ≡ first_byte e ∷ packed rest
unfolding packed
packed_byte e rest l = sym (is_tab _ (first_byte e ∷ tab (length rest / 8) (λ k. first_byte (drop (8 * k) rest))) _ long each)
  where
    long : length (first_byte e ∷ tab (length rest / 8) (λ k. first_byte (drop (8 * k) rest))) ≡ length (e ++ rest) / 8
    long = omega (arith, length-append e rest, length-tab (length rest / 8) (λ k. first_byte (drop (8 * k) rest)))

    each : (k : ℕ) → k < length (e ++ rest) / 8
        → get_or (first_byte e ∷ tab (length rest / 8) (λ k. first_byte (drop (8 * k) rest))) k 0 ≡ first_byte (drop (8 * k) (e ++ rest))
    each zero h = sym (first_only e rest l)
    each (suc k) h =
        let n : 8 * suc k ≡ length e + 8 * k = omega arith in
        get_or-tab (length rest / 8) _ k (omega (arith, length-append e rest))
        ∙ sym (ap first_byte (ap (λ (i : ℕ). drop i (e ++ rest)) n ∙ drop-append-add e rest (8 * k)))

pub packed_bits : (xs rest : List ℕ) → packed (bits_of xs ++ rest) ≡ xs ++ packed rest
unfolding bits_of
packed_bits [] rest = refl
packed_bits (x ∷ xs) rest =
    ap packed (append_assoc (byte_bits x) (bits_of xs) rest)
    ∙ packed_byte (byte_bits x) (bits_of xs ++ rest) (length_byte x)
    ∙ ap₂ (λ (y : ℕ) (l : List ℕ). y ∷ l) (byte_back x) (packed_bits xs rest)

packed_none : packed [] ≡ []
unfolding packed
packed_none = tab_none _

pub packed_all : (xs : List ℕ) → packed (bits_of xs) ≡ xs
packed_all xs = sym (ap packed (append-nil (bits_of xs))) ∙ packed_bits xs [] ∙ ap (λ (l : List ℕ). xs ++ l) packed_none ∙ append-nil xs

pub zero_bits : (n : ℕ) → bits_of (replicate n 0) ≡ replicate (8 * n) 0
unfolding bits_of byte_bits
zero_bits zero = refl
zero_bits (suc n) =
    let more : 8 + 8 * n ≡ 8 * suc n = omega arith in
    ap (λ (l : List ℕ). replicate 8 0 ++ l) (zero_bits n) ∙ replicate-append-replicate 8 (8 * n) 0 ∙ ap (λ (k : ℕ). replicate k 0) more

-- ---- whole bytes at the front, and r bits of the next one

module _ (p : List ℕ) (x : ℕ) (ys : List ℕ) (k r : ℕ) (long : length p ≡ k) (few : r ≤ 8) where
  at_part : 8 * k + r ≡ length (bits_of p) + r
  at_part = omega (arith, length-bits p)

  parted : bits_of (p ++ x ∷ ys) ≡ bits_of p ++ (byte_bits x ++ bits_of ys)
  unfolding bits_of
  parted = bits_append p (x ∷ ys)

  pub take-bits : take (8 * k + r) (bits_of (p ++ x ∷ ys)) ≡ bits_of p ++ take r (byte_bits x)
  take-bits =
      ap₂ (λ (n : ℕ) (l : List ℕ). take n l) at_part parted
      ∙ take-append-add (bits_of p) (byte_bits x ++ bits_of ys) r
      ∙ ap (λ (l : List ℕ). bits_of p ++ l) (take-append-le r (byte_bits x) (bits_of ys) (omega (arith, length_byte x)))

  pub drop_bits : drop (8 * k + r) (bits_of (p ++ x ∷ ys)) ≡ drop r (byte_bits x) ++ bits_of ys
  drop_bits =
      ap₂ (λ (n : ℕ) (l : List ℕ). drop n l) at_part parted
      ∙ drop-append-add (bits_of p) (byte_bits x ++ bits_of ys) r
      ∙ drop-append-le r (byte_bits x) (bits_of ys) (omega (arith, length_byte x))

-- the same of a list by its places
module _ (w : List ℕ) (k r : ℕ) (inside : k < length w) (few : r ≤ 8) where
  before : length (take k w) ≡ k
  before = length-take-le k w (omega arith)

  pub take_part : take (8 * k + r) (bits_of w) ≡ bits_of (take k w) ++ take r (byte_bits (get_or w k 0))
  take_part =
      ap (λ (l : List ℕ). take (8 * k + r) (bits_of l)) (split_at w k 0 inside) ∙ take-bits (take k w) (get_or w k 0) (drop (suc k) w) k r before few

  pub drop-part : drop (8 * k + r) (bits_of w) ≡ drop r (byte_bits (get_or w k 0)) ++ bits_of (drop (suc k) w)
  drop-part =
      ap (λ (l : List ℕ). drop (8 * k + r) (bits_of l)) (split_at w k 0 inside) ∙ drop_bits (take k w) (get_or w k 0) (drop (suc k) w) k r before few

-- ---- a part byte, whose bits below the first r are zero, and the bit that marks its end

pub record Part (x r : ℕ) : Type 0 where
  pub few : r < 8
  pub clear : all_zero (drop r (byte_bits x)) ≡ true

module _ (x r : ℕ) (P : Part x r) where
  unmarked : x ≡ first_byte (take r (byte_bits x) ++ (0 ∷ replicate (7 - r) 0))
  unmarked =
      let n : length (drop r (byte_bits x)) ≡ suc (7 - r) = omega (arith, length-drop r (byte_bits x), length_byte x, P.few) in
      sym (ap first_byte (ap (λ (l : List ℕ). take r (byte_bits x) ++ l) (sym (zeros_only (drop r (byte_bits x)) P.clear ∙ ap (λ (k : ℕ). replicate k 0) n))
      ∙ take-append-drop r (byte_bits x))
      ∙ byte_back x)

marking : (x r : ℕ) → r < 8
    → first_byte (take r (byte_bits x) ++ (1 ∷ replicate (7 - r) 0)) ≡ first_byte (take r (byte_bits x) ++ (0 ∷ replicate (7 - r) 0)) + 2 ^ (7 - r)
unfolding first_byte byte_bits
marking x zero h = refl
marking x (suc zero) h = omega arith
marking x (suc (suc zero)) h = omega arith
marking x (suc (suc (suc zero))) h = omega arith
marking x (suc (suc (suc (suc zero)))) h = omega arith
marking x (suc (suc (suc (suc (suc zero))))) h = omega arith
marking x (suc (suc (suc (suc (suc (suc zero)))))) h = omega arith
marking x (suc (suc (suc (suc (suc (suc (suc zero))))))) h = omega arith
marking x (suc (suc (suc (suc (suc (suc (suc (suc r)))))))) h = absurd (omega arith)

pub marked_byte : (x r : ℕ) → Part x r → (rest : List ℕ)
    → packed (take r (byte_bits x) ++ (1 ∷ (replicate (7 - r) 0 ++ rest))) ≡ (x + 2 ^ (7 - r)) ∷ packed rest
marked_byte x r P rest =
    let n : length (take r (byte_bits x) ++ (1 ∷ replicate (7 - r) 0)) ≡ 8 =
    omega (
      arith,
      length-append (take r (byte_bits x)) (1 ∷ replicate (7 - r) 0),
      length-take-le r (byte_bits x) (omega (arith, length_byte x, P.few)),
      length-replicate {A = ℕ} (7 - r) 0,
      P.few,
    ) in
    ap packed (sym (append_assoc (take r (byte_bits x)) (1 ∷ replicate (7 - r) 0) rest))
    ∙ packed_byte (take r (byte_bits x) ++ (1 ∷ replicate (7 - r) 0)) rest n
    ∙ ap (λ (y : ℕ). y ∷ packed rest) (marking x r P.few ∙ ap (λ (y : ℕ). y + 2 ^ (7 - r)) (sym (unmarked x r P)))

-- ---- bits that are zero

zero_byte : (x : ℕ) → all_zero (byte_bits x) ≡ true → x ≡ 0
unfolding first_byte
zero_byte x z = sym (byte_back x) ∙ ap first_byte (zeros_only (byte_bits x) z ∙ ap (λ (n : ℕ). replicate n 0) (length_byte x))

-- the bits of a byte
byte_zero : (x : ℕ) → all_zero (byte_bits x) ≡ eqb x 0
unfolding all_zero byte_bits
byte_zero x = by (all_zero (byte_bits x)) refl
  where
    by : (t : Bool) → all_zero (byte_bits x) ≡ t → all_zero (byte_bits x) ≡ eqb x 0
    by true e = e ∙ sym (eq-eqb x 0 (zero_byte x e))
    by false e = e ∙ sym (ne_eqb x 0 (λ z. true≢false (sym (ap (λ (y : ℕ). all_zero (byte_bits y)) z) ∙ e)))

-- a part byte of no bits is zero
pub no_bits : (x : ℕ) → Part x 0 → x ≡ 0
no_bits x P = zero_byte x P.clear

pub bits_zero : (xs : List ℕ) → all_zero (bits_of xs) ≡ all_zero xs
unfolding bits_of all_zero
bits_zero [] = refl
bits_zero (x ∷ xs) = zero_append (byte_bits x) (bits_of xs) ∙ ap₂ ◌&&◌ (byte_zero x) (bits_zero xs)

-- from a place within a byte on: the rest of that byte, and the bytes behind it
pub zero_within : (w : List ℕ) (k r : ℕ) → k < length w → r ≤ 8
    → all_zero (drop (8 * k + r) (bits_of w)) ≡ (all_zero (drop r (byte_bits (get_or w k 0))) && all_zero (drop (suc k) w))
zero_within w k r inside few =
    ap all_zero (drop-part w k r inside few)
    ∙ zero_append (drop r (byte_bits (get_or w k 0))) (bits_of (drop (suc k) w))
    ∙ ap (λ (b : Bool). all_zero (drop r (byte_bits (get_or w k 0))) && b) (bits_zero (drop (suc k) w))

-- nothing but zeros behind a part byte
pub part_ends : (p : List ℕ) (x : ℕ) (ys : List ℕ) (k r : ℕ) → length p ≡ k → Part x r → all_zero ys ≡ true
    → all_zero (drop (8 * k + r) (bits_of (p ++ x ∷ ys))) ≡ true
part_ends p x ys k r long P z =
    ap all_zero (drop_bits p x ys k r long (omega (arith, P.few)))
    ∙ zero_append (drop r (byte_bits x)) (bits_of ys)
    ∙ ap₂ ◌&&◌ P.clear (bits_zero ys ∙ z)

-- whole bytes in front
whole_bits : (k : ℕ) (w : List ℕ) → drop (8 * k) (bits_of w) ≡ bits_of (drop k w)
unfolding bits_of
whole_bits zero w = refl
whole_bits (suc k) [] = drop-nil (8 * suc k)
whole_bits (suc k) (x ∷ w) =
    let n : 8 * suc k ≡ length (byte_bits x) + 8 * k = omega (arith, length_byte x) in
    ap (λ (i : ℕ). drop i (byte_bits x ++ bits_of w)) n ∙ drop-append-add (byte_bits x) (bits_of w) (8 * k) ∙ whole_bits k w

pub zero_whole : (k : ℕ) (w : List ℕ) → all_zero (drop (8 * k) (bits_of w)) ≡ all_zero (drop k w)
zero_whole k w = ap all_zero (whole_bits k w) ∙ bits_zero (drop k w)

-- ---- a piece of so many bits

-- its bytes are as many as the bits take, and unused bits are zero
pub record Sized (piece : List ℕ) (count : ℕ) : Type 0 where
  pub size : length piece ≡ (count + 7) / 8
  pub clear : all_zero (drop count (bits_of piece)) ≡ true

module _ (piece : List ℕ) (count : ℕ) (S : Sized piece count) where
  -- its whole bytes are all of it, or a part byte stands behind them
  by_part : (P : Type 0) → (count % 8 ≡ 0 → length piece ≡ count / 8 → P) → (count / 8 < length piece → P) → P
  by_part P none some = by (count % 8) refl
    where
      by : (r : ℕ) → count % 8 ≡ r → P
      by zero e = none e (omega (arith, S.size))
      by (suc r) e = some (omega (arith, S.size))

  few_bits : count % 8 ≤ 8
  few_bits = omega arith

  count_is : 8 * (count / 8) + count % 8 ≡ count
  count_is = omega arith

  abbrev last : ℕ
  last = get_or piece (count / 8) 0

  pub piece_bits : take count (bits_of piece) ≡ bits_of (take (count / 8) piece) ++ take (count % 8) (byte_bits last)
  piece_bits =
      by_part (take count (bits_of piece) ≡ bits_of (take (count / 8) piece) ++ take (count % 8) (byte_bits last))
      (λ (e : count % 8 ≡ 0) (l : length piece ≡ count / 8).
      take_all count (bits_of piece) (omega (arith, length-bits piece))
      ∙ sym (ap₂ (λ (n r : ℕ). bits_of (take n piece) ++ take r (byte_bits last)) (sym l) e
      ∙ append-nil (bits_of (take (length piece) piece))
      ∙ ap bits_of (take-length piece)))
      (λ (l : count / 8 < length piece). ap (λ (n : ℕ). take n (bits_of piece)) (sym count_is) ∙ take_part piece (count / 8) (count % 8) l few_bits)

  pub piece_part : Part last (count % 8)
  unfolding all_zero byte_bits
  piece_part = record { few = omega arith; clear = ends }
    where
      ends : all_zero (drop (count % 8) (byte_bits last)) ≡ true
      ends =
          by_part (all_zero (drop (count % 8) (byte_bits last)) ≡ true)
          (λ (e : count % 8 ≡ 0) (l : length piece ≡ count / 8).
          let past : length piece ≤ count / 8 = omega arith in
          ap₂ (λ (r x : ℕ). all_zero (drop r (byte_bits x))) e (get_or-eq_default piece 0 past))
          (λ (l : count / 8 < length piece).
          (both (all_zero (drop (count % 8) (byte_bits last))) (all_zero (drop (suc (count / 8)) piece))
          (sym (zero_within piece (count / 8) (count % 8) l few_bits) ∙ ap (λ (n : ℕ). all_zero (drop n (bits_of piece))) count_is ∙ S.clear)
          ).0)

  -- behind whole bytes
  module _ (m : List ℕ) where
    pub joined_sized : Sized (m ++ piece) (8 * length m + count)
    joined_sized = record {
      size = omega (arith, length-append m piece, S.size);
      clear =
          let n : 8 * length m + count ≡ length (bits_of m) + count = omega (arith, length-bits m) in
          ap₂ (λ (k : ℕ) (l : List ℕ). all_zero (drop k l)) n (bits_append m piece)
          ∙ ap all_zero (drop-append-add (bits_of m) (bits_of piece) count)
          ∙ S.clear;
    }

    pub joined_bits : take (8 * length m + count) (bits_of (m ++ piece)) ≡ bits_of m ++ take count (bits_of piece)
    joined_bits =
        let n : 8 * length m + count ≡ length (bits_of m) + count = omega (arith, length-bits m) in
        ap₂ (λ (k : ℕ) (l : List ℕ). take k l) n (bits_append m piece) ∙ take-append-add (bits_of m) (bits_of piece) count

-- whole bytes are a piece of eight bits each
pub whole_sized : (m : List ℕ) → Sized m (8 * length m)
unfolding all_zero
whole_sized m = record { size = omega arith; clear = zero_whole (length m) m ∙ ap all_zero (drop-length m) }

pub whole_taken : (m : List ℕ) → take (8 * length m) (bits_of m) ≡ bits_of m
whole_taken m = take_all (8 * length m) (bits_of m) (omega (arith, length-bits m))
