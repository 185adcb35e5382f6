-- Numbers as bytes. Assumes nothing.
use Rattle.std.proofs.Common.{◌≡◌, ℕ, zero, suc, ◌+◌, ◌-◌, ◌*◌, ◌/◌, ◌%◌, ◌^◌, ◌<◌, ◌≤◌, T, eqb, List, ◌∷◌, ◌++◌, length, get_or, replicate, sym, refl, ap, ◌∙◌, ap₂, ⊎_elim, append-nil, mod-lt, mul_assoc, mul_comm, pow-suc, zero-add, div-one, arith, lit<, length-append, pow-add, drop, drop_at, drop_of_length-le, take_at}
use native.Mathlib.Nat.{add-mul-div_left, add-mul-mod_self_left, div-div-eq-div-mul, div-eq_of_lt}
use native.Mathlib.Nat.{one-le-pow}
use lib.ListN.{get_or-replicate}
use Rattle.std.specs.Int.{byte_at, bytes_low_first}
use borrow.Rule.Slice.PartMut.{put_mid}
use Rattle.aes_round.specs.Bytes.{Bytes, tab, tab_from}
use Rattle.aes_round.proofs.Promises.{agree, bytes_are, every, get_or-tab, is_tab, length-tab, lt_or_le, tab_bytes, tab_whole}
use Rattle.echo.specs.Numbers.{little_endian}
use Rattle.echo.specs.Numbers.{halves}
use Rattle.echo.specs.Square.{counter_key, wide_key}
use Rattle.echo.proofs.Laws.Joined.{first_part, joined_bytes, second_part}

pub little_bytes : (n x : ℕ) → Bytes n (little_endian n x)
unfolding little_endian
little_bytes n x = tab_bytes n _ (λ i h. mod-lt _ (lit< tt))

-- bytes that are written out, by one test
pub little_are : (n x : ℕ) (l : List ℕ) → length l ≡ n → T (every (λ k. eqb (get_or l k 0) (x / 256 ^ k % 256)) n) → little_endian n x ≡ l
unfolding little_endian
little_are n x l e t = sym (is_tab n l _ e (agree (λ k. get_or l k 0) (λ k. x / 256 ^ k % 256) n t))

pub little_byte : (n x k : ℕ) → k < n → get_or (little_endian n x) k 0 ≡ x / 256 ^ k % 256
unfolding little_endian
little_byte n x k h = get_or-tab n _ k h

-- the bytes that std writes, from byte i upward and from the first one on
low_first : (i n x : ℕ) → bytes_low_first i n x ≡ tab_from i n (λ k. x / 256 ^ k % 256)
low_first i zero x = refl
low_first i (suc n) x = ap₂ (λ (b : ℕ) (l : List ℕ). b ∷ l) (byte i) (low_first (suc i) n x)
  where
    byte : (i : ℕ) → byte_at i x ≡ x / 256 ^ i % 256
    byte zero = ap (λ (y : ℕ). y % 256) (sym (div-one x))
    byte (suc i) = refl

pub le_bytes_are : (n x : ℕ) → bytes_low_first 0 n x ≡ little_endian n x
unfolding little_endian
le_bytes_are n x = low_first 0 n x ∙ tab_whole n _

-- bytes written in two parts, the second over zeros
pub two_parts : (m n : ℕ) (x y z : List ℕ) → length x ≡ m → length z ≡ n → put_mid m n (x ++ z) y ≡ x ++ y
two_parts m n x y z lx lz =
    ap₂ (λ (a b : List ℕ). a ++ (y ++ b)) (take_at x z m lx)
    (ap (drop n) (drop_at x z m lx) ∙ drop_of_length-le z (let all : length z ≤ n = omega arith in all))
    ∙ ap (λ (l : List ℕ). x ++ l) (append-nil y)

-- a counter's key is a word
pub key_bytes : (κ : ℕ) → Bytes 16 (counter_key κ)
unfolding counter_key
key_bytes κ = joined_bytes 8 8 _ _ (little_bytes 8 κ) (bytes_are 8 _ refl tt)

pub wide_key_bytes : (κ : ℕ) → Bytes 16 (wide_key κ)
unfolding wide_key
wide_key_bytes = little_bytes 16

-- the upper part of a number in two, of which the lower is below b
pub upper_part : (b x y : ℕ) → 0 < b → x < b → (x + b * y) / b ≡ y
upper_part b x y p h = add-mul-div_left x y p ∙ ap (λ (q : ℕ). q + y) (div-eq_of_lt h) ∙ zero-add y

-- a number in two parts, the lower one of m bytes
module _ (m n x y : ℕ) (h : x < 256 ^ m) where
  low_byte : (k : ℕ) → k < m → (x + 256 ^ m * y) / 256 ^ k % 256 ≡ x / 256 ^ k % 256
  low_byte k l =
      ap (λ (z : ℕ). (x + z) / 256 ^ k % 256) (ap (λ (z : ℕ). z * y) (split (m - k - 1) (rest k l)) ∙ mul_assoc (256 ^ k) _ y)
      ∙ ap (λ (q : ℕ). q % 256)
      (add-mul-div_left x _ (one-le-pow k 256 (lit< tt)) ∙ ap (λ (z : ℕ). x / 256 ^ k + z) (mul_assoc 256 _ y))
      ∙ add-mul-mod_self_left (x / 256 ^ k) 256 _
    where
      rest : (k : ℕ) → k < m → m ≡ k + suc (m - k - 1)
      rest k l = omega arith

      split : (r : ℕ) → m ≡ k + suc r → 256 ^ m ≡ 256 ^ k * (256 * 256 ^ r)
      split r e = ap (λ (i : ℕ). 256 ^ i) e ∙ pow-add 256 k (suc r) ∙ ap (λ (z : ℕ). 256 ^ k * z) (pow-suc 256 r ∙ mul_comm (256 ^ r) 256)

  high_byte : (i : ℕ) → (x + 256 ^ m * y) / 256 ^ (m + i) ≡ y / 256 ^ i
  high_byte i =
      ap (λ (q : ℕ). (x + 256 ^ m * y) / q) (pow-add 256 m i)
      ∙ sym (div-div-eq-div-mul _ (256 ^ m) (256 ^ i))
      ∙ ap (λ (q : ℕ). q / 256 ^ i) (upper_part (256 ^ m) x y (one-le-pow m 256 (lit< tt)) h)

  pub little_parts : little_endian (m + n) (x + 256 ^ m * y) ≡ little_endian m x ++ little_endian n y
  unfolding little_endian
  little_parts =
      sym (is_tab (m + n) (lower ++ upper) _ (length-append lower upper ∙ ap₂ (λ (a b : ℕ). a + b) (length-tab m _) (length-tab n _))
      (λ k l. ⊎_elim (λ (s : k < m). first_part m lower upper (length-tab m _) k s ∙ get_or-tab m _ k s ∙ sym (low_byte k s))
      (λ (g : m ≤ k).
      ap (λ (i : ℕ). get_or (lower ++ upper) i 0) (sym (back k g))
      ∙ second_part m lower upper (length-tab m _) (k - m)
      ∙ get_or-tab n _ (k - m) (left k l g)
      ∙ ap (λ (q : ℕ). q % 256) (sym (high_byte (k - m)) ∙ ap (λ (i : ℕ). (x + 256 ^ m * y) / 256 ^ i) (back k g)))
      (lt_or_le k m)))
    where
      lower : List ℕ
      lower = tab m (λ i. x / 256 ^ i % 256)

      upper : List ℕ
      upper = tab n (λ i. y / 256 ^ i % 256)

      back : (k : ℕ) → m ≤ k → m + (k - m) ≡ k
      back k g = omega arith

      left : (k : ℕ) → k < m + n → m ≤ k → k - m < n
      left k l g = omega arith

-- the sixteen bytes of a counter by its halves
pub wide_key_halves : (low high : ℕ) → low < 2 ^ 64 → wide_key (halves low high) ≡ little_endian 8 low ++ little_endian 8 high
unfolding wide_key
wide_key_halves = little_parts 8 8

-- as the code has them
pub wide_key_at : (low high κ : ℕ) (x y z : List ℕ) → halves low high ≡ κ → low < 2 ^ 64 → x ≡ bytes_low_first 0 8 low → y ≡ bytes_low_first 0 8 high
    → length z ≡ 8 → put_mid 8 8 (x ++ z) y ≡ wide_key κ
unfolding little_endian
wide_key_at low high κ x y z at h e f lz =
    two_parts 8 8 x y z (ap length (e ∙ le_bytes_are 8 low) ∙ length-tab 8 _) lz
    ∙ ap₂ (λ (a b : List ℕ). a ++ b) (e ∙ le_bytes_are 8 low) (f ∙ le_bytes_are 8 high)
    ∙ sym (wide_key_halves low high h)
    ∙ ap wide_key at

-- sixteen bytes of a 64-bit number: eight, and eight zeros
pub sixteen_of_eight : (x : ℕ) → x < 2 ^ 64 → little_endian 16 x ≡ counter_key x
unfolding counter_key little_endian
sixteen_of_eight x h = ap (little_endian 16) (alone x) ∙ little_parts 8 8 x 0 h ∙ ap (λ (l : List ℕ). little_endian 8 x ++ l) zeros
  where
    alone : (x : ℕ) → x ≡ x + 256 ^ 8 * 0
    alone x = omega arith

    zeros : little_endian 8 0 ≡ replicate 8 0
    zeros =
        sym (is_tab 8 (replicate 8 0) _ refl
        (λ i h. get_or-replicate 8 i 0 0 h ∙ sym (ap (λ (q : ℕ). q % 256) (div-eq_of_lt (one-le-pow i 256 (lit< tt))))))

-- the end of the padding
pub lengths_are : (bits count : ℕ) (x y z : List ℕ) → x ≡ bytes_low_first 0 2 bits → y ≡ bytes_low_first 0 16 count → length z ≡ 16
    → put_mid 2 16 (x ++ z) y ≡ little_endian 2 bits ++ little_endian 16 count
unfolding little_endian
lengths_are bits count x y z e f lz =
    two_parts 2 16 x y z (ap length (e ∙ le_bytes_are 2 bits) ∙ length-tab 2 _) lz
    ∙ ap₂ (λ (a b : List ℕ). a ++ b) (e ∙ le_bytes_are 2 bits) (f ∙ le_bytes_are 16 count)
