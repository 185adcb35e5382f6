-- Numbers of 32 bits by their four bytes: xor and the masks of the code act on each byte by itself. Assumes nothing.
use mathlib.Core.Path.{◌≡◌, refl, sym, ap, ap₂, ◌∙◌, subst}
use mathlib.Core.List.{List, [], ◌∷◌}
use Prim.Native.Nat.{ℕ, zero, suc, ◌+◌, ◌*◌, ◌/◌, ◌%◌, ◌-◌, ◌^◌, ◌<◌}
use native.Mathlib.Nat.{div-div-eq-div-mul, div-one, lt_of_le_of_lt, mod-eq_of_lt, mod-lt}
use native.Mathlib.Omega.{arith}
use mir.Syntax.{w32}
use mir.Val.{Fits}
use lib.Bits.{bit_and, bit_xor}
use lib.Bits as bits
use lib.Dec.{lit<}
use lib.ListN.{length, get_or}
use Rattle.aes_round.specs.Bytes.{Bytes, tab, xor}
use Rattle.aes_round.specs.Field.{mul}
use Rattle.aes_round.specs.Mixing.{dot, forward, mix_column}
use Rattle.aes_round.specs.Numbers.{byte_of, bytes_of, number, numbers}
use Rattle.aes_round.specs.ByTables.{mix_numbers}
use Rattle.aes_round.proofs.Laws.Every.{agree}
use Rattle.aes_round.proofs.Laws.Bytes.{get_or-tab, is_tab, tab_bytes}
use Rattle.aes_round.proofs.Laws.Xor.{code_xor, xor_assoc, xor_comm, xor_lt, xor_mod, xor_self, xor_shr, xor_zero_l}
use Rattle.aes_round.proofs.Laws.Field.{mul_lt, mul_one_l, mul_three, mul_xor}
use Rattle.aes_round.proofs.Laws.Mixing.{four, sum4}

-- ---- the bytes of a number

-- a place of eight bits
place : (p : ℕ) → p < 4 → 256 ^ p ≡ 2 ^ (8 * p)
place = agree (λ p. 256 ^ p) (λ p. 2 ^ (8 * p)) 4 tt

pub byte_lt : (x p : ℕ) → byte_of x p < 256
unfolding byte_of
byte_lt x p = mod-lt _ (lit< tt)

byte_at : (x p : ℕ) → p < 4 → byte_of x p ≡ x / 2 ^ (8 * p) % 2 ^ 8
unfolding byte_of
byte_at x p h = ap (λ (q : ℕ). x / q % 256) (place p h)

pub byte_is : (x p : ℕ) → byte_of x p ≡ x / 256 ^ p % 256
unfolding byte_of
byte_is x p = refl

-- the lowest one in the code's form
pub byte_0 : (x : ℕ) → x % 0x100 ≡ byte_of x 0
unfolding byte_of
byte_0 x = ap (λ (q : ℕ). q % 256) (sym (div-one x))

-- what is done bit by bit is done byte by byte
pub byte_xor : (a b p : ℕ) → p < 4 → byte_of (xor a b) p ≡ xor (byte_of a p) (byte_of b p)
byte_xor a b p h =
    byte_at (xor a b) p h ∙ ap (λ (y : ℕ). y % 2 ^ 8) (xor_shr a b (8 * p)) ∙ xor_mod (a / 2 ^ (8 * p)) (b / 2 ^ (8 * p)) 8
    ∙ sym (ap₂ xor (byte_at a p h) (byte_at b p h))

byte_and : (a b p : ℕ) → p < 4 → byte_of (bit_and a b) p ≡ bit_and (byte_of a p) (byte_of b p)
byte_and a b p h =
    byte_at (bit_and a b) p h ∙ ap (λ (y : ℕ). y % 2 ^ 8) (bits.and_shr a b (8 * p)) ∙ bits.and_mod (a / 2 ^ (8 * p)) (b / 2 ^ (8 * p)) 8
    ∙ sym (ap₂ bit_and (byte_at a p h) (byte_at b p h))

-- ---- the number of four bytes

pub number_of_lem : (f : ℕ → ℕ) → f 0 + 0x100 * f 1 + 0x10000 * f 2 + 0x1000000 * f 3 ≡ number f
unfolding number
number_of_lem f = refl

pub number_ext : (f g : ℕ → ℕ) → ((p : ℕ) → p < 4 → f p ≡ g p) → number f ≡ number g
unfolding number
number_ext f g h = rw (h 0 (lit< tt), h 1 (lit< tt), h 2 (lit< tt), h 3 (lit< tt))

pub number_lt : (f : ℕ → ℕ) → ((p : ℕ) → p < 4 → f p < 256) → number f < 2 ^ 32
unfolding number
number_lt f h = omega (arith, h 0 (lit< tt), h 1 (lit< tt), h 2 (lit< tt), h 3 (lit< tt))

pub byte_number : (f : ℕ → ℕ) → ((p : ℕ) → p < 4 → f p < 256) → (p : ℕ) → p < 4 → byte_of (number f) p ≡ f p
unfolding byte_of number
byte_number f h zero l = omega (arith, h 0 (lit< tt), h 1 (lit< tt), h 2 (lit< tt), h 3 (lit< tt))
byte_number f h (suc zero) l = omega (arith, h 0 (lit< tt), h 1 (lit< tt), h 2 (lit< tt), h 3 (lit< tt))
byte_number f h (suc (suc zero)) l = omega (arith, h 0 (lit< tt), h 1 (lit< tt), h 2 (lit< tt), h 3 (lit< tt))
byte_number f h (suc (suc (suc zero))) l = omega (arith, h 0 (lit< tt), h 1 (lit< tt), h 2 (lit< tt), h 3 (lit< tt))
byte_number f h (suc (suc (suc (suc p)))) l = absurd (omega arith)

-- the number of a number's bytes has its lower 32 bits
pub number_low : (x : ℕ) → number (byte_of x) ≡ x % 2 ^ 32
unfolding byte_of number
number_low x =
    ap₂ (λ (u v : ℕ). x / 1 % 256 + 0x100 * (x / 256 % 256) + 0x10000 * (u % 256) + 0x1000000 * (v % 256)) (sym twice) (sym thrice) ∙ nested x
  where
    twice : x / 256 / 256 ≡ x / 65536
    twice = div-div-eq-div-mul x 256 256

    thrice : x / 256 / 256 / 256 ≡ x / 16777216
    thrice = ap (λ (q : ℕ). q / 256) twice ∙ div-div-eq-div-mul x 65536 256

    nested : (x : ℕ) → x / 1 % 256 + 0x100 * (x / 256 % 256) + 0x10000 * (x / 256 / 256 % 256) + 0x1000000 * (x / 256 / 256 / 256 % 256) ≡ x % 2 ^ 32
    nested x = omega (arith, div-one x)

number_bytes : (x : ℕ) → x < 2 ^ 32 → number (byte_of x) ≡ x
number_bytes x h = number_low x ∙ mod-eq_of_lt h

-- a number of 32 bits is known by its bytes
pub is_number : (x : ℕ) (f : ℕ → ℕ) → x < 2 ^ 32 → ((p : ℕ) → p < 4 → byte_of x p ≡ f p) → x ≡ number f
is_number x f h e = sym (number_bytes x h) ∙ number_ext (byte_of x) f e

pub xor_number : (f g : ℕ → ℕ) → ((p : ℕ) → p < 4 → f p < 256) → ((p : ℕ) → p < 4 → g p < 256) → xor (number f) (number g) ≡ number (λ p. xor (f p) (g p))
xor_number f g hf hg =
    is_number (xor (number f) (number g)) _ (xor_lt 32 _ _ (number_lt f hf) (number_lt g hg))
    (λ p h. byte_xor _ _ p h ∙ ap₂ xor (byte_number f hf p h) (byte_number g hg p h))

-- ---- lists of numbers

module _ (n : ℕ) where
  pub get_or-numbers : (s : List ℕ) (k : ℕ) → k < n → get_or (numbers n s) k 0 ≡ number (λ p. get_or s (4 * k + p) 0)
  unfolding numbers
  get_or-numbers s k h = get_or-tab n _ k h

  pub are_numbers : (s l : List ℕ) → length l ≡ n → ((k : ℕ) → k < n → get_or l k 0 ≡ number (λ p. get_or s (4 * k + p) 0)) → l ≡ numbers n s
  unfolding numbers
  are_numbers s l e h = is_tab n l _ e h

  pub byte_of_numbers : (l : List ℕ) (k : ℕ) → k < 4 * n → get_or (bytes_of n l) k 0 ≡ byte_of (get_or l (k / 4) 0) (k % 4)
  unfolding bytes_of
  byte_of_numbers l k h = get_or-tab (4 * n) _ k h

  pub get_or_bytes_of : (l : List ℕ) (k p : ℕ) → k < n → p < 4 → get_or (bytes_of n l) (4 * k + p) 0 ≡ byte_of (get_or l k 0) p
  get_or_bytes_of l k p hk hp =
      byte_of_numbers l (4 * k + p) (omega arith) ∙ ap₂ (λ (q r : ℕ). byte_of (get_or l q 0) r) (quotient k p hp) (remainder k p hp)
    where
      quotient : (k p : ℕ) → p < 4 → (4 * k + p) / 4 ≡ k
      quotient k p hp = omega arith

      remainder : (k p : ℕ) → p < 4 → (4 * k + p) % 4 ≡ p
      remainder k p hp = omega arith

  pub are_bytes_of : (l s : List ℕ) → length s ≡ 4 * n → ((k : ℕ) → k < 4 * n → get_or s k 0 ≡ byte_of (get_or l (k / 4) 0) (k % 4)) → s ≡ bytes_of n l
  unfolding bytes_of
  are_bytes_of l s e h = is_tab (4 * n) s _ e h

  pub bytes_of_bytes : (l : List ℕ) → Bytes (4 * n) (bytes_of n l)
  unfolding bytes_of
  bytes_of_bytes l = tab_bytes (4 * n) _ (λ k h. byte_lt _ _)

  -- bytes as numbers and back, and numbers as bytes and back
  pub bytes_of_numbers : (s : List ℕ) → Bytes (4 * n) s → bytes_of n (numbers n s) ≡ s
  unfolding bytes_of
  bytes_of_numbers s S =
      sym (is_tab (4 * n) s _ S.long
      (λ k h. sym
      (ap (λ (x : ℕ). byte_of x (k % 4)) (get_or-numbers s (k / 4) (inside k h))
      ∙ byte_number _ (λ p l. S.small (4 * (k / 4) + p)) (k % 4) (mod-lt k (lit< tt)) ∙ ap (λ (i : ℕ). get_or s i 0) (whole k))))
    where
      inside : (k : ℕ) → k < 4 * n → k / 4 < n
      inside k h = omega arith

      whole : (k : ℕ) → 4 * (k / 4) + k % 4 ≡ k
      whole k = omega arith

  pub numbers_of_bytes : (l : List ℕ) → length l ≡ n → ((k : ℕ) → get_or l k 0 < 2 ^ 32) → numbers n (bytes_of n l) ≡ l
  numbers_of_bytes l e h =
      sym (are_numbers (bytes_of n l) l e (λ k hk. is_number (get_or l k 0) _ (h k) (λ p hp. sym (get_or_bytes_of l k p hk hp))))

pub four_numbers : (s : List ℕ)
    → number (λ p. get_or s (0 + p) 0) ∷ number (λ p. get_or s (4 + p) 0) ∷ number (λ p. get_or s (8 + p) 0) ∷ number (λ p. get_or s (12 + p) 0) ∷ []
    ≡ numbers 4 s
unfolding numbers tab
four_numbers s = refl

-- ---- doubling each byte of a number: h has the top bits

masked : (x m c : ℕ) → x < 2 ^ 32 → ((p : ℕ) → p < 4 → byte_of m p ≡ c) → bit_and x m ≡ number (λ p. bit_and (byte_of x p) c)
masked x m c h e =
    is_number (bit_and x m) _ (lt_of_le_of_lt (bits.and_le_l x m) h) (λ p hp. byte_and x m p hp ∙ ap (bit_and (byte_of x p)) (e p hp))

-- a mask that has the same byte at each place
mask_80 : (p : ℕ) → p < 4 → byte_of 0x80808080 p ≡ 0x80
unfolding byte_of
mask_80 = agree (byte_of 0x80808080) (λ p. 0x80) 4 tt

mask_1b : (p : ℕ) → p < 4 → byte_of 0x1b1b1b1b p ≡ 0x1b
unfolding byte_of
mask_1b = agree (byte_of 0x1b1b1b1b) (λ p. 0x1b) 4 tt

twice_low : (f : ℕ → ℕ) → ((p : ℕ) → p < 4 → f p < 128) → number f * 2 % 2 ^ 32 ≡ number (λ p. 2 * f p)
unfolding number
twice_low f h = omega (arith, h 0 (lit< tt), h 1 (lit< tt), h 2 (lit< tt), h 3 (lit< tt))

less_top : (f : ℕ → ℕ) → number (λ p. 128 * f p) - number (λ p. 128 * f p) / 128 ≡ number (λ p. 127 * f p)
unfolding number
less_top f = omega arith

-- a byte by its top bit and the rest: what the masks leave of it, and the two parts of its double
byte_top : (y : ℕ) → y < 256 → bit_and y 0x80 ≡ 128 * (y / 128)
byte_top = agree (λ y. bit_and y 0x80) (λ y. 128 * (y / 128)) 256 tt

byte_low : (y : ℕ) → y < 256 → xor y (128 * (y / 128)) ≡ y % 128
unfolding xor
byte_low = agree (λ y. xor y (128 * (y / 128))) (λ y. y % 128) 256 tt

byte_double : (y : ℕ) → y < 256 → xor (2 * (y % 128)) (bit_and (127 * (y / 128)) 0x1b) ≡ mul 2 y
unfolding mul xor
byte_double = agree (λ y. xor (2 * (y % 128)) (bit_and (127 * (y / 128)) 0x1b)) (mul 2) 256 tt

module _ (x : ℕ) (h : x < 2 ^ 32) where
  top : ℕ → ℕ
  top p = byte_of x p / 128

  low : ℕ → ℕ
  low p = byte_of x p % 128

  top_lt : (p : ℕ) → 128 * top p < 256
  unfolding top
  top_lt p = omega (arith, byte_lt x p)

  low_lt : (p : ℕ) → low p < 128
  unfolding low
  low_lt p = mod-lt _ (lit< tt)

  top_bits : bit_and x 0x80808080 ≡ number (λ p. 128 * top p)
  unfolding top
  top_bits = masked x 0x80808080 0x80 h mask_80 ∙ number_ext _ _ (λ p hp. byte_top (byte_of x p) (byte_lt x p))

  low_bits : bit_xor x (bit_and x 0x80808080) ≡ number low
  unfolding top low
  low_bits =
      is_number _ _ (bits.xor_lt 32 x _ h (lt_of_le_of_lt (bits.and_le_l x 0x80808080) h))
      (λ p hp.
      ap (λ (y : ℕ). byte_of y p) (code_xor x _) ∙ byte_xor x _ p hp
      ∙ ap (xor (byte_of x p)) (ap (λ (y : ℕ). byte_of y p) top_bits ∙ byte_number _ (λ q hq. top_lt q) p hp)
      ∙ byte_low (byte_of x p) (byte_lt x p))

  added : bit_and (bit_and x 0x80808080 - bit_and x 0x80808080 / 128) 0x1b1b1b1b ≡ number (λ p. bit_and (127 * top p) 0x1b)
  added =
      ap (λ (y : ℕ). bit_and y 0x1b1b1b1b) (ap (λ (y : ℕ). y - y / 128) top_bits ∙ less_top top)
      ∙ masked (number (λ p. 127 * top p)) 0x1b1b1b1b 0x1b (number_lt _ less) mask_1b
      ∙ number_ext _ _ (λ p hp. ap (λ (y : ℕ). bit_and y 0x1b) (byte_number (λ p. 127 * top p) less p hp))
    where
      less : (p : ℕ) → p < 4 → 127 * top p < 256
      less p hp = omega (arith, top_lt p)

  pub double_each_is : bit_xor (bit_xor x (bit_and x 0x80808080) * 2 % 2 ^ 32) (bit_and (bit_and x 0x80808080 - bit_and x 0x80808080 / 128) 0x1b1b1b1b)
      ≡ number (λ p. mul 2 (byte_of x p))
  unfolding top low
  double_each_is =
      ap₂ bit_xor (ap (λ (y : ℕ). y * 2 % 2 ^ 32) low_bits ∙ twice_low low (λ p hp. low_lt p)) added ∙ code_xor _ _
      ∙ xor_number _ _ (λ p hp. omega (arith, low_lt p)) (λ p hp. lt_of_le_of_lt (bits.and_le_r (127 * top p) 0x1b) (lit< tt))
      ∙ number_ext _ _ (λ p hp. byte_double (byte_of x p) (byte_lt x p))

-- ---- four columns mixed at once

turn4 : (a b c d : ℕ) → sum4 a b c d ≡ sum4 b c d a
turn4 a b c d = xor_assoc a b (xor c d) ∙ xor_comm a _ ∙ ap (λ (z : ℕ). xor z a) (sym (xor_assoc b c d)) ∙ xor_assoc (xor b c) d a

cancel : (a b : ℕ) → xor a (xor a b) ≡ b
cancel a b = sym (xor_assoc a a b) ∙ ap (λ (z : ℕ). xor z b) (xor_self a) ∙ xor_zero_l b

-- a row of the matrix by one doubling: 02 a + 03 b + c + d = a + (a + b + c + d) + 02 (a + b)
row_mixed : (a b c d : ℕ) → b < 256 → c < 256 → d < 256
    → xor (xor a (sum4 a b c d)) (mul 2 (xor a b)) ≡ sum4 (mul 2 a) (mul 3 b) (mul 1 c) (mul 1 d)
row_mixed a b c d hb hc hd =
    ap₂ xor (sym (xor_assoc a (xor a b) (xor c d)) ∙ ap (λ (z : ℕ). xor z (xor c d)) (cancel a b)) (mul_xor 2 a b)
    ∙ xor_comm (xor b (xor c d)) (xor (mul 2 a) (mul 2 b))
    ∙ xor_assoc (mul 2 a) (mul 2 b) (xor b (xor c d))
    ∙ ap (xor (mul 2 a)) (sym (xor_assoc (mul 2 b) b (xor c d)))
    ∙ sym (xor_assoc (mul 2 a) (xor (mul 2 b) b) (xor c d))
    ∙ ap₂ xor (ap (xor (mul 2 a)) (mul_three b hb)) (ap₂ xor (sym (mul_one_l c hc)) (sym (mul_one_l d hd)))

-- a row of four numbers, by the double e of two of them and the sum t of all
row_of_numbers : (a b c d t e : ℕ) → a < 2 ^ 32 → b < 2 ^ 32 → c < 2 ^ 32 → d < 2 ^ 32
    → t ≡ sum4 a b c d → e ≡ number (λ p. mul 2 (byte_of (xor a b) p))
    → xor (xor a t) e ≡ number (λ p. sum4 (mul 2 (byte_of a p)) (mul 3 (byte_of b p)) (mul 1 (byte_of c p)) (mul 1 (byte_of d p)))
row_of_numbers a b c d t e ha hb hc hd et ee =
    is_number _ _
    (xor_lt 32 _ _ (xor_lt 32 a t ha (subst (λ (y : ℕ). y < 2 ^ 32) (sym et) small)) (subst (λ (y : ℕ). y < 2 ^ 32) (sym ee) (number_lt _ doubled)))
    (λ p h.
    byte_xor (xor a t) e p h
    ∙ ap₂ xor
    (byte_xor a t p h ∙ ap (xor (byte_of a p)) (ap (λ (y : ℕ). byte_of y p) et ∙ byte_xor _ _ p h ∙ ap₂ xor (byte_xor a b p h) (byte_xor c d p h)))
    (ap (λ (y : ℕ). byte_of y p) ee ∙ byte_number _ doubled p h ∙ ap (mul 2) (byte_xor a b p h))
    ∙ row_mixed _ _ _ _ (byte_lt b p) (byte_lt c p) (byte_lt d p))
  where
    small : sum4 a b c d < 2 ^ 32
    small = xor_lt 32 _ _ (xor_lt 32 a b ha hb) (xor_lt 32 c d hc hd)

    doubled : (p : ℕ) → p < 4 → mul 2 (byte_of (xor a b) p) < 256
    doubled p h = mul_lt 2 _ (lit< tt) (byte_lt _ p)

-- w, x, y and z are the doubles
mixed_rows : (c : List ℕ) (w x y z : ℕ) → ((k : ℕ) → get_or c k 0 < 2 ^ 32)
    → w ≡ number (λ p. mul 2 (byte_of (xor (get_or c 0 0) (get_or c 1 0)) p))
    → x ≡ number (λ p. mul 2 (byte_of (xor (get_or c 1 0) (get_or c 2 0)) p))
    → y ≡ number (λ p. mul 2 (byte_of (xor (get_or c 2 0) (get_or c 3 0)) p))
    → z ≡ number (λ p. mul 2 (byte_of (xor (get_or c 3 0) (get_or c 0 0)) p))
    → let t = sum4 (get_or c 0 0) (get_or c 1 0) (get_or c 2 0) (get_or c 3 0) in
    xor (xor (get_or c 0 0) t) w ∷ xor (xor (get_or c 1 0) t) x ∷ xor (xor (get_or c 2 0) t) y ∷ xor (xor (get_or c 3 0) t) z ∷ [] ≡ mix_numbers c
unfolding mix_numbers mix_column dot forward tab
mixed_rows c w x y z lt ew ex ey ez =
    four
    (row_of_numbers _ _ _ _ _ w (lt 0) (lt 1) (lt 2) (lt 3) refl ew)
    (row_of_numbers _ _ _ _ _ x (lt 1) (lt 2) (lt 3) (lt 0) (turn4 _ _ _ _) ex ∙ number_ext _ _ (λ p h. sym (turn4 _ _ _ _)))
    (row_of_numbers _ _ _ _ _ y (lt 2) (lt 3) (lt 0) (lt 1) (turn4 _ _ _ _ ∙ turn4 _ _ _ _) ey
    ∙ number_ext _ _ (λ p h. turn4 _ _ _ _ ∙ turn4 _ _ _ _))
    (row_of_numbers _ _ _ _ _ z (lt 3) (lt 0) (lt 1) (lt 2) (sym (turn4 _ _ _ _)) ez ∙ number_ext _ _ (λ p h. turn4 _ _ _ _))

-- as the code has it
pub mix_numbers_are : (c : List ℕ) (w x y z : ℕ) → ((k : ℕ) → Fits w32 (get_or c k 0))
    → w ≡ number (λ p. mul 2 (byte_of (bit_xor (get_or c 0 0) (get_or c 1 0)) p))
    → x ≡ number (λ p. mul 2 (byte_of (bit_xor (get_or c 1 0) (get_or c 2 0)) p))
    → y ≡ number (λ p. mul 2 (byte_of (bit_xor (get_or c 2 0) (get_or c 3 0)) p))
    → z ≡ number (λ p. mul 2 (byte_of (bit_xor (get_or c 3 0) (get_or c 0 0)) p))
    → let t = bit_xor (bit_xor (get_or c 0 0) (get_or c 1 0)) (bit_xor (get_or c 2 0) (get_or c 3 0)) in
    bit_xor (bit_xor (get_or c 0 0) t) w ∷ bit_xor (bit_xor (get_or c 1 0) t) x ∷ bit_xor (bit_xor (get_or c 2 0) t) y
    ∷ bit_xor (bit_xor (get_or c 3 0) t) z ∷ []
    ≡ mix_numbers c
unfolding xor
mix_numbers_are c w x y z fits = mixed_rows c w x y z (λ k. (fits k).fits)

pub get_or_mix_numbers : (c : List ℕ) (i : ℕ) → i < 4
    → get_or (mix_numbers c) i 0 ≡ number (λ p. get_or (mix_column forward (tab 4 (λ k. byte_of (get_or c k 0) p))) i 0)
unfolding mix_numbers
get_or_mix_numbers c i h = get_or-tab 4 _ i h
