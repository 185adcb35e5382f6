-- The laws of xor, on numbers and on lists of bytes. Assumes nothing.
use mathlib.Core.Path.{◌≡◌, refl, sym, ap, ap₂, ◌∙◌}
use mathlib.Core.List.{List}
use Prim.Native.Nat.{ℕ, zero, suc, ◌+◌, ◌*◌, ◌/◌, ◌%◌, ◌^◌, ◌<◌}
use native.Mathlib.Nat.{mod-lt, zero-mul, one-mul, add-zero}
use native.Mathlib.Omega.{arith}
use lib.Arith.{bin_ind}
use lib.Pow.{pow_pos, split}
use lib.Dec.{eqb, eqb→eq, lit<}
use lib.Bits.{bit_xor, differ}
use lib.Bits as bits
use lib.ListN.{length, get_or}
use Rattle.aes_round.specs.Bytes.{Bytes, tab, xor, xor_bytes}
use Rattle.aes_round.proofs.Laws.Every.{every, below}
use Rattle.aes_round.proofs.Laws.Bytes.{get_or-tab, is_tab, length-tab, tab_bytes, tab_ext}

-- associativity at one digit, by its eight cases
digit : (x y z : ℕ) → x < 2 → y < 2 → z < 2 → differ (bit_xor x y) z ≡ differ x (bit_xor y z)
digit x y z hx hy hz =
    eqb→eq _ _
    (below (λ z. eqb (differ (bit_xor x y) z) (differ x (bit_xor y z))) 2
    (below (λ y. every (λ z. eqb (differ (bit_xor x y) z) (differ x (bit_xor y z))) 2) 2
    (below (λ x. every (λ y. every (λ z. eqb (differ (bit_xor x y) z) (differ x (bit_xor y z))) 2) 2) 2 tt x hx) y hy) z hz)

assoc : (a b c : ℕ) → bit_xor (bit_xor a b) c ≡ bit_xor a (bit_xor b c)
assoc a =
    bin_ind (λ (n : ℕ). (b c : ℕ) → bit_xor (bit_xor n b) c ≡ bit_xor n (bit_xor b c)) (λ b c. refl)
    (λ n ih b c.
    bits.xor_step (bit_xor n b) c
    ∙ ap₂ (λ (x y : ℕ). bit_xor x (c / 2) * 2 + differ y (c % 2)) (bits.xor_shr n b 1) (bits.xor_mod n b 1)
    ∙ ap₂ (λ (x y : ℕ). x * 2 + y) (ih (b / 2) (c / 2))
    (digit (n % 2) (b % 2) (c % 2) (mod-lt n (lit< tt)) (mod-lt b (lit< tt)) (mod-lt c (lit< tt)))
    ∙ sym (ap₂ (λ (x y : ℕ). bit_xor (n / 2) x * 2 + differ (n % 2) y) (bits.xor_shr b c 1) (bits.xor_mod b c 1))
    ∙ sym (bits.xor_step n (bit_xor b c))) a

-- what the code's `^` computes
pub code_xor : (a b : ℕ) → bit_xor a b ≡ xor a b
unfolding xor
code_xor a b = refl

pub xor_assoc : (a b c : ℕ) → xor (xor a b) c ≡ xor a (xor b c)
unfolding xor
xor_assoc = assoc

pub xor_comm : (a b : ℕ) → xor a b ≡ xor b a
unfolding xor
xor_comm = bits.xor_comm

pub xor_self : (a : ℕ) → xor a a ≡ 0
unfolding xor
xor_self = bits.xor_self

pub xor_zero_l : (a : ℕ) → xor 0 a ≡ a
unfolding xor
xor_zero_l a = refl

pub xor_zero_r : (a : ℕ) → xor a 0 ≡ a
unfolding xor
xor_zero_r = bits.xor_zero_r

pub xor_shr : (a b k : ℕ) → xor a b / 2 ^ k ≡ xor (a / 2 ^ k) (b / 2 ^ k)
unfolding xor
xor_shr = bits.xor_shr

pub xor_mod : (a b k : ℕ) → xor a b % 2 ^ k ≡ xor (a % 2 ^ k) (b % 2 ^ k)
unfolding xor
xor_mod = bits.xor_mod

pub xor_lt : (k a b : ℕ) → a < 2 ^ k → b < 2 ^ k → xor a b < 2 ^ k
unfolding xor
xor_lt = bits.xor_lt

pub xor_shl : (a b k : ℕ) → xor a b * 2 ^ k ≡ xor (a * 2 ^ k) (b * 2 ^ k)
unfolding xor
xor_shl a b k =
    sym (add-zero (bit_xor a b * 2 ^ k)) ∙ sym (bits.xor_block k a b 0 0 (pow_pos k) (pow_pos k))
    ∙ ap₂ bit_xor (add-zero (a * 2 ^ k)) (add-zero (b * 2 ^ k))

-- the highest of n + 1 digits, and the others
pub xor_top : (n x : ℕ) → x ≡ xor (x / 2 ^ n * 2 ^ n) (x % 2 ^ n)
unfolding xor
xor_top n x = sym (split x n) ∙ sym (bits.xor_shifted (x / 2 ^ n) n (x % 2 ^ n) (mod-lt x (pow_pos n)))

-- the middle two of four change places
pub xor_swap : (a b c d : ℕ) → xor (xor a b) (xor c d) ≡ xor (xor a c) (xor b d)
xor_swap a b c d =
    xor_assoc _ _ _
    ∙ ap (xor a) (sym (xor_assoc _ _ _) ∙ ap (λ (x : ℕ). xor x d) (xor_comm b c) ∙ xor_assoc _ _ _)
    ∙ sym (xor_assoc _ _ _)

-- what is added twice is gone
pub xor_twice : (a k : ℕ) → xor (xor a k) k ≡ a
xor_twice a k = xor_assoc _ _ _ ∙ ap (xor a) (xor_self k) ∙ xor_zero_r a

-- a digit times a sum
pub xor_digit : (d a b : ℕ) → d < 2 → d * xor a b ≡ xor (d * a) (d * b)
xor_digit zero a b h = zero-mul _ ∙ sym (ap₂ xor (zero-mul a) (zero-mul b) ∙ xor_self 0)
xor_digit (suc zero) a b h = one-mul _ ∙ sym (ap₂ xor (one-mul a) (one-mul b))
xor_digit (suc (suc d)) a b h = absurd (omega arith)

-- a sum of digits times a number
digits_times : (m x y : ℕ) → x < 2 → y < 2 → xor x y * m ≡ xor (x * m) (y * m)
unfolding xor
digits_times m zero y hx hy = ap (λ (n : ℕ). bit_xor n (y * m)) (sym (zero-mul m))
digits_times m (suc zero) zero hx hy = sym (bits.xor_zero_r (1 * m)) ∙ ap (bit_xor (1 * m)) (sym (zero-mul m))
digits_times m (suc zero) (suc zero) hx hy = zero-mul m ∙ sym (bits.xor_self (1 * m))
digits_times m (suc zero) (suc (suc y)) hx hy = absurd (omega arith)
digits_times m (suc (suc x)) y hx hy = absurd (omega arith)

pub digit_xor : (a b m : ℕ) → xor a b % 2 * m ≡ xor (a % 2 * m) (b % 2 * m)
digit_xor a b m =
    ap (λ (t : ℕ). t * m) (xor_mod a b 1) ∙ digits_times m (a % 2) (b % 2) (mod-lt a (lit< tt)) (mod-lt b (lit< tt))

-- ---- lists of n bytes

pub xor_tab : (n : ℕ) (f g : ℕ → ℕ) → xor_bytes n (tab n f) (tab n g) ≡ tab n (λ k. xor (f k) (g k))
unfolding xor_bytes
xor_tab n f g = tab_ext n _ _ (λ k h. ap₂ xor (get_or-tab n f k h) (get_or-tab n g k h))

module _ (n : ℕ) (a b : List ℕ) where
  pub xor_is_tab : tab n (λ k. xor (get_or a k 0) (get_or b k 0)) ≡ xor_bytes n a b
  unfolding xor_bytes
  xor_is_tab = refl

  pub length-xor : length (xor_bytes n a b) ≡ n
  unfolding xor_bytes
  length-xor = length-tab n _

  pub get_or-xor : (k : ℕ) → k < n → get_or (xor_bytes n a b) k 0 ≡ xor (get_or a k 0) (get_or b k 0)
  unfolding xor_bytes
  get_or-xor k h = get_or-tab n _ k h

  pub xor_bytes_lem : Bytes n a → Bytes n b → Bytes n (xor_bytes n a b)
  unfolding xor_bytes
  xor_bytes_lem A B = tab_bytes n _ (λ k h. xor_lt 8 _ _ (A.small k) (B.small k))

  pub xor_bytes_twice : length a ≡ n → xor_bytes n (xor_bytes n a b) b ≡ a
  unfolding xor_bytes
  xor_bytes_twice e =
      sym (is_tab n a _ e (λ k h. sym (ap (λ (x : ℕ). xor x (get_or b k 0)) (get_or-tab n _ k h) ∙ xor_twice _ _)))
