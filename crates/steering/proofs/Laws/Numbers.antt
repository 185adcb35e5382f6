-- Numbers as bytes, the most significant first: reading them in parts, and back. Assumes nothing.
use mathlib.Core.Path.{◌≡◌, refl, sym, ap, ap₂, subst, ◌∙◌}
use mathlib.Core.List.{List, [], ◌∷◌, ◌++◌}
use Prim.Native.Nat.{ℕ, zero, suc, ◌+◌, ◌-◌, ◌*◌, ◌/◌, ◌%◌, ◌^◌, ◌<◌, ◌≤◌}
use native.Mathlib.Nat.{add-zero, div-eq_of_lt, div-one, mod-eq_of_lt, mul-add-div_right, mul-add-mod_self_right, mul_assoc}
use native.Mathlib.Nat.{mul-le-mul_right, pow-succ', suc-add, suc-mul, zero-add}
use native.Mathlib.Omega.{arith}
use lib.ListN.{drop, length, length-drop, take}
use lib.Pow.{pow-add}
use borrow.Rule.Slice.PartMut.{put_mid}
use lib.Seq.{drop-drop, get_or-drop, length-take-le, take_all, take-add}
use Rattle.std.specs.Int.{bytes_high_first, from_be_bytes, to_be_bytes, w64}
use Rattle.steering.specs.Numbers.{AreBytes, big_endian, bytes_of, number_at}

module _ (at : ℕ) (l : List ℕ) where
  -- two parts that follow each other
  pub parts : (m n : ℕ) → take m (drop at l) ++ take n (drop (at + m) l) ≡ take (m + n) (drop at l)
  parts m n = ap (λ (d : List ℕ). take m (drop at l) ++ take n d) (sym (drop-drop m at l)) ∙ sym (take-add m n (drop at l))

-- ---- parts of a list of bytes

pub bytes_take : (n : ℕ) (l : List ℕ) → AreBytes l → AreBytes (take n l)
bytes_take zero l b k = omega arith
bytes_take (suc n) [] b k = omega arith
bytes_take (suc n) (x ∷ xs) b zero = b zero
bytes_take (suc n) (x ∷ xs) b (suc k) = bytes_take n xs (λ j. b (suc j)) k

pub bytes_drop : (n : ℕ) (l : List ℕ) → AreBytes l → AreBytes (drop n l)
bytes_drop n l b k = rw (get_or-drop n l k 0) (b (n + k))

-- ---- from bytes to a number and back

pub length_bytes : (n x : ℕ) → length (bytes_of n x) ≡ n
unfolding bytes_of
length_bytes zero x = refl
length_bytes (suc n) x = ap suc (length_bytes n x)

pub power_pos : (n : ℕ) → 0 < 256 ^ n
power_pos zero = omega arith
power_pos (suc n) = rw (pow-succ' 256 n) (omega (arith, power_pos n))

pub below : (l : List ℕ) → AreBytes l → big_endian l < 256 ^ length l
unfolding big_endian
below [] b = omega arith
below (x ∷ xs) b =
    let p = 256 ^ length xs in
    let s : x < 256 = b zero in
    let v : big_endian xs < p = below xs (λ j. b (suc j)) in
    let m : suc x * p ≤ 256 * p = mul-le-mul_right p s in
    rw (pow-succ' 256 (length xs)) (omega (arith, suc-mul x p))

-- the low bytes of a number don't see a multiple above them
bytes_low : (n k q v : ℕ) → bytes_of n (q * 256 ^ (k + n) + v) ≡ bytes_of n v
unfolding bytes_of
bytes_low zero k q v = refl
bytes_low (suc n) k q v = ap₂ (λ (x : ℕ) (xs : List ℕ). x ∷ xs) head (ap (λ (j : ℕ). bytes_of n (q * 256 ^ j + v)) shift ∙ bytes_low n (suc k) q v)
  where
    shift : k + suc n ≡ suc k + n
    shift = omega arith

    power : q * 256 ^ (k + suc n) ≡ q * 256 ^ k * 256 * 256 ^ n
    power =
        rw (pow-add 256 k (suc n), pow-succ' 256 n, ← mul_assoc (256 ^ k) 256 (256 ^ n), ← mul_assoc q (256 ^ k * 256) (256 ^ n), ← mul_assoc q (256 ^ k) 256)

    head : (q * 256 ^ (k + suc n) + v) / 256 ^ n % 256 ≡ v / 256 ^ n % 256
    head =
        ap (λ (y : ℕ). (y + v) / 256 ^ n % 256) power
        ∙ ap (λ (y : ℕ). y % 256) (mul-add-div_right (power_pos n) (q * 256 ^ k * 256) v)
        ∙ mul-add-mod_self_right (q * 256 ^ k) 256 (v / 256 ^ n)

pub bytes_back : (l : List ℕ) → AreBytes l → bytes_of (length l) (big_endian l) ≡ l
unfolding bytes_of big_endian
bytes_back [] b = refl
bytes_back (x ∷ xs) b =
    ap₂ (λ (y : ℕ) (ys : List ℕ). y ∷ ys) head
    (ap (λ (j : ℕ). bytes_of (length xs) (x * 256 ^ j + big_endian xs)) (sym (zero-add (length xs)))
    ∙ bytes_low (length xs) 0 x (big_endian xs)
    ∙ bytes_back xs (λ j. b (suc j)))
  where
    head : (x * 256 ^ length xs + big_endian xs) / 256 ^ length xs % 256 ≡ x
    head =
        ap (λ (y : ℕ). y % 256)
        (mul-add-div_right (power_pos (length xs)) x (big_endian xs) ∙ ap (λ (y : ℕ). x + y) (div-eq_of_lt (below xs (λ j. b (suc j)))) ∙ add-zero x)
        ∙ mod-eq_of_lt (b zero)

pub bytes_at : (n at : ℕ) (l : List ℕ) → at + n ≤ length l → AreBytes l → bytes_of n (number_at n at l) ≡ take n (drop at l)
bytes_at n at l h b =
    let s : length (take n (drop at l)) ≡ n = length-take-le n (drop at l) (omega (arith, length-drop at l)) in
    ap (λ (k : ℕ). bytes_of k (number_at n at l)) (sym s) ∙ bytes_back (take n (drop at l)) (bytes_take n (drop at l) (bytes_drop at l b))

-- ---- as the code reads and writes them, eight bytes at a time

-- eight bytes, the given ones behind zeros
pub read_last : (bytes last : List ℕ) (x : ℕ) → last ≡ bytes → length bytes ≤ 8
    → x ≡ from_be_bytes w64 (put_mid (8 - length bytes) (8 - (8 - length bytes)) (0 ∷ 0 ∷ 0 ∷ 0 ∷ 0 ∷ 0 ∷ 0 ∷ 0 ∷ []) last) → x ≡ big_endian bytes
unfolding big_endian
read_last bytes last x e few f = by bytes few (subst (λ (l : List ℕ). x ≡ from_be_bytes w64 (behind l (8 - length bytes))) e f)
  where
    behind : List ℕ → ℕ → List ℕ
    behind l k = put_mid k (8 - k) (0 ∷ 0 ∷ 0 ∷ 0 ∷ 0 ∷ 0 ∷ 0 ∷ 0 ∷ []) l

    by : (l : List ℕ) → length l ≤ 8 → x ≡ from_be_bytes w64 (behind l (8 - length l)) → x ≡ big_endian l
    by [] n g = omega (arith, g)
    by (a ∷ []) n g = omega (arith, g)
    by (a ∷ b ∷ []) n g = omega (arith, g)
    by (a ∷ b ∷ c ∷ []) n g = omega (arith, g)
    by (a ∷ b ∷ c ∷ d ∷ []) n g = omega (arith, g)
    by (a ∷ b ∷ c ∷ d ∷ h ∷ []) n g = omega (arith, g)
    by (a ∷ b ∷ c ∷ d ∷ h ∷ i ∷ []) n g = omega (arith, g)
    by (a ∷ b ∷ c ∷ d ∷ h ∷ i ∷ j ∷ []) n g = omega (arith, g)
    by (a ∷ b ∷ c ∷ d ∷ h ∷ i ∷ j ∷ k ∷ []) n g = omega (arith, g)
    by (a ∷ b ∷ c ∷ d ∷ h ∷ i ∷ j ∷ k ∷ m ∷ l) n g = absurd (omega (arith, n))

same_bytes : (n x : ℕ) → bytes_high_first n x ≡ bytes_of n x
unfolding bytes_of
same_bytes zero x = refl
same_bytes (suc zero) x = ap (λ (y : ℕ). y % 256 ∷ []) (sym (div-one x))
same_bytes (suc (suc n)) x = ap (λ (l : List ℕ). x / 256 ^ suc n % 256 ∷ l) (same_bytes (suc n) x)

last_bytes : (k n x : ℕ) → drop k (bytes_of (k + n) x) ≡ bytes_of n x
unfolding bytes_of
last_bytes zero n x = ap (λ (m : ℕ). bytes_of m x) (zero-add n)
last_bytes (suc k) n x = ap (λ (m : ℕ). drop (suc k) (bytes_of m x)) (suc-add k n) ∙ last_bytes k n x

-- the last n of the eight bytes of a number
pub written_last : (n x : ℕ) → n ≤ 8 → take (8 - (8 - n)) (drop (8 - n) (to_be_bytes w64 x)) ≡ bytes_of n x
written_last n x few =
    let sum : 8 ≡ 8 - n + n = omega (arith, few) in
    let all : drop (8 - n) (to_be_bytes w64 x) ≡ bytes_of n x =
    ap (drop (8 - n)) (same_bytes 8 x ∙ ap (λ (m : ℕ). bytes_of m x) sum) ∙ last_bytes (8 - n) n x in
    ap (take (8 - (8 - n))) all ∙ take_all (8 - (8 - n)) (bytes_of n x) (omega (arith, few, length_bytes n x))
