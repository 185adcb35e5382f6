-- FIPS 197, section 4: the field of bytes. A number is a polynomial over GF(2): bit i of it is the coefficient of x^i. Assumes nothing.
use Rattle.std.specs.Prelude.{ℕ, zero, suc, ◌+◌, ◌*◌, ◌/◌, ◌%◌, ◌^◌}
use Rattle.aes_round.specs.Bytes.{xor}

-- 4.1: the sum of two polynomials is their `xor`.

-- 4.2: the product of two polynomials, p of degree below n: q for the coefficient of 1 in p, x q for that of x, and so on
abbrev pub poly_mul : ℕ → ℕ → ℕ → ℕ
poly_mul zero p q = 0
poly_mul (suc n) p q = xor (p % 2 * q) (poly_mul n (p / 2) (q * 2))

-- 4.2: m(x) = x^8 + x^4 + x^3 + x + 1
abbrev pub modulus : ℕ
modulus = 0x11b

-- 4.2: the remainder by m(x) of a polynomial of degree below 8 + n: its highest coefficient, where set, is cleared by x^n m(x), and so on down
abbrev pub poly_rem : ℕ → ℕ → ℕ
poly_rem zero p = p
poly_rem (suc n) p = poly_rem n (xor (p / 2 ^ (8 + n) % 2 * (modulus * 2 ^ n)) p)

-- 4.2: the product of two bytes in the field
unfoldable pub mul : ℕ → ℕ → ℕ
mul p q = poly_rem 7 (poly_mul 8 p q)
