-- FIPS 197, sections 5.1.1 and 5.3.2: the substitution of a byte and its inverse. Assumes nothing.
use Rattle.std.specs.Prelude.{◌≡◌, List, ℕ, zero, suc, ◌+◌, ◌*◌, ◌/◌, ◌%◌, ◌^◌, ◌<◌, get_or}
use Rattle.aes_round.specs.Bytes.{xor}
use Rattle.aes_round.specs.Field.{mul}

-- bit i of a number, and the number of n bits whose bit i is f i
abbrev pub bit : ℕ → ℕ → ℕ
bit x i = x / 2 ^ i % 2

abbrev pub from_bits : ℕ → (ℕ → ℕ) → ℕ
from_bits zero f = 0
from_bits (suc n) f = from_bits n f + f n * 2 ^ n

-- x^2 x^4 x^8 .., n factors
abbrev pub squares : ℕ → ℕ → ℕ
squares zero x = 1
squares (suc n) x = let y = mul x x in mul y (squares n y)

-- the inverse in the field, 0 for 0: x^254 = x^2 x^4 .. x^128 (`inverse_is` in proofs/Laws/Substitution.antt: the product with x is 1)
abbrev pub inverse : ℕ → ℕ
inverse x = squares 7 x

-- 5.1.1: bit i becomes the xor of bits i, i + 4, i + 5, i + 6, i + 7 (mod 8) and bit i of 63 (hex)
abbrev pub affine : ℕ → ℕ
affine y =
    from_bits 8
    (λ i.
    xor (bit y i)
    (xor (bit y ((i + 4) % 8)) (xor (bit y ((i + 5) % 8)) (xor (bit y ((i + 6) % 8)) (xor (bit y ((i + 7) % 8)) (bit 0x63 i))))))

-- 5.1.1: SubBytes on one byte
unfoldable pub sub_byte : ℕ → ℕ
sub_byte x = affine (inverse x)

-- 5.3.2: the inverse of the affine map: bit i becomes the xor of bits i + 2, i + 5, i + 7 (mod 8) and bit i of 05 (hex)
abbrev pub affine_back : ℕ → ℕ
affine_back y = from_bits 8 (λ i. xor (bit y ((i + 2) % 8)) (xor (bit y ((i + 5) % 8)) (xor (bit y ((i + 7) % 8)) (bit 0x05 i))))

-- 5.3.2: InvSubBytes on one byte
unfoldable pub sub_byte_back : ℕ → ℕ
sub_byte_back x = inverse (affine_back x)

-- t holds f of each byte, at the byte's own place
unfoldable pub Table : (ℕ → ℕ) → List ℕ → Type 0
Table f t = (x : ℕ) → x < 256 → get_or t x 0 ≡ f x

-- each of two tables undoes the other
pub record Undo (t u : List ℕ) : Type 0 where
  pub forth : (x : ℕ) → x < 256 → get_or u (get_or t x 0) 0 ≡ x
  pub back : (x : ℕ) → x < 256 → get_or t (get_or u x 0) 0 ≡ x
