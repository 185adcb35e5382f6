-- Bytes that fit one block with their padding, behind q blocks: what is left of the iteration is one compression, whose counter is the length of the
-- message. Assumes nothing.
use Rattle.std.proofs.Common.{◌≡◌, ℕ, ◌+◌, ◌-◌, ◌*◌, ◌/◌, ◌%◌, ◌<◌, List, ◌++◌, length, take, drop, replicate, ap, ◌∙◌, ap₂, add-zero, mod-eq_of_lt, mul-zero, arith, length-append, take_all, lt-ltb}
use native.Mathlib.Nat.{div-eq_of_lt, min-eq_left, mul-add-div, mul-add-mod_self_left}
use lib.ListN.{length-replicate}
use Rattle.aes_round.proofs.Promises.{length-tab}
use Rattle.echo.specs.Bits.{bits_of, packed}
use Rattle.echo.specs.Compression.{compress}
use Rattle.echo.specs.Digest.{block, block_count, counter_at, iterate}
use Rattle.echo.specs.Numbers.{little_endian}
use Rattle.echo.specs.Padding.{padding}
use Rattle.echo.specs.Square.{keys_from}
use Rattle.echo.proofs.Laws.Bits.{bits_append, length-bits}
use Rattle.echo.proofs.Laws.Padded.{length_lengths, lengths_of}

module _ (b q : ℕ) (rest : List ℕ) (some : 0 < length rest) (short : length rest + 18 < b) where
  abbrev msize : ℕ
  msize = 8 * b

  abbrev n : ℕ
  n = 8 * length rest

  abbrev L : ℕ
  L = msize * q + n

  pos : 0 < msize
  pos = omega arith

  within : n + 144 < msize
  within = omega arith

  behind : L + 144 ≡ msize * q + (n + 144)
  behind = omega arith

  one : block_count msize L - q ≡ 1
  unfolding block_count
  one = omega (arith, ap (λ (k : ℕ). k / msize) behind ∙ mul-add-div pos q (n + 144), div-eq_of_lt within)

  counter : counter_at msize L (q + 0) ≡ L
  unfolding counter_at
  counter = rw (add-zero q, lt-ltb (msize * q) L (omega arith)) (min-eq_left (omega arith))

  module _ (h : ℕ) where
    abbrev padded : List ℕ
    padded = packed (bits_of rest ++ padding msize h L)

    fills : length (bits_of rest ++ padding msize h L) ≡ msize
    unfolding padding
    fills =
        let zeros = msize - (L + 144) % msize - 1 in
        let ends = bits_of (little_endian 2 h) ++ bits_of (little_endian 16 L) in
        omega (
          arith,
          length-append (bits_of rest) (padding msize h L),
          length-bits rest,
          length-append (replicate zeros 0) ends,
          length-replicate {A = ℕ} zeros 0,
          ap length (bits_append (little_endian 2 h) (little_endian 16 L)),
          length-bits (lengths_of h L),
          length_lengths h L,
          ap (λ (k : ℕ). k % msize) behind ∙ mul-add-mod_self_left msize q (n + 144) ∙ mod-eq_of_lt within,
        )

    padded_long : length padded ≡ b
    unfolding packed
    padded_long = length-tab _ _ ∙ ap (λ (k : ℕ). k / 8) fills ∙ eighth
      where
        eighth : 8 * b / 8 ≡ b
        eighth = omega arith

    whole_block : block b padded 0 ≡ padded
    unfolding block
    whole_block = ap (λ (k : ℕ). take b (drop k padded)) (mul-zero b) ∙ take_all b padded (omega (arith, padded_long))

    pub last_compression : (c r : ℕ) (salt v : List ℕ)
        → iterate c r salt v (block b padded) (λ i. counter_at msize L (q + i)) (block_count msize L - q) ≡ compress c r (keys_from L) salt v padded
    unfolding iterate
    last_compression c r salt v =
        ap (iterate c r salt v (block b padded) (λ i. counter_at msize L (q + i))) one
        ∙ ap₂ (λ (k : ℕ) (m : List ℕ). compress c r (keys_from k) salt v m) counter whole_block
