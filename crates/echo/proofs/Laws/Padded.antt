-- The padded message: it fills its blocks, with the fewest zeros, and these are its bytes. Assumes nothing.
use Rattle.std.proofs.Common.{◌≡◌, ℕ, ◌+◌, ◌-◌, ◌*◌, ◌/◌, ◌%◌, ◌^◌, ◌<◌, ◌≤◌, List, ◌∷◌, ◌++◌, length, take, replicate, sym, refl, ap, ◌∙◌, subst, ap₂, ⊎_elim, append_assoc, append-nil, add-zero, mod-lt, mod-eq_of_lt, mul-one, mul-add, arith, lit<, length-append, length-take-le}
use native.Mathlib.Nat.{div-add-mod}
use lib.ListN.{length-replicate, replicate-append-replicate}
use Rattle.aes_round.proofs.Promises.{length-tab, lt_or_le}
use Rattle.echo.specs.Bits.{bits_of, byte_bits, packed}
use Rattle.echo.specs.Digest.{block_count}
use Rattle.echo.specs.Numbers.{little_endian}
use Rattle.echo.specs.Padding.{pad, padding}
use Rattle.echo.specs.Session.{all_zero}
use Rattle.echo.proofs.Laws.Bits.{Part, bits_append, length-bits, length_byte, marked_byte, packed_all, packed_bits, zero_bits}
use Rattle.echo.proofs.Laws.Counting.{bits_mod, mod_on}

-- the last eighteen bytes, for a message of L bits
abbrev pub lengths_of : ℕ → ℕ → List ℕ
lengths_of h L = little_endian 2 h ++ little_endian 16 L

pub length_lengths : (h L : ℕ) → length (lengths_of h L) ≡ 18
unfolding little_endian
length_lengths h L = length-append (little_endian 2 h) (little_endian 16 L) ∙ ap₂ (λ (x y : ℕ). x + y) (length-tab 2 _) (length-tab 16 _)

-- ---- in bits

module _ (msize : ℕ) (pos : 0 < msize) where
  pub pad_fills : (h : ℕ) (m : List ℕ) → length (pad msize h m) ≡ msize * block_count msize (length m)
  unfolding pad padding block_count
  pad_fills h m =
      let L = length m in
      let zeros = msize - (L + 144) % msize - 1 in
      let ends = bits_of (little_endian 2 h) ++ bits_of (little_endian 16 L) in
      omega (
        arith,
        length-append m (padding msize h L),
        length-append (replicate zeros 0) ends,
        length-replicate {A = ℕ} zeros 0,
        ap length (sym (bits_append (little_endian 2 h) (little_endian 16 L))) ∙ length-bits (lengths_of h L),
        length_lengths h L,
        div-add-mod (L + 144) msize,
        mod-lt (L + 144) pos,
        mul-add msize ((L + 144) / msize) 1,
        mul-one msize,
      )

  -- any other number of zeros that fills blocks is no smaller
  pub no_fewer_zeros : (L z : ℕ) → (L + 1 + z + 144) % msize ≡ 0 → msize - (L + 144) % msize - 1 ≤ z
  no_fewer_zeros L z e = ⊎_elim few (λ (g : msize - (L + 144) % msize - 1 ≤ z). g) (lt_or_le z (msize - (L + 144) % msize - 1))
    where
      few : z < msize - (L + 144) % msize - 1 → msize - (L + 144) % msize - 1 ≤ z
      few l =
          let less : (L + 144) % msize + (1 + z) < msize = omega arith in
          let same : L + 1 + z + 144 ≡ L + 144 + (1 + z) = omega arith in
          absurd (omega (arith, e, ap (λ (k : ℕ). k % msize) same, mod_on msize pos (L + 144) (1 + z), mod-eq_of_lt less))

-- ---- in bytes: a part byte x with the marking bit, 80 where there is none; zeros; and the lengths

abbrev pub ending : ℕ → ℕ → ℕ → ℕ → List ℕ
ending b h L x = (x + 2 ^ (7 - L % 8)) ∷ (replicate (b - (L / 8 + 18) % b - 1) 0 ++ lengths_of h L)

module _ (b : ℕ) (pos : 0 < b) (h L x : ℕ) (P : Part x (L % 8)) where
  abbrev zeros : ℕ
  zeros = b - (L / 8 + 18) % b - 1

  zero_count : 8 * b - (L + 144) % (8 * b) - 1 ≡ (7 - L % 8) + 8 * zeros
  zero_count =
      let whole : (L + 144) / 8 ≡ L / 8 + 18 = omega arith in
      let part : (L + 144) % 8 ≡ L % 8 = omega arith in
      omega (arith, bits_mod b pos (L + 144), part, ap (λ (n : ℕ). n % b) whole, mod-lt (L / 8 + 18) pos, P.few)

  lengths_packed : packed (bits_of (little_endian 2 h) ++ bits_of (little_endian 16 L)) ≡ lengths_of h L
  lengths_packed =
      packed_bits (little_endian 2 h) (bits_of (little_endian 16 L))
      ∙ ap (λ (l : List ℕ). little_endian 2 h ++ l) (packed_all (little_endian 16 L))

  pub packed_ending : packed (take (L % 8) (byte_bits x) ++ padding (8 * b) h L) ≡ ending b h L x
  unfolding padding
  packed_ending =
      let e = bits_of (little_endian 2 h) ++ bits_of (little_endian 16 L) in
      ap (λ (l : List ℕ). packed (take (L % 8) (byte_bits x) ++ (1 ∷ l)))
      (ap (λ (l : List ℕ). l ++ e) (ap (λ (n : ℕ). replicate n 0) zero_count ∙ sym (replicate-append-replicate (7 - L % 8) (8 * zeros) 0))
      ∙ append_assoc (replicate (7 - L % 8) 0) (replicate (8 * zeros) 0) e)
      ∙ marked_byte x (L % 8) P (replicate (8 * zeros) 0 ++ e)
      ∙ ap (λ (l : List ℕ). (x + 2 ^ (7 - L % 8)) ∷ l)
      (ap (λ (l : List ℕ). packed (l ++ e)) (sym (zero_bits zeros))
      ∙ packed_bits (replicate zeros 0) e
      ∙ ap (λ (l : List ℕ). replicate zeros 0 ++ l) lengths_packed)

  -- behind whole bytes
  pub packed_behind : (m : List ℕ) → packed ((bits_of m ++ take (L % 8) (byte_bits x)) ++ padding (8 * b) h L) ≡ m ++ ending b h L x
  packed_behind m =
      ap packed (append_assoc (bits_of m) (take (L % 8) (byte_bits x)) (padding (8 * b) h L))
      ∙ packed_bits m (take (L % 8) (byte_bits x) ++ padding (8 * b) h L)
      ∙ ap (λ (l : List ℕ). m ++ l) packed_ending

no_part : Part 0 0
unfolding all_zero byte_bits
no_part = record { few = lit< tt; clear = refl }

-- the padded message of whole bytes m and r bits of a part byte x
module _ (b : ℕ) (pos : 0 < b) (h : ℕ) (m : List ℕ) where
  pub pad_part : (x r : ℕ) → Part x r
      → packed (pad (8 * b) h (bits_of m ++ take r (byte_bits x)))
      ≡ m ++ ((x + 2 ^ (7 - r)) ∷ (replicate (b - (length m + 18) % b - 1) 0 ++ lengths_of h (8 * length m + r)))
  unfolding pad
  pad_part x r P =
      ap (λ (k : ℕ). packed ((bits_of m ++ take r (byte_bits x)) ++ padding (8 * b) h k)) long
      ∙ ap (λ (k : ℕ). packed ((bits_of m ++ take k (byte_bits x)) ++ padding (8 * b) h L)) (sym part)
      ∙ packed_behind b pos h L x (subst (λ (k : ℕ). Part x k) (sym part) P) m
      ∙ ap₂ (λ (k n : ℕ). m ++ ((x + 2 ^ (7 - k)) ∷ (replicate (b - (n + 18) % b - 1) 0 ++ lengths_of h L))) part whole
    where
      L : ℕ
      L = 8 * length m + r

      long : length (bits_of m ++ take r (byte_bits x)) ≡ L
      long =
          omega (
            arith,
            length-append (bits_of m) (take r (byte_bits x)),
            length-bits m,
            length-take-le r (byte_bits x) (omega (arith, length_byte x, P.few)),
          )

      part : L % 8 ≡ r
      part = omega (arith, P.few)

      whole : L / 8 ≡ length m
      whole = omega (arith, P.few)

  -- no part byte: 80 behind the message
  pub pad_bytes : packed (pad (8 * b) h (bits_of m)) ≡ m ++ (0x80 ∷ (replicate (b - (length m + 18) % b - 1) 0 ++ lengths_of h (8 * length m)))
  pad_bytes =
      ap (λ (l : List ℕ). packed (pad (8 * b) h l)) (sym (append-nil (bits_of m)))
      ∙ pad_part 0 0 no_part
      ∙ ap (λ (k : ℕ). m ++ (0x80 ∷ (replicate (b - (length m + 18) % b - 1) 0 ++ lengths_of h k))) (add-zero (8 * length m))
