-- A message of whole bytes: the padded message, the counters and the digest in bytes. Assumes nothing.
use Rattle.std.proofs.Common.{◌≡◌, ℕ, ◌+◌, ◌-◌, ◌*◌, ◌/◌, ◌%◌, ◌<◌, ◌≤◌, min, Bool, ltb, List, ◌∷◌, ◌++◌, length, take, replicate, sym, refl, ap, ◌∙◌, ap₂, ⊎_elim, mul_assoc, arith, le-ltb, lt-ltb}
use native.Mathlib.Nat.{min-eq_left, min-eq_right}
use Rattle.aes_round.proofs.Promises.{lt_or_le}
use Rattle.echo.specs.declared.mode.Mode.{Mode}
use Rattle.echo.specs.Digest.{bit_digest_of, block, block_count, counter_at, digest, digest_of, initial, iterate}
use Rattle.echo.specs.Families.{block_size, chaining_size, either, round_count}
use Rattle.echo.proofs.Laws.Bits.{length-bits}
use Rattle.echo.proofs.Laws.Counting.{bits_div}
use Rattle.echo.proofs.Laws.Families.{block_pos}
use Rattle.echo.proofs.Laws.Padded.{lengths_of, pad_bytes}
use Rattle.echo.proofs.Laws.Stream.{iterate_ext}

-- n bytes, in blocks of b
module _ (b : ℕ) (pos : 0 < b) (n : ℕ) where
  pub count_bytes : block_count (8 * b) (8 * n) ≡ (n + 18) / b + 1
  unfolding block_count
  count_bytes =
      let e : (8 * n + 144) / 8 ≡ n + 18 = omega arith in
      ap (λ (k : ℕ). k + 1) (bits_div b pos (8 * n + 144) ∙ ap (λ (k : ℕ). k / b) e)

  pub counter_bytes : (i : ℕ) → counter_at (8 * b) (8 * n) i ≡ either (ltb (b * i) n) (8 * min n (b * i + b)) 0
  unfolding counter_at
  counter_bytes i = ap₂ (λ (t : Bool) (k : ℕ). either t k 0) begins ends
    where
      at : 8 * b * i ≡ 8 * (b * i)
      at = mul_assoc 8 b i

      begins : ltb (8 * b * i) (8 * n) ≡ ltb (b * i) n
      begins =
          ⊎_elim (λ (l : b * i < n). lt-ltb (8 * b * i) (8 * n) (omega (arith, at)) ∙ sym (lt-ltb (b * i) n l))
          (λ (g : n ≤ b * i). le-ltb (8 * b * i) (8 * n) (omega (arith, at)) ∙ sym (le-ltb (b * i) n g)) (lt_or_le (b * i) n)

      ends : min (8 * n) (8 * b * i + 8 * b) ≡ 8 * min n (b * i + b)
      ends = ⊎_elim within past (lt_or_le n (b * i + b))
        where
          within : n < b * i + b → min (8 * n) (8 * b * i + 8 * b) ≡ 8 * min n (b * i + b)
          within l =
              let p : 8 * n ≤ 8 * b * i + 8 * b = omega (arith, at) in
              let q : n ≤ b * i + b = omega arith in
              min-eq_left p ∙ sym (ap (λ (k : ℕ). 8 * k) (min-eq_left q))

          past : b * i + b ≤ n → min (8 * n) (8 * b * i + 8 * b) ≡ 8 * min n (b * i + b)
          past g =
              let p : 8 * b * i + 8 * b ≤ 8 * n = omega (arith, at) in
              let e : 8 * b * i + 8 * b ≡ 8 * (b * i + b) = omega (arith, at) in
              min-eq_right p ∙ e ∙ sym (ap (λ (k : ℕ). 8 * k) (min-eq_right g))

pub digest_bytes : (mode : Mode) (h : ℕ) (salt message : List ℕ)
    → let b = block_size mode h in
    let c = chaining_size mode h in
    let n = length message in
    digest_of mode h salt message
    ≡ take (h / 8)
    (iterate c (round_count mode c) salt (initial c h) (block b (message ++ (0x80 ∷ (replicate (b - (n + 18) % b - 1) 0 ++ lengths_of h (8 * n)))))
    (λ i. either (ltb (b * i) n) (8 * min n (b * i + b)) 0) ((n + 18) / b + 1))
unfolding digest_of bit_digest_of digest
digest_bytes mode h salt message =
    ap (take (h / 8))
    (ap₂
    (λ (L : ℕ) (l : List ℕ). iterate c (round_count mode c) salt (initial c h) (block b l) (counter_at (8 * b) L) (block_count (8 * b) L)) (length-bits message)
    (pad_bytes b (block_pos mode h) h message)
    ∙ iterate_ext c (round_count mode c) salt (initial c h) _ _ (counter_at (8 * b) (8 * n)) (λ i. either (ltb (b * i) n) (8 * min n (b * i + b)) 0)
    (block_count (8 * b) (8 * n)) (λ i l. refl) (λ i l. counter_bytes b (block_pos mode h) n i)
    ∙ ap
    (iterate c (round_count mode c) salt (initial c h) (block b (message ++ (0x80 ∷ (replicate (b - (n + 18) % b - 1) 0 ++ lengths_of h (8 * n)))))
    (λ i. either (ltb (b * i) n) (8 * min n (b * i + b)) 0)) (count_bytes b (block_pos mode h) n))
  where
    b : ℕ
    b = block_size mode h

    c : ℕ
    c = chaining_size mode h

    n : ℕ
    n = length message
