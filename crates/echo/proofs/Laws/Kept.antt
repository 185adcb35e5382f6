-- What adding keeps, whatever the session: h, the salt, the mode, and that it is one and ends in a whole byte. Assumes nothing.
use Rattle.std.proofs.Common.{◌≡◌, ℕ, suc, ◌+◌, ◌*◌, ◌/◌, ◌%◌, ◌<◌, ◌≤◌, true, List, [], ◌∷◌, length, take, drop, replicate, sym, refl, ap, ◌∙◌, ⊎_elim, mod-lt, eq-or-lt_of_le, arith, drop-drop, drop-set-lt, drop_at, eq-eqb, ne_eqb}
use Rattle.echo.specs.declared.session.Session.{Session}
use Rattle.echo.specs.Bits.{bits_of}
use Rattle.echo.specs.Compression.{compress}
use Rattle.echo.specs.Families.{block_size, chaining_size, round_count}
use Rattle.echo.specs.Session.{add_byte, add_bytes, all_zero, bit_limit, filled_by, is_session, longer_by, waiting_with}
use Rattle.echo.specs.Square.{keys_from}
use Rattle.echo.proofs.Laws.Bits.{bits_zero, zero_whole}
use Rattle.echo.proofs.Laws.Counting.{bits_mod, mod_more}
use Rattle.echo.proofs.Laws.Families.{block_pos}
use Rattle.echo.proofs.Laws.Sessions.{SessionFits, is_clear, session_fits}
use Rattle.echo.proofs.Laws.Stream.{length-compress}
use Rattle.echo.proofs.Laws.Zeros.{zero_behind, zeros_are_zero}

-- ---- one byte more

module _ (s : Session) (x : ℕ) where
  abbrev b : ℕ
  b = block_size s.mode s.bits

  abbrev c : ℕ
  c = chaining_size s.mode s.bits

  full_is : s.taken / 8 % b + 1 ≡ b → add_byte s x ≡ filled_by s x
  unfolding add_byte
  full_is e = rw (eq-eqb (s.taken / 8 % b + 1) b e)

  more_is : s.taken / 8 % b + 1 < b → add_byte s x ≡ longer_by s x 8
  unfolding add_byte
  more_is l = rw (ne_eqb (s.taken / 8 % b + 1) b (λ e. omega arith))

  -- the byte fills a block, or waits
  either_way : (P : Session → Type 0) → (s.taken / 8 % b + 1 ≡ b → P (filled_by s x)) → (s.taken / 8 % b + 1 < b → P (longer_by s x 8)) → P (add_byte s x)
  either_way P full more =
      ⊎_elim (λ (e : suc (s.taken / 8 % b) ≡ b). let f : s.taken / 8 % b + 1 ≡ b = omega arith in rw (full_is f) (full f))
      (λ (l : suc (s.taken / 8 % b) < b). let m : s.taken / 8 % b + 1 < b = omega arith in rw (more_is m) (more m))
      (eq-or-lt_of_le (mod-lt (s.taken / 8) (block_pos s.mode s.bits)))

  byte_keeps : ((add_byte s x).bits ≡ s.bits) × ((add_byte s x).salt ≡ s.salt) × ((add_byte s x).mode ≡ s.mode) × ((add_byte s x).taken ≡ s.taken + 8)
  byte_keeps =
      either_way (λ r. (r.bits ≡ s.bits) × (r.salt ≡ s.salt) × (r.mode ≡ s.mode) × (r.taken ≡ s.taken + 8))
      (λ e. (refl, refl, refl, refl)) (λ l. (refl, refl, refl, refl))

  -- behind whole bytes
  module _ (is : is_session s ≡ true) (whole : s.taken % 8 ≡ 0) (few : s.taken + 8 ≤ bit_limit) where
    F : SessionFits s
    F = session_fits s is

    -- k whole bytes wait
    clear_from : (L k : ℕ) (w : List ℕ) → L / 8 % b ≡ k → L % 8 ≡ 0 → all_zero (drop (L % (8 * b)) (bits_of w)) ≡ all_zero (drop k w)
    clear_from L k w p e =
        let n : L % (8 * b) ≡ 8 * k = omega (arith, bits_mod b (block_pos s.mode s.bits) L, p, e) in
        ap (λ (i : ℕ). all_zero (drop i (bits_of w))) n ∙ zero_whole k w

    next : (s.taken + 8) / 8 ≡ s.taken / 8 + 1
    next = omega arith

    whole_next : (s.taken + 8) % 8 ≡ 0
    whole_next = omega arith

    abbrev chained : List ℕ
    chained = compress c (round_count s.mode c) (keys_from (s.taken + 8)) s.salt (take c s.chaining) (take b (waiting_with s x))

    full : s.taken / 8 % b + 1 ≡ b → is_session (filled_by s x) ≡ true
    full e =
        let waits : all_zero (drop ((s.taken + 8) % (8 * b)) (bits_of (replicate 224 0))) ≡ true =
        zero_behind ((s.taken + 8) % (8 * b)) (bits_of (replicate 224 0)) (bits_zero (replicate 224 0) ∙ zeros_are_zero 224) in
        let long = length-compress c (round_count s.mode c) _ s.salt _ _ in
        sym (is_clear (filled_by s x) true (sym F.admits) refl few b refl true (sym waits) refl c true
        (sym (rw (drop_at chained (drop c s.chaining) c long) F.chaining_zero)) refl)

    more : s.taken / 8 % b + 1 < b → is_session (longer_by s x 8) ≡ true
    more l = sym (is_clear (longer_by s x 8) true (sym F.admits) refl few b refl true (sym waits) refl c true (sym F.chaining_zero) refl)
      where
        at : ℕ
        at = s.taken / 8 % b

        place : (s.taken + 8) / 8 % b ≡ at + 1
        place = ap (λ (n : ℕ). n % b) next ∙ mod_more b (block_pos s.mode s.bits) (s.taken / 8) l

        waits : all_zero (drop ((s.taken + 8) % (8 * b)) (bits_of (waiting_with s x))) ≡ true
        waits =
            clear_from (s.taken + 8) (at + 1) (waiting_with s x) place whole_next
            ∙ rw (drop-set-lt (at + 1) s.waiting at x (omega arith), ← drop-drop 1 at s.waiting)
            (zero_behind 1 (drop at s.waiting) (sym (clear_from s.taken at s.waiting refl whole) ∙ F.waiting_zero))

    stays : is_session (add_byte s x) ≡ true
    stays = either_way (λ r. is_session r ≡ true) full more

-- ---- a piece

pub add_keeps : (s : Session) (xs : List ℕ) → ((add_bytes s xs).bits ≡ s.bits) × ((add_bytes s xs).salt ≡ s.salt) × ((add_bytes s xs).mode ≡ s.mode)
unfolding add_bytes
add_keeps s [] = (refl, refl, refl)
add_keeps s (x ∷ xs) = let K = add_keeps (add_byte s x) xs in let B = byte_keeps s x in (K.0 ∙ B.0, K.1 ∙ B.1, K.2 ∙ B.2)

pub add_counts : (s : Session) (xs : List ℕ) → (add_bytes s xs).taken ≡ s.taken + 8 * length xs
unfolding add_bytes
add_counts s [] = omega arith
add_counts s (x ∷ xs) = omega (arith, add_counts (add_byte s x) xs, (byte_keeps s x).3)

pub add_is_session : (s : Session) (xs : List ℕ) → is_session s ≡ true → s.taken % 8 ≡ 0 → s.taken + 8 * length xs ≤ bit_limit
    → is_session (add_bytes s xs) ≡ true
unfolding add_bytes
add_is_session s [] is whole few = is
add_is_session s (x ∷ xs) is whole few =
    let t = (byte_keeps s x).3 in
    add_is_session (add_byte s x) xs (stays s x is whole (omega arith)) (omega (arith, t)) (omega (arith, t))
