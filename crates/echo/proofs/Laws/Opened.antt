-- From an opening, a session behaves as the list of the bits added. Assumes nothing.
use Rattle.std.proofs.Common.{◌≡◌, ℕ, ◌+◌, ◌-◌, ◌*◌, ◌/◌, ◌%◌, ◌≤◌, true, List, [], ◌∷◌, ◌++◌, length, get_or, take, replicate, sym, refl, ap, ◌∙◌, mul-zero, zero-add, arith, length-take-le, get_or-append-add, eq-eqb}
use native.Mathlib.Nat.{zero-div, zero-mod}
use lib.Seq.{take-append-add, take-length}
use Rattle.aes_round.proofs.Promises.{length-tab}
use Rattle.echo.specs.declared.mode.Mode.{Mode}
use Rattle.echo.specs.declared.session.Session.{Session}
use Rattle.echo.specs.Bits.{bits_of, packed}
use Rattle.echo.specs.Digest.{bit_digest_of, block, block_count, counter_at, digest, digest_of, initial, iterate}
use Rattle.echo.specs.Families.{block_size, chaining_size, round_count}
use Rattle.echo.specs.Padding.{pad, padding}
use Rattle.echo.specs.Session.{add_bits, add_byte, add_bytes, add_part, admitted, bit_limit, is_session, limit, opened, session_digest}
use Rattle.echo.proofs.Laws.Bits.{Sized, length-bits, piece_bits, piece_part, whole_sized, whole_taken}
use Rattle.echo.proofs.Laws.Kept.{add_counts, add_keeps}
use Rattle.echo.proofs.Laws.States.{add_more, add_part_lem, chained, state_final, state_is_session, state_from, state_with}
use Rattle.echo.proofs.Laws.Stream.{iterate_ext}
use Rattle.echo.proofs.Laws.Zeros.{zeros_are_zero}

-- ---- any session: one piece after the other

pub add_nothing : (s : Session) → add_bytes s [] ≡ s
unfolding add_bytes
add_nothing s = refl

pub add_pieces : (s : Session) (xs ys : List ℕ) → add_bytes (add_bytes s xs) ys ≡ add_bytes s (xs ++ ys)
unfolding add_bytes
add_pieces s [] ys = refl
add_pieces s (x ∷ xs) ys = add_pieces (add_byte s x) xs ys

-- whole bytes are eight bits each
pub add_whole : (s : Session) (m : List ℕ) → add_bits s m (8 * length m) ≡ add_bytes s m
unfolding add_bits add_part
add_whole s m =
    let n : 8 * length m / 8 ≡ length m = omega arith in
    let r : 8 * length m % 8 ≡ 0 = omega arith in
    rw (eq-eqb (8 * length m % 8) 0 r, n, take-length m)

pub add_no_bits : (s : Session) → add_bits s [] 0 ≡ s
unfolding add_bits add_part add_bytes
add_no_bits s = refl

-- bits behind whole bytes
pub add_behind : (s : Session) (m piece : List ℕ) (count : ℕ) → add_bits (add_bytes s m) piece count ≡ add_bits s (m ++ piece) (8 * length m + count)
unfolding add_bits
add_behind s m piece count =
    let n : (8 * length m + count) / 8 ≡ length m + count / 8 = omega arith in
    let r : (8 * length m + count) % 8 ≡ count % 8 = omega arith in
    ap (λ (t : Session). add_part t (get_or piece (count / 8) 0) (count % 8)) (add_pieces s m (take (count / 8) piece))
    ∙ sym (rw (r, n, take-append-add m piece (count / 8), get_or-append-add m piece (count / 8) 0) refl)

-- ---- the bits of a message, added to an opened session

module _ (mode : Mode) (h : ℕ) (salt : List ℕ) where
  -- what it holds before anything is added
  pub opened_mode : (opened mode h salt).mode ≡ mode
  unfolding opened
  opened_mode = refl

  pub opened_bits : (opened mode h salt).bits ≡ h
  unfolding opened
  opened_bits = refl

  pub opened_taken : (opened mode h salt).taken ≡ 0
  unfolding opened
  opened_taken = refl

  -- the state from the initial chaining variable, behind no block
  unused : List ℕ
  unused = replicate (128 - chaining_size mode h) 0

  v : List ℕ
  v = initial (chaining_size mode h) h

  v_long : length v ≡ chaining_size mode h
  unfolding v initial
  v_long = length-tab (chaining_size mode h) _

  opened_is : opened mode h salt ≡ state_from mode h salt v unused 0 []
  unfolding opened v unused state_from chained iterate
  opened_is = rw (zero-div (block_size mode h), zero-mod (block_size mode h), mul-zero (block_size mode h))

  -- so many bits of m
  module _ (m : List ℕ) (count : ℕ) (S : Sized m count) where
    abbrev whole : List ℕ
    whole = take (count / 8) m

    abbrev last : ℕ
    last = get_or m (count / 8) 0

    bits_state : add_bits (opened mode h salt) m count ≡ state_with mode h salt v unused 0 whole last (count % 8)
    unfolding add_bits
    bits_state =
        ap (λ (s : Session). add_part (add_bytes s whole) last (count % 8)) opened_is
        ∙ ap (λ (s : Session). add_part s last (count % 8)) (add_more mode h salt v unused 0 v_long [] whole)
        ∙ add_part_lem mode h salt v unused 0 v_long whole last (count % 8) (piece_part m count S)

    counted : 8 * (block_size mode h * 0 + length whole) + count % 8 ≡ count
    counted = omega (arith, mul-zero (block_size mode h), length-take-le (count / 8) m (omega (arith, S.size)))

    pub bits_length : (add_bits (opened mode h salt) m count).bits ≡ h
    unfolding state_with
    bits_length = ap (λ (s : Session). s.bits) bits_state

    pub bits_is_session : admitted h ≡ true → count ≤ bit_limit → is_session (add_bits (opened mode h salt) m count) ≡ true
    unfolding unused
    bits_is_session a l =
        ap is_session bits_state
        ∙ state_is_session mode h salt v unused 0 v_long whole last (count % 8) (piece_part m count S) a (omega (arith, counted))
        (zeros_are_zero (128 - chaining_size mode h))

    -- what is read is the paper's digest
    pub bits_digest : session_digest (add_bits (opened mode h salt) m count) ≡ bit_digest_of mode h salt (take count (bits_of m))
    unfolding session_digest bit_digest_of digest pad state_with v
    bits_digest =
        ap session_digest bits_state
        ∙ ap (take (h / 8))
        (state_final mode h salt v unused 0 v_long whole last (count % 8) (piece_part m count S) count (sym counted)
        ∙ ap
        (λ (l : List ℕ). iterate c (round_count mode c) salt v (block b (packed (l ++ padding (8 * b) h count))) (λ i. counter_at (8 * b) count (0 + i))
        (block_count (8 * b) count - 0))
        (sym (piece_bits m count S))
        ∙ ap (iterate c (round_count mode c) salt v (block b (packed (take count (bits_of m) ++ padding (8 * b) h count)))
        (λ i. counter_at (8 * b) count (0 + i)))
        (omega arith)
        ∙ iterate_ext c (round_count mode c) salt v _ _ _ _ _ (λ i l. refl) (λ i l. ap (counter_at (8 * b) count) (zero-add i))
        ∙ ap
        (λ (L : ℕ). iterate c (round_count mode c) salt v (block b (packed (take count (bits_of m) ++ padding (8 * b) h L))) (counter_at (8 * b) L)
        (block_count (8 * b) L))
        (sym long))
      where
        b : ℕ
        b = block_size mode h

        c : ℕ
        c = chaining_size mode h

        long : length (take count (bits_of m)) ≡ count
        long = length-take-le count (bits_of m) (omega (arith, length-bits m, S.size))

  -- all of its bytes
  pub added_taken : (m : List ℕ) → (add_bytes (opened mode h salt) m).taken ≡ 8 * length m
  added_taken m = omega (arith, add_counts (opened mode h salt) m, opened_taken)

  pub added_bits : (m : List ℕ) → (add_bytes (opened mode h salt) m).bits ≡ h
  added_bits m = (add_keeps (opened mode h salt) m).0 ∙ opened_bits

  pub added_is_session : (m : List ℕ) → admitted h ≡ true → length m ≤ limit → is_session (add_bytes (opened mode h salt) m) ≡ true
  added_is_session m a l =
      ap is_session (sym (add_whole (opened mode h salt) m)) ∙ bits_is_session m (8 * length m) (whole_sized m) a (omega arith)

  pub opened_is_session : admitted h ≡ true → is_session (opened mode h salt) ≡ true
  opened_is_session a = ap is_session (sym (add_nothing (opened mode h salt))) ∙ added_is_session [] a (omega arith)

  pub opened_digest : (m : List ℕ) → session_digest (add_bytes (opened mode h salt) m) ≡ digest_of mode h salt m
  unfolding digest_of
  opened_digest m =
      ap session_digest (sym (add_whole (opened mode h salt) m))
      ∙ bits_digest m (8 * length m) (whole_sized m)
      ∙ ap (bit_digest_of mode h salt) (whole_taken m)
