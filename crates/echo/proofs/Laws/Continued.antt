-- Every record that is a session, whether an opening made it or not: adding and reading continue the paper's iteration from its chaining value
-- and its count. Assumes nothing.
use Rattle.std.proofs.Common.{◌≡◌, ℕ, suc, ◌+◌, ◌-◌, ◌*◌, ◌/◌, ◌%◌, ◌<◌, ◌≤◌, Bool, true, false, not, ◌&&◌, eqb, List, ◌∷◌, ◌++◌, length, get_or, take, drop, replicate, sym, refl, ap, ◌∙◌, subst, ap₂, true≢false, append_assoc, append-nil, mod-lt, mod-eq_of_lt, mul-zero, arith, length-append, length-drop, take-append-drop, length-take-le, eqb-true}
use native.Mathlib.Nat.{div-add-mod, div-eq_of_lt}
use lib.Seq.{split_at}
use Rattle.echo.specs.declared.mode.Mode.{Mode}
use Rattle.echo.specs.Answers.{Answer}
use Rattle.echo.specs.declared.session.Session.{Session}
use Rattle.echo.specs.Bits.{bits_of, byte_bits, packed}
use Rattle.echo.specs.Digest.{block, block_count, counter_at, iterate}
use Rattle.echo.specs.Families.{block_size, chaining_size, round_count}
use Rattle.echo.specs.Padding.{padding}
use Rattle.echo.specs.Session.{add_bits, add_bits_answer, add_bytes, add_part, final_chaining, is_session, read_answer, read_leaves, session_digest}
use Rattle.echo.proofs.Laws.Bits.{Part, bits_append, no_bits, piece_bits, piece_part, take_part}
use Rattle.echo.proofs.Laws.Counting.{bits_div, bits_mod}
use Rattle.echo.proofs.Laws.Ends.{part_is, zero_after}
use Rattle.echo.proofs.Laws.Families.{block_pos, digest_in_chaining, sizes}
use Rattle.echo.proofs.Laws.Sessions.{Addable, SessionFits, added, left_0, nothing_refused, read_0, session_fits}
use Rattle.echo.proofs.Laws.Stream.{length_turns, one_left}
use Rattle.echo.proofs.Laws.States.{add_more, add_part_lem, chained, made_eq, no_part, state_final, state_is_session, state_from, state_with}
use Rattle.echo.proofs.Laws.Zeros.{zeros_only}

pub session_digest_long : (s : Session) → s.bits ≤ 512 → length (session_digest s) ≡ s.bits / 8
unfolding session_digest final_chaining
session_digest_long s most =
    let c = chaining_size s.mode s.bits in
    let b = block_size s.mode s.bits in
    let pos : 0 < 8 * b = omega (arith, block_pos s.mode s.bits) in
    let some = one_left (8 * b) pos s.taken in
    length-take-le (s.bits / 8) _ (rw (length_turns c (round_count s.mode c) s.salt _ _ _ _ some) (digest_in_chaining s.mode s.bits most))

module _ (s : Session) (is : is_session s ≡ true) (lc : length s.chaining ≡ 128) (lw : length s.waiting ≡ 224) where
  abbrev mode : Mode
  mode = s.mode

  abbrev h : ℕ
  h = s.bits

  abbrev b : ℕ
  b = block_size mode h

  abbrev c : ℕ
  c = chaining_size mode h

  -- the whole bytes that wait
  abbrev at : ℕ
  at = s.taken / 8 % b

  -- the blocks that were taken, the chaining variable behind them, the bytes that wait, and the part byte behind those
  abbrev q : ℕ
  q = s.taken / 8 / b

  abbrev v : List ℕ
  v = take c s.chaining

  abbrev waits : List ℕ
  waits = take at s.waiting

  abbrev own : ℕ
  own = get_or s.waiting at 0

  abbrev rest : List ℕ
  rest = drop c s.chaining

  fits : SessionFits s
  fits = session_fits s is

  few : at < b
  few = mod-lt (s.taken / 8) (block_pos mode h)

  within : at < 224
  within = let F = sizes mode h in omega (arith, few)

  v_long : length v ≡ c
  v_long = let F = sizes mode h in length-take-le c s.chaining (omega arith)

  waits_long : length waits ≡ at
  waits_long = length-take-le at s.waiting (omega (arith, within))

  counted : 8 * (b * q + length waits) + s.taken % 8 ≡ s.taken
  counted = omega (arith, waits_long, div-add-mod (s.taken / 8) b)

  own_part : Part own (s.taken % 8)
  own_part = part_is mode h s.taken s.waiting lw fits.waiting_zero

  -- the record is the state of its waiting bits
  is_state : s ≡ state_with mode h s.salt v rest q waits own (s.taken % 8)
  unfolding state_with chained iterate
  is_state = sym (made_eq chains counted waiting_is)
    where
      none : length waits / b ≡ 0
      none = ap (λ (n : ℕ). n / b) waits_long ∙ div-eq_of_lt few

      left : length waits % b ≡ at
      left = ap (λ (n : ℕ). n % b) waits_long ∙ mod-eq_of_lt few

      chains : chained mode h s.salt v rest q waits (length waits / b) ++ rest ≡ s.chaining
      chains = ap (λ (t : ℕ). chained mode h s.salt v rest q waits t ++ rest) none ∙ take-append-drop c s.chaining

      zeros : replicate (223 - at) 0 ≡ drop (suc at) s.waiting
      zeros =
          let e : 223 - at ≡ length (drop (suc at) s.waiting) = omega (arith, length-drop (suc at) s.waiting) in
          ap (λ (n : ℕ). replicate n 0) e ∙ sym (zeros_only (drop (suc at) s.waiting) (zero_after mode h s.taken s.waiting lw fits.waiting_zero))

      waiting_is : drop (b * (length waits / b)) waits ++ (own ∷ replicate (223 - length waits % b) 0) ≡ s.waiting
      waiting_is =
          ap₂ (λ (t k : ℕ). drop (b * t) waits ++ (own ∷ replicate (223 - k) 0)) none left
          ∙ ap₂ (λ (k : ℕ) (l : List ℕ). drop k waits ++ (own ∷ l)) (mul-zero b) zeros
          ∙ sym (split_at s.waiting at 0 (omega (arith, within)))

  -- its waiting bits
  abbrev own_bits : List ℕ
  own_bits = take (s.taken % (8 * b)) (bits_of s.waiting)

  own_bits_are : bits_of waits ++ take (s.taken % 8) (byte_bits own) ≡ own_bits
  own_bits_are =
      sym (ap (λ (n : ℕ). take n (bits_of s.waiting)) (bits_mod b (block_pos mode h) s.taken)
      ∙ take_part s.waiting at (s.taken % 8) (omega (arith, within)) (omega arith))

  -- the bits of m and of a part byte are those of the record with so many bits of a piece behind them, and t is the state that they lead to
  record Behind (piece : List ℕ) (count : ℕ) (t : Session) : Type 0 where
    m : List ℕ
    x : ℕ
    r : ℕ
    part : Part x r
    bits : bits_of m ++ take r (byte_bits x) ≡ own_bits ++ take count (bits_of piece)
    sum : s.taken + count ≡ 8 * (b * q + length m) + r
    state : t ≡ state_with mode h s.salt v rest q m x r

  module _ (piece : List ℕ) (count : ℕ) (A : Addable s piece count) where
    -- behind whole bytes
    behind_whole : s.taken % 8 ≡ 0 → Behind piece count (add_bits s piece count)
    unfolding add_bits
    behind_whole whole = record {
      m = waits ++ take (count / 8) piece;
      x = get_or piece (count / 8) 0;
      r = count % 8;
      part = piece_part piece count A.sized;
      bits =
          ap (λ (l : List ℕ). l ++ take (count % 8) (byte_bits (get_or piece (count / 8) 0))) (bits_append waits (take (count / 8) piece))
          ∙ append_assoc (bits_of waits) (bits_of (take (count / 8) piece)) _
          ∙ ap₂ (λ (l k : List ℕ). l ++ k) plain (sym (piece_bits piece count A.sized));
      sum = omega (arith, counted, length-append waits (take (count / 8) piece), length-take-le (count / 8) piece (omega (arith, A.sized.size)));
      state =
          ap (λ (t : Session). add_part (add_bytes t (take (count / 8) piece)) (get_or piece (count / 8) 0) (count % 8)) whole_state
          ∙ ap (λ (t : Session). add_part t (get_or piece (count / 8) 0) (count % 8))
          (add_more mode h s.salt v rest q v_long waits (take (count / 8) piece))
          ∙ add_part_lem mode h s.salt v rest q v_long (waits ++ take (count / 8) piece) (get_or piece (count / 8) 0) (count % 8)
          (piece_part piece count A.sized);
    }
      where
        plain : bits_of waits ≡ own_bits
        plain = sym (append-nil (bits_of waits)) ∙ sym (ap (λ (k : ℕ). bits_of waits ++ take k (byte_bits own)) whole) ∙ own_bits_are

        nothing : own ≡ 0
        nothing = no_bits own (subst (λ (k : ℕ). Part own k) whole own_part)

        whole_state : s ≡ state_from mode h s.salt v rest q waits
        whole_state =
            is_state ∙ ap₂ (state_with mode h s.salt v rest q waits) nothing whole ∙ sym (no_part mode h s.salt v rest q v_long waits)

    -- behind a part byte, where the piece is empty
    behind_part_lem : count ≡ 0 → Behind piece count (add_bits s piece count)
    unfolding add_bits add_part add_bytes
    behind_part_lem none = record {
      m = waits;
      x = own;
      r = s.taken % 8;
      part = own_part;
      bits = own_bits_are ∙ sym (ap (λ (k : ℕ). own_bits ++ take k (bits_of piece)) none ∙ append-nil own_bits);
      sum = omega (arith, counted, none);
      state = ap (λ (k : ℕ). add_bits s piece k) none ∙ is_state;
    }

    behind : Behind piece count (add_bits s piece count)
    behind = by (eqb (s.taken % 8) 0) (eqb count 0) refl refl
      where
        by : (a o : Bool) → eqb (s.taken % 8) 0 ≡ a → eqb count 0 ≡ o → Behind piece count (add_bits s piece count)
        by true o p r = behind_whole (eqb-true (s.taken % 8) 0 p)
        by false true p r = behind_part_lem (eqb-true count 0 r)
        by false false p r = absurd (true≢false (sym (ap₂ (λ (x y : Bool). not x && not y) p r) ∙ A.ends))

    abbrev n : ℕ
    n = s.taken + count

    continued_is_session : is_session (add_bits s piece count) ≡ true
    continued_is_session =
        let B = behind in
        ap is_session B.state
        ∙ state_is_session mode h s.salt v rest q v_long B.m B.x B.r B.part fits.admits (omega (arith, B.sum, A.fits)) fits.chaining_zero

    -- the paper's iteration from the record, over its waiting bits, those of the piece and the padding
    abbrev final : List ℕ
    final =
        iterate c (round_count mode c) s.salt v (block b (packed (own_bits ++ (take count (bits_of piece) ++ padding (8 * b) h n))))
        (λ i. counter_at (8 * b) n (s.taken / (8 * b) + i)) (block_count (8 * b) n - s.taken / (8 * b))

    pub continued_digest : session_digest (add_bits s piece count) ≡ take (h / 8) final
    unfolding session_digest state_with
    continued_digest =
        let B = behind in
        ap session_digest B.state
        ∙ ap (take (h / 8))
        (state_final mode h s.salt v rest q v_long B.m B.x B.r B.part n B.sum
        ∙ ap₂
        (λ (l : List ℕ) (k : ℕ).
        iterate c (round_count mode c) s.salt v (block b (packed l)) (λ i. counter_at (8 * b) n (k + i)) (block_count (8 * b) n - k))
        (ap (λ (l : List ℕ). l ++ padding (8 * b) h n) B.bits ∙ append_assoc own_bits (take count (bits_of piece)) (padding (8 * b) h n))
        (sym (bits_div b (block_pos mode h) s.taken)))

    bits_stay : (add_bits s piece count).bits ≡ h
    unfolding state_with
    bits_stay = ap (λ (t : Session). t.bits) behind.state

    is_added : add_bits_answer s piece count ≡ record { refusal = 0; session = add_bits s piece count }
    is_added = sym (added s piece count (sym (nothing_refused s piece count A)) (add_bits s piece count) refl)

    pub continues : (room : List ℕ) → h / 8 ≤ length room
        → ((add_bits_answer s piece count).refusal ≡ 0)
        × (is_session (add_bits_answer s piece count).session ≡ true)
        × ((read_answer (add_bits_answer s piece count).session (length room)).refusal ≡ 0)
        × (read_leaves (add_bits_answer s piece count).session room ≡ take (h / 8) final ++ drop (h / 8) room)
    continues room l =
        let r = take (h / 8) final ++ drop (h / 8) room in
        let one = sym continued_is_session in
        let enough : (add_bits s piece count).bits / 8 ≤ length room = rw bits_stay l in
        let answers = read_0 (add_bits s piece count) room true one refl enough in
        let leaves = left_0 (add_bits s piece count) room true one refl enough r (rw (continued_digest, bits_stay) refl) in (
          ap (λ (x : Answer). x.refusal) is_added,
          ap (λ (x : Answer). is_session x.session) is_added ∙ continued_is_session,
          ap (λ (x : Answer). (read_answer x.session (length room)).refusal) is_added ∙ ap (λ (x : Answer). x.refusal) (sym answers),
          ap (λ (x : Answer). read_leaves x.session room) is_added ∙ sym leaves,
        )
