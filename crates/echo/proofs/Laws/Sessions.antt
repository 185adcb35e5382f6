-- Laws of the session's definitions, over plain records. Assumes nothing.
use Rattle.std.proofs.Common.{◌≡◌, ℕ, ◌+◌, ◌-◌, ◌*◌, ◌/◌, ◌%◌, ◌<◌, ◌≤◌, Bool, true, false, not, ◌&&◌, eqb, ltb, leb, ◌⊎◌, inl, inr, List, [], ◌∷◌, ◌++◌, length, get_or, take, drop, replicate, sym, refl, ap, ◌∙◌, ap₂, subst, arith, take-append-drop, length-take-le, ltb-false, le-ltb, lt-ltb, eq-eqb, ne_eqb, eqb-true, le-leb, leb-true, leb-false, min, ◌^◌}
use Rattle.std.proofs.Math.Nat.{min-eq_left, min-eq_right}
use borrow.Author.Tests.{lt-leb, not-false, not-true}
use lib.Seq.{take-append-le}
use Rattle.aes_round.specs.Bytes.{tab}
use Rattle.echo.specs.declared.mode.Mode.{Mode}
use Rattle.echo.specs.declared.refusal.Refusal.{Refusal}
use Rattle.echo.specs.declared.refusal.Refusal.TheVariants.{NoSession, TooLong}
use Rattle.echo.specs.Answers.{Answer, number_of}
use Rattle.echo.specs.declared.session.Session.{Session}
use Rattle.echo.specs.Bits.{bits_of}
use Rattle.echo.specs.Digest.{initial}
use Rattle.echo.specs.Families.{block_size, chaining_size}
use Rattle.echo.specs.Placed.{Placed}
use Rattle.echo.specs.Refusals.{◌when◌}
use Rattle.echo.specs.Session.{add_answer, add_bits, add_bits_answer, add_bits_refusal, admitted, all_zero, bit_limit, blank, final_chaining, is_session}
use Rattle.echo.specs.Session.{made, open_answer, open_refusal, opened, read_answer, read_leaves, read_refusal, session_digest}
use Rattle.echo.proofs.Laws.Bits.{Sized}
use Rattle.echo.proofs.Laws.Families.{digest_in_chaining, sizes}
use Rattle.echo.proofs.Laws.Placed.{placed_front}
use Rattle.echo.proofs.Laws.Refusals.{none_first, refused}
use Rattle.echo.proofs.Laws.Words.{sixteen_are}
use Rattle.echo.proofs.Laws.Admitted.{admitted_means}
use Rattle.echo.proofs.Laws.Zeros.{both}

-- ---- which records are sessions: the answers of is_session, by the tests a, w and v that the code made

module _ (s : Session) (a : Bool) (e : a ≡ admitted s.bits) where
  pub is_out : (a ≡ false) ⊎ ((a ≡ true) × (bit_limit < s.taken)) → false ≡ is_session s
  unfolding is_session
  is_out (inl fails) = rw (← e, fails)
  is_out (inr (holds, n)) = rw (← e, holds, lt-leb s.taken bit_limit n)

  module _ (holds : not a ≡ false) where
    module _ (n : s.taken ≤ bit_limit) (b : ℕ) (size : b ≡ block_size s.mode s.bits) (w : Bool)
        (z : w ≡ all_zero (drop (s.taken % (8 * b)) (bits_of s.waiting))) where
      rest_is : w ≡ all_zero (drop (s.taken % (8 * block_size s.mode s.bits)) (bits_of s.waiting))
      rest_is = z ∙ ap (λ (x : ℕ). all_zero (drop (s.taken % (8 * x)) (bits_of s.waiting))) size

      pub is_not_clear : w ≡ false → w ≡ is_session s
      unfolding is_session
      is_not_clear fails = fails ∙ rw (← e, not-false a holds, le-leb s.taken bit_limit n, ← rest_is, fails)

      pub is_clear : w ≡ true → (c : ℕ) (v : Bool) → v ≡ all_zero (drop c s.chaining) → c ≡ chaining_size s.mode s.bits → v ≡ is_session s
      unfolding is_session
      is_clear clear c v q p =
          rw (← e, not-false a holds, le-leb s.taken bit_limit n, ← rest_is, clear)
          (q ∙ ap (λ (x : ℕ). all_zero (drop x s.chaining)) p)

pub record SessionFits (s : Session) : Type 0 where
  pub admits : admitted s.bits ≡ true
  pub taken_fits : s.taken ≤ bit_limit
  pub waiting_zero : all_zero (drop (s.taken % (8 * block_size s.mode s.bits)) (bits_of s.waiting)) ≡ true
  pub chaining_zero : all_zero (drop (chaining_size s.mode s.bits) s.chaining) ≡ true

pub session_fits : (s : Session) → is_session s ≡ true → SessionFits s
unfolding is_session
session_fits s e =
    let p = both (admitted s.bits) _ e in
    let q = both (leb s.taken bit_limit) _ p.1 in
    let r = both (all_zero (drop (s.taken % (8 * block_size s.mode s.bits)) (bits_of s.waiting))) _ q.1 in
    record { admits = p.0; taken_fits = leb-true s.taken bit_limit q.0; waiting_zero = r.0; chaining_zero = r.1 }

pub session_admits : (s : Session) → is_session s ≡ true → admitted s.bits ≡ true
session_admits s e = (session_fits s e).admits

-- what code that found a session by the test a knows of it
module _ (s : Session) (a : Bool) (e : a ≡ is_session s) (holds : not a ≡ false) where
  is_one : is_session s ≡ true
  is_one = sym e ∙ not-false a holds

  fits : SessionFits s
  fits = session_fits s is_one

  pub bits_most : s.bits ≤ 512
  bits_most = (admitted_means s.bits fits.admits).1

  pub taken_most : s.taken ≤ bit_limit
  taken_most = fits.taken_fits

  pub rest_zero : all_zero (drop (s.taken % (8 * block_size s.mode s.bits)) (bits_of s.waiting)) ≡ true
  rest_zero = fits.waiting_zero

-- ---- what adding so many bits of a piece is refused for, by the tests a, t and z that the code made

module _ (s : Session) (piece : List ℕ) (count : ℕ) (a : Bool) (e : a ≡ is_session s) where
  pub add_3 : not a ≡ true → 3 ≡ add_bits_refusal s piece count
  unfolding add_bits_refusal
  add_3 fails = simp (sym e ∙ not-true a fails)

  module _ (holds : not a ≡ false) where
    pub add_4 : bit_limit - s.taken < count → 4 ≡ add_bits_refusal s piece count
    unfolding add_bits_refusal
    add_4 n = simp (is_one s a e holds, lt-ltb bit_limit (s.taken + count) (omega (arith, taken_most s a e holds)))

    module _ (n : count ≤ bit_limit - s.taken) where
      room : s.taken + count ≤ bit_limit
      room = omega (arith, taken_most s a e holds)

      pub add_6 : (length piece ≡ (count + 7) / 8 → ⊥) → 6 ≡ add_bits_refusal s piece count
      unfolding add_bits_refusal
      add_6 l = simp (is_one s a e holds, le-ltb bit_limit (s.taken + count) room, ne_eqb (length piece) ((count + 7) / 8) l)

      module _ (l : length piece ≡ (count + 7) / 8) (t : Bool) (f : t ≡ (not (eqb (s.taken % 8) 0) && not (eqb count 0))) where
        pub add_16 : t ≡ true → 16 ≡ add_bits_refusal s piece count
        unfolding add_bits_refusal
        add_16 b = simp (is_one s a e holds, le-ltb bit_limit (s.taken + count) room, eq-eqb (length piece) ((count + 7) / 8) l, sym f ∙ b)

        module _ (b : t ≡ false) (z : Bool) (g : z ≡ all_zero (drop count (bits_of piece))) where
          pub add_17 : not z ≡ true → 17 ≡ add_bits_refusal s piece count
          unfolding add_bits_refusal
          add_17 c =
              simp (
                is_one s a e holds,
                le-ltb bit_limit (s.taken + count) room,
                eq-eqb (length piece) ((count + 7) / 8) l,
                sym f ∙ b,
                sym g ∙ not-true z c,
              )

          pub add_0 : not z ≡ false → 0 ≡ add_bits_refusal s piece count
          unfolding add_bits_refusal
          add_0 c =
              simp (
                is_one s a e holds,
                le-ltb bit_limit (s.taken + count) room,
                eq-eqb (length piece) ((count + 7) / 8) l,
                sym f ∙ b,
                sym g ∙ not-false z c,
              )

-- nothing: what is known of session and piece then
pub record Addable (s : Session) (piece : List ℕ) (count : ℕ) : Type 0 where
  pub is : is_session s ≡ true
  pub fits : s.taken + count ≤ bit_limit
  pub sized : Sized piece count
  pub ends : (not (eqb (s.taken % 8) 0) && not (eqb count 0)) ≡ false

module _ (s : Session) (piece : List ℕ) (count : ℕ) where
  pub addable : add_bits_refusal s piece count ≡ 0 → Addable s piece count
  unfolding add_bits_refusal
  addable e =
      let behind = not (eqb (s.taken % 8) 0) && not (eqb count 0) in
      let set = not (all_zero (drop count (bits_of piece))) in
      let size = not (eqb (length piece) ((count + 7) / 8)) in
      let long = ltb bit_limit (s.taken + count) in
      let p =
      none_first 3 (not (is_session s)) ((4 when long) ∷ (6 when size) ∷ (16 when behind) ∷ (17 when set) ∷ []) (λ z. omega arith) e in
      let q = none_first 4 long ((6 when size) ∷ (16 when behind) ∷ (17 when set) ∷ []) (λ z. omega arith) p.1 in
      let r = none_first 6 size ((16 when behind) ∷ (17 when set) ∷ []) (λ z. omega arith) q.1 in
      let t = none_first 16 behind ((17 when set) ∷ []) (λ z. omega arith) r.1 in
      let u = none_first 17 set [] (λ z. omega arith) t.1 in
      record {
        is = not-false (is_session s) p.0;
        fits = ltb-false bit_limit (s.taken + count) q.0;
        sized =
            record {
              size = eqb-true (length piece) ((count + 7) / 8) (not-false (eqb (length piece) ((count + 7) / 8)) r.0);
              clear = not-false (all_zero (drop count (bits_of piece))) u.0;
            };
        ends = t.0;
      }

  pub nothing_refused : Addable s piece count → add_bits_refusal s piece count ≡ 0
  nothing_refused A =
      let most = (session_fits s A.is).taken_fits in
      let fits : count ≤ bit_limit - s.taken = omega (arith, A.fits) in
      sym (add_0 s piece count true (sym A.is) refl fits A.sized.size false (sym A.ends) refl true (sym A.sized.clear) refl)

-- what the code answers: a refusal p, or none
module _ (s : Session) (piece : List ℕ) (count : ℕ) where
  pub not_added : (p : Refusal) → number_of p ≡ add_bits_refusal s piece count
      → ◌≡◌ {A = Answer} (record { refusal = number_of p; session = s }) (add_bits_answer s piece count)
  unfolding add_bits_answer
  not_added p e = ap₂ (λ (k : ℕ) (t : Session). record { refusal = k; session = t }) e (refused p _ (add_bits s piece count) s e)

  module _ (none : 0 ≡ add_bits_refusal s piece count) where
    able : Addable s piece count
    able = addable s piece count (sym none)

    pub adds : s.taken + count ≤ bit_limit
    adds = able.fits

    pub bytes_are : length piece ≡ (count + 7) / 8
    bytes_are = able.sized.size

    pub added : (t : Session) → t ≡ add_bits s piece count → ◌≡◌ {A = Answer} (record { refusal = 0; session = t }) (add_bits_answer s piece count)
    unfolding add_bits_answer
    added t d = rw (← none, d)

-- more bits than any session has are refused alike, however many they are
too_many_alike : (s : Session) (piece : List ℕ) (m n : ℕ) → bit_limit < m → bit_limit < n → add_bits_answer s piece m ≡ add_bits_answer s piece n
too_many_alike s piece m n p q = by (is_session s) refl
  where
    by : (a : Bool) → a ≡ is_session s → add_bits_answer s piece m ≡ add_bits_answer s piece n
    by false e = sym (not_added s piece m NoSession (add_3 s piece m false e refl)) ∙ not_added s piece n NoSession (add_3 s piece n false e refl)
    by true e =
        sym (not_added s piece m TooLong (add_4 s piece m true e refl (omega (arith, p))))
        ∙ not_added s piece n TooLong (add_4 s piece n true e refl (omega (arith, q)))

-- eight bits for each byte of a piece, as far as 64 bits count
pub counted : (s : Session) (piece : List ℕ) (n : ℕ) → n ≡ min (length piece * 8) (2 ^ 64 - 1) → (r : Answer) → r ≡ add_bits_answer s piece n
    → r ≡ add_answer s piece
unfolding add_answer
counted s piece n e r d = d ∙ by (leb (length piece * 8) (2 ^ 64 - 1)) refl
  where
    by : (b : Bool) → leb (length piece * 8) (2 ^ 64 - 1) ≡ b → add_bits_answer s piece n ≡ add_bits_answer s piece (8 * length piece)
    by true p = ap (add_bits_answer s piece) (omega (arith, e ∙ min-eq_left (leb-true _ _ p)))
    by false p = too_many_alike s piece n (8 * length piece) (omega (arith, e ∙ min-eq_right (omega (arith, leb-false _ _ p)))) (omega (arith, leb-false _ _ p))

-- ---- opening

module _ (mode : Mode) (h : ℕ) (salt : List ℕ) (a : Bool) (e : a ≡ admitted h) where
  pub open_1 : not a ≡ true → (s : Session) → s ≡ blank → ◌≡◌ {A = Answer} (record { refusal = 1; session = s }) (open_answer mode h salt)
  unfolding open_answer open_refusal
  open_1 fails s b = rw (← e, not-true a fails, b)

  module _ (holds : not a ≡ false) where
    pub admitted_most : h ≤ 512
    admitted_most = (admitted_means h (sym e ∙ not-false a holds)).1

    pub open_2 : (length salt ≡ 16 → ⊥) → (s : Session) → s ≡ blank → ◌≡◌ {A = Answer} (record { refusal = 2; session = s }) (open_answer mode h salt)
    unfolding open_answer open_refusal
    open_2 l s b = rw (← e, not-false a holds, ne_eqb (length salt) 16 l, b)

    pub open_0 : length salt ≡ 16 → (own v : List ℕ) → own ≡ tab 16 (λ k. get_or salt (0 + k) 0)
        → v ≡ initial (chaining_size mode h) h ++ replicate (128 - chaining_size mode h) 0
        → ◌≡◌ {A = Answer} (record { refusal = 0; session = made mode h own v 0 (replicate 224 0) }) (open_answer mode h salt)
    unfolding open_answer open_refusal opened
    open_0 l own v o c = rw (← e, not-false a holds, eq-eqb (length salt) 16 l, o ∙ sixteen_are salt l, c)

-- ---- reading

-- the first n bytes of the chaining room are those of the chaining variable
cut : (s : Session) (v : List ℕ) → length v ≡ 128 → s.bits ≤ 512 → take (chaining_size s.mode s.bits) v ≡ final_chaining s
    → take (s.bits / 8) v ≡ session_digest s
unfolding session_digest
cut s v l h e =
    let S = sizes s.mode s.bits in
    let within = digest_in_chaining s.mode s.bits h in
    ap (take (s.bits / 8)) (sym (take-append-drop (chaining_size s.mode s.bits) v))
    ∙ take-append-le (s.bits / 8) (take (chaining_size s.mode s.bits) v) (drop (chaining_size s.mode s.bits) v)
    (omega (arith, length-take-le (chaining_size s.mode s.bits) v (omega arith)))
    ∙ ap (take (s.bits / 8)) e

module _ (s : Session) (room : List ℕ) (a : Bool) (e : a ≡ is_session s) where
  pub read_3 : not a ≡ true → ◌≡◌ {A = Answer} (record { refusal = 3; session = s }) (read_answer s (length room))
  unfolding read_answer read_refusal
  read_3 fails = rw (← e, not-true a fails)

  pub left_3 : not a ≡ true → room ≡ read_leaves s room
  unfolding read_leaves read_refusal
  left_3 fails = rw (← e, not-true a fails)

  module _ (holds : not a ≡ false) where
    pub read_5 : length room < s.bits / 8 → ◌≡◌ {A = Answer} (record { refusal = 5; session = s }) (read_answer s (length room))
    unfolding read_answer read_refusal
    read_5 l = rw (← e, not-false a holds, lt-ltb (length room) (s.bits / 8) l)

    pub left_5 : length room < s.bits / 8 → room ≡ read_leaves s room
    unfolding read_leaves read_refusal
    left_5 l = rw (← e, not-false a holds, lt-ltb (length room) (s.bits / 8) l)

    pub read_0 : s.bits / 8 ≤ length room → ◌≡◌ {A = Answer} (record { refusal = 0; session = s }) (read_answer s (length room))
    unfolding read_answer read_refusal
    read_0 l = rw (← e, not-false a holds, le-ltb (length room) (s.bits / 8) l)

    pub left_0 : s.bits / 8 ≤ length room → (r : List ℕ) → r ≡ session_digest s ++ drop (s.bits / 8) room → r ≡ read_leaves s room
    unfolding read_leaves read_refusal
    left_0 l r d = rw (← e, not-false a holds, le-ltb (length room) (s.bits / 8) l) d

    -- v is the chaining room when the last blocks are taken: its front is the digest
    module _ (v : List ℕ) (long : length v ≡ 128) where
      pub digest_within : s.bits / 8 ≤ length v
      digest_within = omega (arith, bits_most s a e holds)

      pub digest_long : s.bits / 8 ≡ length (take (s.bits / 8) v)
      digest_long = sym (length-take-le (s.bits / 8) v digest_within)

      module _ (l : s.bits / 8 ≤ length room) where
        pub digest_fits : 0 + length (take (s.bits / 8) v) ≤ length room
        digest_fits = omega (arith, digest_long)

        pub left_digest : (r : List ℕ) → Placed room 0 (take (s.bits / 8) v) (length (take (s.bits / 8) v)) r
            → take (chaining_size s.mode s.bits) v ≡ final_chaining s → r ≡ read_leaves s room
        left_digest r P f =
            left_0 l r
            (placed_front room (take (s.bits / 8) v) r (s.bits / 8) (sym digest_long) l
            (subst (λ (k : ℕ). Placed room 0 (take (s.bits / 8) v) k r) (sym digest_long) P)
            ∙ ap (λ (d : List ℕ). d ++ drop (s.bits / 8) room) (cut s v long (bits_most s a e holds) f))
