-- A session as a plain list of the bits added: what opening, adding and reading answer on it. Assumes nothing.
use Rattle.std.proofs.Common.{◌≡◌, ℕ, ◌+◌, ◌*◌, ◌/◌, ◌%◌, ◌<◌, ◌≤◌, Bool, true, not, ◌&&◌, eqb, List, [], ◌∷◌, ◌++◌, length, take, drop, sym, refl, ap, ◌∙◌, zero-add, arith, length-append, eq-eqb}
use Rattle.echo.specs.declared.mode.Mode.{Mode}
use Rattle.echo.specs.declared.refusal.Refusal.TheVariants.{TooLong}
use Rattle.echo.specs.Answers.{Answer}
use Rattle.echo.specs.declared.session.Session.{Session}
use Rattle.echo.specs.Bits.{bits_of}
use Rattle.echo.specs.Digest.{bit_digest_of, digest_of}
use Rattle.echo.specs.Pieces.{joined}
use Rattle.echo.specs.Refusals.{◌when◌, first_of, no_salt}
use Rattle.echo.specs.Session.{add_answer, add_bits, add_bits_answer, add_bytes, admitted, bit_limit, blank, is_session, limit, open_answer}
use Rattle.echo.specs.Session.{open_refusal, opened, read_answer, read_leaves, session_digest}
use Rattle.echo.proofs.Laws.Admitted.{admitted_means}
use Rattle.echo.proofs.Laws.Bits.{Sized, whole_sized, whole_taken}
use Rattle.echo.proofs.Laws.Continued.{session_digest_long}
use Rattle.echo.proofs.Laws.Opened.{add_behind, add_whole, added_bits, added_is_session, added_taken, bits_digest, bits_is_session, bits_length}
use Rattle.echo.proofs.Laws.Opened.{opened_digest}
use Rattle.echo.proofs.Laws.Sessions.{Addable, add_4, added, left_0, left_5, not_added, nothing_refused, open_0, read_0, read_5, session_fits}
use Rattle.echo.proofs.Laws.Words.{sixteen_are}

pub admitted_256 : admitted 256 ≡ true
unfolding admitted
admitted_256 = refl

-- ---- what pieces join to

pub joined_none : joined [] ≡ []
unfolding joined
joined_none = refl

pub joined_more : (piece : List ℕ) (pieces : List (List ℕ)) → joined (piece ∷ pieces) ≡ piece ++ joined pieces
unfolding joined
joined_more piece pieces = refl

pub joined_lengths : (xs ys : List (List ℕ)) → length (joined (xs ++ ys)) ≡ length (joined xs) + length (joined ys)
unfolding joined
joined_lengths [] ys = sym (zero-add (length (joined ys)))
joined_lengths (x ∷ xs) ys = omega (arith, length-append x (joined (xs ++ ys)), length-append x (joined xs), joined_lengths xs ys)

-- ---- openings that are refused

pub opening_number : (mode : Mode) (h : ℕ) (salt : List ℕ)
    → (open_answer mode h salt).refusal ≡ first_of ((1 when not (admitted h)) ∷ (2 when no_salt (length salt)) ∷ [])
unfolding open_answer open_refusal
opening_number mode h salt = refl

pub no_digest_of_0_bits : (mode : Mode) (salt : List ℕ) → (open_answer mode 0 salt).session ≡ blank
unfolding open_answer open_refusal admitted
no_digest_of_0_bits mode salt = refl

-- ---- any session that ends in a whole byte, and a piece of whole bytes

module _ (s : Session) (piece : List ℕ) (is : is_session s ≡ true) where
  pub takes_bytes : s.taken % 8 ≡ 0 → s.taken + 8 * length piece ≤ bit_limit
      → ◌≡◌ {A = Answer} (add_answer s piece) (record { refusal = 0; session = add_bytes s piece })
  unfolding add_answer
  takes_bytes whole fits =
      let able : Addable s piece (8 * length piece) =
      record {
        is = is;
        fits = fits;
        sized = whole_sized piece;
        ends = ap (λ (t : Bool). not t && not (eqb (8 * length piece) 0)) (eq-eqb (s.taken % 8) 0 whole);
      } in
      sym (added s piece (8 * length piece) (sym (nothing_refused s piece (8 * length piece) able)) _ (sym (add_whole s piece)))

  pub refuses_bytes : bit_limit < s.taken + 8 * length piece → ◌≡◌ {A = Answer} (add_answer s piece) (record { refusal = 4; session = s })
  unfolding add_answer
  refuses_bytes long =
      let few = (session_fits s is).taken_fits in
      sym (not_added s piece (8 * length piece) TooLong (add_4 s piece (8 * length piece) true (sym is) refl (omega (arith, few))))

-- ---- any session, read into any room

module _ (s : Session) (room : List ℕ) (is : is_session s ≡ true) where
  pub reads_room : s.bits / 8 ≤ length room
      → (◌≡◌ {A = Answer} (read_answer s (length room)) (record { refusal = 0; session = s }))
      × (read_leaves s room ≡ session_digest s ++ drop (s.bits / 8) room)
  reads_room l = (sym (read_0 s room true (sym is) refl l), sym (left_0 s room true (sym is) refl l _ refl))

  pub refuses_room : length room < s.bits / 8
      → (◌≡◌ {A = Answer} (read_answer s (length room)) (record { refusal = 5; session = s })) × (read_leaves s room ≡ room)
  refuses_room l = (sym (read_5 s room true (sym is) refl l), sym (left_5 s room true (sym is) refl l))

-- ---- the session that an opening hands out

module _ (mode : Mode) (h : ℕ) (salt : List ℕ) (a : admitted h ≡ true) where
  pub opens : length salt ≡ 16 → ◌≡◌ {A = Answer} (open_answer mode h salt) (record { refusal = 0; session = opened mode h salt })
  unfolding opened
  opens l = sym (open_0 mode h salt true (sym a) refl l salt _ (sym (sixteen_are salt l)) refl)

  -- so many bits behind whole bytes
  pub takes_bits : (m piece : List ℕ) (count : ℕ) → Sized piece count → 8 * length m + count ≤ bit_limit
      → ◌≡◌ {A = Answer} (add_bits_answer (add_bytes (opened mode h salt) m) piece count)
      (record { refusal = 0; session = add_bits (opened mode h salt) (m ++ piece) (8 * length m + count) })
  takes_bits m piece count S n =
      let s = add_bytes (opened mode h salt) m in
      let taken = added_taken mode h salt m in
      let whole : s.taken % 8 ≡ 0 = omega (arith, taken) in
      let able : Addable s piece count =
      record {
        is = added_is_session mode h salt m a (omega arith);
        fits = omega (arith, taken);
        sized = S;
        ends = ap (λ (t : Bool). not t && not (eqb count 0)) (eq-eqb (s.taken % 8) 0 whole);
      } in
      sym (added s piece count (sym (nothing_refused s piece count able)) _ (sym (add_behind (opened mode h salt) m piece count)))

  -- whole bytes
  pub takes : (m piece : List ℕ) → length m + length piece ≤ limit
      → ◌≡◌ {A = Answer} (add_answer (add_bytes (opened mode h salt) m) piece) (record { refusal = 0; session = add_bytes (opened mode h salt) (m ++ piece) })
  unfolding add_answer
  takes m piece n =
      let all : 8 * length m + 8 * length piece ≡ 8 * length (m ++ piece) = omega (arith, length-append m piece) in
      takes_bits m piece (8 * length piece) (whole_sized piece) (omega arith)
      ∙ ap (λ (s : Session). record { refusal = 0; session = s })
      (ap (add_bits (opened mode h salt) (m ++ piece)) all ∙ add_whole (opened mode h salt) (m ++ piece))

  -- so many bits of a message
  pub reads_bits : (m : List ℕ) (count : ℕ) (room : List ℕ) → Sized m count → count ≤ bit_limit → h / 8 ≤ length room
      → (◌≡◌ {A = Answer} (read_answer (add_bits (opened mode h salt) m count) (length room))
      (record { refusal = 0; session = add_bits (opened mode h salt) m count }))
      × (read_leaves (add_bits (opened mode h salt) m count) room ≡ bit_digest_of mode h salt (take count (bits_of m)) ++ drop (h / 8) room)
  reads_bits m count room S n l =
      let s = add_bits (opened mode h salt) m count in
      let bits = bits_length mode h salt m count S in
      let is = sym (bits_is_session mode h salt m count S a n) in
      let fits : s.bits / 8 ≤ length room = rw bits l in (
        sym (read_0 s room true is refl fits),
        sym (left_0 s room true is refl fits (bit_digest_of mode h salt (take count (bits_of m)) ++ drop (h / 8) room)
            (rw (bits_digest mode h salt m count S, bits) refl)),
      )

  pub reads : (m room : List ℕ) → length m ≤ limit → h / 8 ≤ length room
      → (◌≡◌ {A = Answer} (read_answer (add_bytes (opened mode h salt) m) (length room)) (record { refusal = 0; session = add_bytes (opened mode h salt) m }))
      × (read_leaves (add_bytes (opened mode h salt) m) room ≡ digest_of mode h salt m ++ drop (h / 8) room)
  unfolding digest_of
  reads m room n l =
      let R = reads_bits m (8 * length m) room (whole_sized m) (omega arith) l in
      let s = add_whole (opened mode h salt) m in (
        ap (λ (t : Session). read_answer t (length room)) (sym s) ∙ R.0 ∙ ap (λ (t : Session). record { refusal = 0; session = t }) s,
        ap (λ (t : Session). read_leaves t room) (sym s) ∙ R.1 ∙ ap (λ (d : List ℕ). bit_digest_of mode h salt d ++ drop (h / 8) room) (whole_taken m),
      )

  pub digest_long : (m : List ℕ) → length (digest_of mode h salt m) ≡ h / 8
  digest_long m =
      let bits = added_bits mode h salt m in
      let most = (admitted_means h a).1 in
      sym (ap length (opened_digest mode h salt m)) ∙ session_digest_long (add_bytes (opened mode h salt) m) (rw bits most) ∙ ap (λ (n : ℕ). n / 8) bits
