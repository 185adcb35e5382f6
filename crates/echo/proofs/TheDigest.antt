-- However a message was cut between bytes, the digest is the paper's. For each admitted length h, each salt of sixteen bytes and all pieces that
-- join to at most 2^64 - 161 bits, of whole bytes each but for the last: opening, adding the pieces and reading puts the digest of the joined
-- message at the front of the room, as the digest at once does. A session behaves as the list of the bits added: a piece is joined to its end,
-- reading changes nothing, and an empty piece changes nothing. The sessions are those that the calls hand back. Assumes nothing.
use Rattle.std.proofs.Common.{◌≡◌, ℕ, zero, suc, ◌+◌, ◌*◌, ◌/◌, ◌%◌, ◌≤◌, Bool, true, false, not, ◌&&◌, eqb, ◌⊎◌, List, [], ◌∷◌, ◌++◌, length, take, drop, sym, refl, ap, ◌∙◌, ap₂, ⊎_elim, append_assoc, append-nil, add-zero, arith, length-append, take_all}
use Rattle.echo.specs.declared.mode.Mode.{Mode}
use Rattle.echo.specs.Answers.{Answer}
use Rattle.echo.specs.declared.session.Session.{Session}
use Rattle.echo.specs.Bits.{bits_of}
use Rattle.echo.specs.Digest.{bit_digest_of, digest_of}
use Rattle.echo.specs.Pieces.{add_all, joined}
use Rattle.echo.specs.Refusals.{unless}
use Rattle.echo.specs.Session.{
  add_answer,
  add_bits,
  add_bits_answer,
  add_bits_refusal,
  add_bytes,
  admitted,
  all_zero,
  bit_limit,
  digest_bits_leaves,
  digest_bits_refusal,
  digest_leaves,
  digest_refusal,
  is_session,
  limit,
  open_answer,
  opened,
  read_answer,
  read_leaves,
}
use Rattle.echo.proofs.Laws.Bits.{Sized, joined_bits, joined_sized, whole_sized}
use Rattle.echo.proofs.Laws.Opened.{add_no_bits, add_nothing, add_whole, bits_is_session}
use Rattle.echo.proofs.Laws.Pieces.{joined_lengths, opens, reads, reads_bits, takes, takes_bits}
use Rattle.echo.proofs.Laws.Refusals.{digest_0, digest_bits_0, done}
use Rattle.echo.proofs.Laws.Sessions.{Addable, added, nothing_refused, session_fits}

pub reading_changes_nothing : (s : Session) (room : ℕ) → (read_answer s room).session ≡ s
unfolding read_answer
reading_changes_nothing s room = refl

-- any record, a session or none, with a part byte or without
pub an_empty_piece_changes_nothing : (s : Session) → (add_answer s []).session ≡ s
unfolding add_answer add_bits_answer
an_empty_piece_changes_nothing s = by (add_bits_refusal s [] 0) refl
  where
    by : (n : ℕ) → add_bits_refusal s [] 0 ≡ n → unless (add_bits_refusal s [] 0) (add_bits s [] 0) s ≡ s
    by zero e = rw e (add_no_bits s)
    by (suc n) e = rw e refl

-- and a session takes it
empty_taken : (s : Session) → is_session s ≡ true → add_bits_answer s [] 0 ≡ record { refusal = 0; session = s }
unfolding bits_of all_zero
empty_taken s is =
    sym (added s [] 0 (sym (nothing_refused s [] 0 able)) (add_bits s [] 0) refl)
    ∙ ap (λ (t : Session). record { refusal = 0; session = t }) (add_no_bits s)
  where
    last : (t : Bool) → (not t && not (eqb 0 0)) ≡ false
    last true = refl
    last false = refl

    able : Addable s [] 0
    able = record { is = is; fits = omega (arith, (session_fits s is).taken_fits); sized = whole_sized []; ends = last (eqb (s.taken % 8) 0) }

pub an_empty_piece_is_taken : (s : Session) → is_session s ≡ true → (add_answer s []).refusal ≡ 0
unfolding add_answer
an_empty_piece_is_taken s is = ap (λ (x : Answer). x.refusal) (empty_taken s is)

module _ (mode : Mode) (h : ℕ) (salt : List ℕ) (a : admitted h ≡ true) (l : length salt ≡ 16) where
  -- the session to which a message was added
  abbrev holding : List ℕ → Session
  holding m = add_bytes (opened mode h salt) m

  pub an_opening_opens : open_answer mode h salt ≡ record { refusal = 0; session = opened mode h salt }
  an_opening_opens = opens mode h salt a l

  pub an_opening_is_taken : (open_answer mode h salt).refusal ≡ 0
  an_opening_is_taken = ap (λ (x : Answer). x.refusal) an_opening_opens

  -- a piece is joined to the end of the bytes added
  pub a_piece_is_joined : (m piece : List ℕ) → length (m ++ piece) ≤ limit
      → add_answer (holding m) piece ≡ record { refusal = 0; session = holding (m ++ piece) }
  a_piece_is_joined m piece fits = takes mode h salt a m piece (omega (arith, length-append m piece, fits))

  -- and so are bits, behind whole bytes, or none
  module _ (m : List ℕ) (k : ℕ) (S : Sized m k) (piece : List ℕ) (j : ℕ) (T : Sized piece j) (fits : k + j ≤ bit_limit) where
    abbrev Joined : Type 0
    Joined = add_bits_answer (add_bits (opened mode h salt) m k) piece j ≡ record { refusal = 0; session = add_bits (opened mode h salt) (m ++ piece) (k + j) }

    behind_whole : k % 8 ≡ 0 → Joined
    behind_whole e =
        let n : k ≡ 8 * length m = omega (arith, S.size) in
        ap (λ (i : ℕ). add_bits_answer (add_bits (opened mode h salt) m i) piece j) n
        ∙ ap (λ (s : Session). add_bits_answer s piece j) (add_whole (opened mode h salt) m)
        ∙ takes_bits mode h salt a m piece j T (omega (arith, n))
        ∙ ap (λ (i : ℕ). record { refusal = 0; session = add_bits (opened mode h salt) (m ++ piece) (i + j) }) (sym n)

    none_behind : j ≡ 0 → Joined
    none_behind e =
        let size : length piece ≤ 0 = omega (arith, T.size) in
        let empty : [] ≡ piece = take_all 0 piece size in
        ap₂ (λ (p : List ℕ) (i : ℕ). add_bits_answer (add_bits (opened mode h salt) m k) p i) (sym empty) e
        ∙ empty_taken (add_bits (opened mode h salt) m k) (bits_is_session mode h salt m k S a (omega (arith, fits)))
        ∙ ap₂ (λ (p : List ℕ) (i : ℕ). record { refusal = 0; session = add_bits (opened mode h salt) p i })
        (sym (append-nil m) ∙ ap (λ (p : List ℕ). m ++ p) empty) (sym (add-zero k) ∙ ap (λ (i : ℕ). k + i) (sym e))

    pub a_piece_of_bits_is_joined : (k % 8 ≡ 0) ⊎ (j ≡ 0) → Joined
    a_piece_of_bits_is_joined one = ⊎_elim behind_whole none_behind one

  opened_session : (open_answer mode h salt).session ≡ holding []
  opened_session = ap (λ (x : Answer). x.session) an_opening_opens ∙ sym (add_nothing (opened mode h salt))

  all_joined : (m : List ℕ) (pieces : List (List ℕ)) → length (m ++ joined pieces) ≤ limit → add_all (holding m) pieces ≡ holding (m ++ joined pieces)
  unfolding joined add_all
  all_joined m [] fits = ap holding (sym (append-nil m))
  all_joined m (piece ∷ pieces) fits =
      let short : length (m ++ piece) ≤ limit =
      omega (arith, fits, length-append m (piece ++ joined pieces), length-append piece (joined pieces), length-append m piece) in
      ap (λ (x : Answer). add_all x.session pieces) (a_piece_is_joined m piece short)
      ∙ all_joined (m ++ piece) pieces (rw (append_assoc m piece (joined pieces)) fits)
      ∙ ap holding (append_assoc m piece (joined pieces))

  -- the session of all pieces is that of the message in one piece
  pub pieces_are_one : (pieces : List (List ℕ)) → length (joined pieces) ≤ limit → add_all (open_answer mode h salt).session pieces ≡ holding (joined pieces)
  pieces_are_one pieces fits = ap (λ (s : Session). add_all s pieces) opened_session ∙ all_joined [] pieces fits

  -- no piece is refused
  pub every_piece_is_taken : (before : List (List ℕ)) (piece : List ℕ) (after : List (List ℕ)) → length (joined (before ++ piece ∷ after)) ≤ limit
      → (add_answer (add_all (open_answer mode h salt).session before) piece).refusal ≡ 0
  unfolding joined
  every_piece_is_taken before piece after fits =
      let short : length (joined before ++ piece) ≤ limit =
      omega (arith, fits, joined_lengths before (piece ∷ after), length-append piece (joined after), length-append (joined before) piece) in
      ap (λ (s : Session). (add_answer s piece).refusal) (pieces_are_one before (omega (arith, short, length-append (joined before) piece)))
      ∙ ap (λ (x : Answer). x.refusal) (a_piece_is_joined (joined before) piece short)

  module _ (pieces : List (List ℕ)) (fits : length (joined pieces) ≤ limit) (room : List ℕ) (r : h / 8 ≤ length room) where
    -- reading is not refused, and leaves the digest
    pub however_cut_the_digest_is_the_papers :
        ((read_answer (add_all (open_answer mode h salt).session pieces) (length room)).refusal ≡ 0)
        × (read_leaves (add_all (open_answer mode h salt).session pieces) room ≡ digest_of mode h salt (joined pieces) ++ drop (h / 8) room)
    however_cut_the_digest_is_the_papers =
        let R = reads mode h salt a (joined pieces) room fits r in (
          ap (λ (s : Session). (read_answer s (length room)).refusal) (pieces_are_one pieces fits) ∙ ap (λ (x : Answer). x.refusal) R.0,
          ap (λ (s : Session). read_leaves s room) (pieces_are_one pieces fits) ∙ R.1,
        )

  -- the last piece may end inside a byte: the digest is that of all bits
  module _ (pieces : List (List ℕ)) (last : List ℕ) (count : ℕ) (S : Sized last count) (fits : 8 * length (joined pieces) + count ≤ bit_limit) where
    short : length (joined pieces) ≤ limit
    short = omega (arith, fits)

    abbrev ended : Answer
    ended = add_bits_answer (add_all (open_answer mode h salt).session pieces) last count

    ended_is : ended ≡ record { refusal = 0; session = add_bits (opened mode h salt) (joined pieces ++ last) (8 * length (joined pieces) + count) }
    ended_is =
        ap (λ (s : Session). add_bits_answer s last count) (pieces_are_one pieces short) ∙ takes_bits mode h salt a (joined pieces) last count S fits

    pub however_cut_the_digest_is_the_papers_in_bits : (room : List ℕ) → h / 8 ≤ length room
        → (ended.refusal ≡ 0)
        × ((read_answer ended.session (length room)).refusal ≡ 0)
        × (read_leaves ended.session room ≡ bit_digest_of mode h salt (bits_of (joined pieces) ++ take count (bits_of last)) ++ drop (h / 8) room)
    however_cut_the_digest_is_the_papers_in_bits room r =
        let T = joined_sized last count S (joined pieces) in
        let R = reads_bits mode h salt a (joined pieces ++ last) (8 * length (joined pieces) + count) room T fits r in (
          ap (λ (x : Answer). x.refusal) ended_is,
          ap (λ (x : Answer). (read_answer x.session (length room)).refusal) ended_is ∙ ap (λ (x : Answer). x.refusal) R.0,
          ap (λ (x : Answer). read_leaves x.session room) ended_is
              ∙ R.1
              ∙ ap (λ (l : List ℕ). bit_digest_of mode h salt l ++ drop (h / 8) room) (joined_bits last count S (joined pieces)),
        )

  -- and so does the digest at once
  pub at_once_is_the_digest : (message room : List ℕ) → length message ≤ limit → h / 8 ≤ length room
      → (digest_refusal h (length salt) (length message) (length room) ≡ 0)
      × (digest_leaves mode h salt message room ≡ digest_of mode h salt message ++ drop (h / 8) room)
  unfolding digest_leaves
  at_once_is_the_digest message room m r =
      let n = sym (digest_0 h (length salt) (length message) (length room) true (sym a) refl l m r) in
      (n, done _ (digest_of mode h salt message ++ drop (h / 8) room) room n)

  pub at_once_is_the_digest_in_bits : (message : List ℕ) (count : ℕ) (room : List ℕ) → Sized message count → count ≤ bit_limit → h / 8 ≤ length room
      → (digest_bits_refusal h (length salt) message count (length room) ≡ 0)
      × (digest_bits_leaves mode h salt message count room ≡ bit_digest_of mode h salt (take count (bits_of message)) ++ drop (h / 8) room)
  unfolding digest_bits_leaves
  at_once_is_the_digest_in_bits message count room S m r =
      let less = digest_0 h (length salt) (count / 8) (length room) true (sym a) refl l (omega arith) r in
      let n = sym (digest_bits_0 h (length salt) message count (length room) less S.size true (sym S.clear) refl) in
      (n, done _ (bit_digest_of mode h salt (take count (bits_of message)) ++ drop (h / 8) room) room n)
