-- However a message was cut, the tag is the standard's, and a check says yes exactly for it. For each admitted length h, each salt of sixteen bytes,
-- each key within the limit, and all pieces that join to a message that is within it together with a block: opening, adding the pieces and
-- reading puts the tag of the joined message at the front of the room, as making it at once does. The sessions are those that the calls hand
-- back. Assumes nothing.
use mathlib.Core.Path.{◌≡◌, refl, sym, ap, ◌∙◌}
use mathlib.Core.Bool.{Bool, true, false, true≢false}
use mathlib.Core.Logic.{◌↔◌}
use mathlib.Core.List.{List, [], ◌∷◌, ◌++◌, append_assoc, append-nil}
use Prim.Native.Nat.{ℕ, zero, suc, ◌+◌, ◌*◌, ◌/◌, ◌%◌, ◌<◌, ◌≤◌}
use native.Mathlib.Omega.{arith}
use borrow.Author.Tests.{eq-eqb, le-ltb, ltb-false}
use lib.Dec.{ltb}
use lib.ListN.{drop, length, length-append, replicate}
use Rattle.echo.specs.declared.mode.Mode.TheVariants.{DoublePipe}
use Rattle.echo.specs.Pieces.{joined}
use Rattle.echo.specs.Session.{add_bytes, admitted, bit_limit, is_session, limit, session_digest}
use Rattle.echo.proofs.Promises.{add_counts, add_is_session, add_keeps, digest_long, done, double_block, joined_lengths, joined_more, joined_none}
use Rattle.echo.proofs.Theorems.{admitted_exactly}
use Rattle.hmac.specs.Answers.{Verdict}
use Rattle.hmac.specs.Answers.{Checking}
use Rattle.hmac.specs.Answers.{TagAnswer}
use Rattle.hmac.specs.declared.tag_session.TagSession.{TagSession}
use Rattle.hmac.specs.DoublePipe.{block_size, digest_of}
use Rattle.hmac.specs.Hmac.{key_block, tag_of}
use Rattle.hmac.specs.Routines.{check_answer, check_refusal, make_leaves, make_refusal, verify_refusal}
use Rattle.hmac.specs.Same.{same}
use Rattle.hmac.specs.TagPieces.{add_all_tag}
use Rattle.hmac.specs.TagSession.{add_tag_answer, add_tag_bytes, add_tag_refusal, check_tag_answer, is_tag_session, open_tag_answer, opened_tag}
use Rattle.hmac.specs.TagSession.{closed_by, read_tag_answer, read_tag_leaves, read_tag_refusal, session_tag}
use Rattle.hmac.proofs.ARefusalChangesNothing.{a_refused_check_at_once_says_no}
use Rattle.hmac.proofs.Laws.AtOnce.{nothing_added}
use Rattle.hmac.proofs.Laws.Keys.{different_blocks, its_digest, one_block_one_tag, zeros_behind}
use Rattle.hmac.proofs.Laws.KeyBlock.{length_with_zeros}
use Rattle.hmac.proofs.Laws.Same.{same_exactly}
use Rattle.hmac.proofs.Laws.TagSessions.{TagFits, fits_tag, tag_fits}
use Rattle.hmac.proofs.Laws.Texts.{checks_tag, opens_tag, reads_tag, takes_tag}
use Rattle.hmac.proofs.Laws.Verified.{verify_refused, verify_right, verify_wrong}

-- K0 is a block, since a digest is no longer than one
pub the_key_block_is_a_block : (h : ℕ) (salt key : List ℕ) → admitted h ≡ true → length (key_block (digest_of h salt) (block_size h) key) ≡ block_size h
unfolding key_block
the_key_block_is_a_block h salt key a = by (ltb (block_size h) (length key)) refl
  where
    by : (t : Bool) → ltb (block_size h) (length key) ≡ t → length (key_block (digest_of h salt) (block_size h) key) ≡ block_size h
    by true p =
        let S = double_block h in
        let most = ((admitted_exactly h).0 a).1 in
        rw p (length_with_zeros (block_size h) (digest_of h salt key) (omega (arith, digest_long DoublePipe h salt a key, most)))
    by false p = rw p (length_with_zeros (block_size h) key (ltb-false (block_size h) (length key) p))

-- ---- keys that differ and have the same tags, and keys that have not

module _ (h : ℕ) (salt : List ℕ) where
  abbrev K0 : List ℕ → List ℕ
  K0 key = key_block (digest_of h salt) (block_size h) key

  pub keys_with_one_block_have_the_same_tags : (key key' text : List ℕ) → K0 key ≡ K0 key' → tag_of h salt key text ≡ tag_of h salt key' text
  unfolding tag_of
  keys_with_one_block_have_the_same_tags key key' text e = one_block_one_tag (digest_of h salt) (block_size h) key key' text e

  pub zeros_behind_a_key_change_nothing : (key : List ℕ) (n : ℕ) → length key + n ≤ block_size h → K0 (key ++ replicate n 0) ≡ K0 key
  zeros_behind_a_key_change_nothing key n l = zeros_behind (digest_of h salt) (block_size h) key n l

  pub a_long_key_is_its_digest : (key : List ℕ) → admitted h ≡ true → block_size h < length key → K0 (digest_of h salt key) ≡ K0 key
  a_long_key_is_its_digest key a l =
      let S = double_block h in
      let most = ((admitted_exactly h).0 a).1 in
      its_digest (digest_of h salt) (block_size h) key l (omega (arith, digest_long DoublePipe h salt a key, most))

  pub keys_of_one_length_have_different_blocks : (key key' : List ℕ) → length key ≡ length key' → length key ≤ block_size h → K0 key ≡ K0 key' → key ≡ key'
  keys_of_one_length_have_different_blocks key key' e l same = different_blocks (digest_of h salt) (block_size h) key key' e l same

-- any record, a tag session or none
pub an_empty_piece_changes_nothing : (t : TagSession) → (add_tag_answer t []).session ≡ t
unfolding add_tag_answer
an_empty_piece_changes_nothing t = by (add_tag_refusal t 0) refl
  where
    by : (n : ℕ) → add_tag_refusal t 0 ≡ n → (add_tag_answer t []).session ≡ t
    by zero e = rw e (nothing_added t)
    by (suc n) e = rw e refl

module _ (h : ℕ) (salt key : List ℕ) (a : admitted h ≡ true) (l : length salt ≡ 16) (k : length key ≤ limit) where
  -- the session to which a message was added
  abbrev holding : List ℕ → TagSession
  holding m = add_tag_bytes (opened_tag h salt key) m

  pub an_opening_opens : open_tag_answer h salt key ≡ record { refusal = 0; session = opened_tag h salt key }
  an_opening_opens = opens_tag h salt key a l k

  pub a_piece_is_joined : (m piece : List ℕ) → block_size h + length (m ++ piece) ≤ limit
      → add_tag_answer (holding m) piece ≡ record { refusal = 0; session = holding (m ++ piece) }
  a_piece_is_joined m piece fits = takes_tag h salt key a m piece (omega (arith, length-append m piece, fits))

  opened_session : (open_tag_answer h salt key).session ≡ holding []
  opened_session = ap (λ (x : TagAnswer). x.session) an_opening_opens ∙ sym (nothing_added (opened_tag h salt key))

  all_joined : (m : List ℕ) (pieces : List (List ℕ)) → block_size h + length (m ++ joined pieces) ≤ limit
      → add_all_tag (holding m) pieces ≡ holding (m ++ joined pieces)
  unfolding add_all_tag
  all_joined m [] fits = ap holding (sym (ap (λ (x : List ℕ). m ++ x) joined_none ∙ append-nil m))
  all_joined m (piece ∷ pieces) fits =
      let rest = joined pieces in
      let regroup = append_assoc m piece rest ∙ ap (λ (x : List ℕ). m ++ x) (sym (joined_more piece pieces)) in
      let fit = rw (← regroup) at fits in
      let short : block_size h + length (m ++ piece) ≤ limit = omega (arith, fit, length-append (m ++ piece) rest) in
      ap (λ (x : TagAnswer). add_all_tag x.session pieces) (a_piece_is_joined m piece short)
      ∙ all_joined (m ++ piece) pieces fit
      ∙ ap holding regroup

  -- the session of all pieces is that of the message in one piece
  pub pieces_are_one : (pieces : List (List ℕ)) → block_size h + length (joined pieces) ≤ limit
      → add_all_tag (open_tag_answer h salt key).session pieces ≡ holding (joined pieces)
  pieces_are_one pieces fits = ap (λ (t : TagSession). add_all_tag t pieces) opened_session ∙ all_joined [] pieces fits

  -- no piece is refused
  pub every_piece_is_taken : (before : List (List ℕ)) (piece : List ℕ) (after : List (List ℕ))
      → block_size h + length (joined (before ++ piece ∷ after)) ≤ limit
      → (add_tag_answer (add_all_tag (open_tag_answer h salt key).session before) piece).refusal ≡ 0
  every_piece_is_taken before piece after fits =
      let all = joined_lengths before (piece ∷ after) in
      let more = ap length (joined_more piece after) ∙ length-append piece (joined after) in
      let short : block_size h + length (joined before ++ piece) ≤ limit = omega (arith, fits, all, more, length-append (joined before) piece) in
      ap (λ (t : TagSession). (add_tag_answer t piece).refusal) (pieces_are_one before (omega (arith, short, length-append (joined before) piece)))
      ∙ ap (λ (x : TagAnswer). x.refusal) (a_piece_is_joined (joined before) piece short)

  module _ (pieces : List (List ℕ)) (fits : block_size h + length (joined pieces) ≤ limit) where
    -- reading is not refused, and leaves the tag
    pub however_cut_the_tag_is_the_standards : (room : List ℕ) → h / 8 ≤ length room
        → ((read_tag_answer (add_all_tag (open_tag_answer h salt key).session pieces) (length room)).refusal ≡ 0)
        × (read_tag_leaves (add_all_tag (open_tag_answer h salt key).session pieces) room ≡ tag_of h salt key (joined pieces) ++ drop (h / 8) room)
    however_cut_the_tag_is_the_standards room r =
        let R = reads_tag h salt key a (joined pieces) fits room r in (
          ap (λ (t : TagSession). (read_tag_answer t (length room)).refusal) (pieces_are_one pieces fits) ∙ ap (λ (x : TagAnswer). x.refusal) R.0,
          ap (λ (t : TagSession). read_tag_leaves t room) (pieces_are_one pieces fits) ∙ R.1,
        )

    -- checking is not refused, and says yes exactly for it
    pub however_cut_a_check_says_yes_exactly_for_the_tag : (tag : List ℕ)
        → ((check_tag_answer (add_all_tag (open_tag_answer h salt key).session pieces) tag).refusal ≡ 0)
        × (((check_tag_answer (add_all_tag (open_tag_answer h salt key).session pieces) tag).yes ≡ true) ↔ (tag ≡ tag_of h salt key (joined pieces)))
    however_cut_a_check_says_yes_exactly_for_the_tag tag =
        let whole = ap (λ (t : TagSession). check_tag_answer t tag) (pieces_are_one pieces fits) ∙ checks_tag h salt key a (joined pieces) fits tag in
        let says = ap (λ (x : Checking). x.yes) whole in
        let S = same_exactly (tag_of h salt key (joined pieces)) tag in
        (ap (λ (x : Checking). x.refusal) whole, (λ y. sym (S.0 (sym says ∙ y)), λ e. says ∙ S.1 (sym e)))

  module _ (message : List ℕ) (fits : block_size h + length message ≤ limit) where
    made_number : (room : ℕ) → h / 8 ≤ room → make_refusal h (length salt) (length key) (length message) room ≡ 0
    unfolding make_refusal
    made_number room r =
        rw (a, eq-eqb (length salt) 16 l, le-ltb limit (length key) k, le-ltb limit (block_size h + length message) fits, le-ltb room (h / 8) r)

    pub at_once_is_the_tag : (room : List ℕ) → h / 8 ≤ length room
        → (make_refusal h (length salt) (length key) (length message) (length room) ≡ 0)
        × (make_leaves h salt key message room ≡ tag_of h salt key message ++ drop (h / 8) room)
    unfolding make_leaves
    at_once_is_the_tag room r =
        let n = made_number (length room) r in (n, done _ (tag_of h salt key message ++ drop (h / 8) room) room n)

    checked_number : check_refusal h (length salt) (length key) (length message) ≡ 0
    unfolding check_refusal
    checked_number = rw (a, eq-eqb (length salt) 16 l, le-ltb limit (length key) k, le-ltb limit (block_size h + length message) fits)

    pub at_once_a_check_says_yes_exactly_for_the_tag : (tag : List ℕ)
        → ((check_answer h salt key message tag).refusal ≡ 0) × (((check_answer h salt key message tag).yes ≡ true) ↔ (tag ≡ tag_of h salt key message))
    unfolding check_answer
    at_once_a_check_says_yes_exactly_for_the_tag tag =
        let says = done _ (same (tag_of h salt key message) tag) false checked_number in
        let S = same_exactly (tag_of h salt key message) tag in
        (checked_number, (λ y. sym (S.0 (sym says ∙ y)), λ e. says ∙ S.1 (sym e)))

-- ---- verifying, on any input

module _ (h : ℕ) (salt key message tag : List ℕ) where
  abbrev verdict : Verdict
  verdict = check_answer h salt key message tag

  abbrev verified : ℕ
  verified = verify_refusal h salt key message tag

  pub verified_exactly_where_a_check_says_yes : (verified ≡ 0) ↔ (verdict.yes ≡ true)
  unfolding check_answer
  verified_exactly_where_a_check_says_yes = by verdict.refusal verdict.yes refl refl
    where
      by : (n : ℕ) (t : Bool) → verdict.refusal ≡ n → verdict.yes ≡ t → (verified ≡ 0) ↔ (verdict.yes ≡ true)
      by zero true z y = (λ _. y, λ _. sym (verify_right h salt key message tag verdict refl z y))
      by zero false z y = (
        λ v. absurd (omega (arith, v, verify_wrong h salt key message tag verdict refl z y)),
        λ x. absurd (true≢false (sym x ∙ y)),
      )
      by (suc k) t z y =
          let r : verified ≡ suc k = sym (verify_refused h salt key message tag verdict refl (λ w. omega (arith, w, z))) ∙ z in
          (λ v. absurd (omega (arith, v, r)), λ x. absurd (true≢false (sym x ∙ a_refused_check_at_once_says_no k h salt key message tag z)))

  pub a_refused_check_is_not_verified : (k : ℕ) → verdict.refusal ≡ suc k → verified ≡ suc k
  a_refused_check_is_not_verified k z = sym (verify_refused h salt key message tag verdict refl (λ w. omega (arith, w, z))) ∙ z

  pub any_other_tag_is_19 : verdict.refusal ≡ 0 → verdict.yes ≡ false → verified ≡ 19
  any_other_tag_is_19 z y = sym (verify_wrong h salt key message tag verdict refl z y)

-- ---- any record

pub tag_sessions_exactly : (t : TagSession)
    → (is_tag_session t ≡ true)
    ↔ ((is_session t.inner ≡ true)
    × (is_session t.outer ≡ true)
    × (t.inner.mode ≡ DoublePipe)
    × (t.outer.mode ≡ DoublePipe)
    × (t.inner.bits ≡ t.outer.bits)
    × (t.inner.salt ≡ t.outer.salt)
    × (t.outer.taken ≡ 8 * block_size t.outer.bits)
    × (8 * block_size t.outer.bits ≤ t.inner.taken)
    × (t.inner.taken % 8 ≡ 0))
tag_sessions_exactly t = (there, back)
  where
    there : is_tag_session t ≡ true
        → (is_session t.inner ≡ true)
        × (is_session t.outer ≡ true)
        × (t.inner.mode ≡ DoublePipe)
        × (t.outer.mode ≡ DoublePipe)
        × (t.inner.bits ≡ t.outer.bits)
        × (t.inner.salt ≡ t.outer.salt)
        × (t.outer.taken ≡ 8 * block_size t.outer.bits)
        × (8 * block_size t.outer.bits ≤ t.inner.taken)
        × (t.inner.taken % 8 ≡ 0)
    there e =
        let F = tag_fits t e in
        (F.inner_is, F.outer_is, F.inner_mode, F.outer_mode, F.one_length, F.one_salt, F.outer_block, F.inner_more, F.inner_whole)

    back : (is_session t.inner ≡ true)
        × (is_session t.outer ≡ true)
        × (t.inner.mode ≡ DoublePipe)
        × (t.outer.mode ≡ DoublePipe)
        × (t.inner.bits ≡ t.outer.bits)
        × (t.inner.salt ≡ t.outer.salt)
        × (t.outer.taken ≡ 8 * block_size t.outer.bits)
        × (8 * block_size t.outer.bits ≤ t.inner.taken)
        × (t.inner.taken % 8 ≡ 0)
        → is_tag_session t ≡ true
    back p =
        fits_tag t
        (record {
          inner_is = p.0;
          outer_is = p.1;
          inner_mode = p.2;
          outer_mode = p.3;
          one_length = p.4;
          one_salt = p.5;
          outer_block = p.6;
          inner_more = p.7;
          inner_whole = p.8;
        })

module _ (t : TagSession) (is : is_tag_session t ≡ true) (piece : List ℕ) (fits : t.inner.taken + 8 * length piece ≤ bit_limit) where
  F : TagFits t
  F = tag_fits t is

  -- the piece goes to the inner session, which stays one
  pub stays_a_tag_session : is_tag_session (add_tag_bytes t piece) ≡ true
  unfolding add_tag_bytes
  stays_a_tag_session =
      let K = add_keeps t.inner piece in
      fits_tag (add_tag_bytes t piece) (record {
        inner_is = add_is_session t.inner piece F.inner_is F.inner_whole fits;
        outer_is = F.outer_is;
        inner_mode = K.2 ∙ F.inner_mode;
        outer_mode = F.outer_mode;
        one_length = K.0 ∙ F.one_length;
        one_salt = K.1 ∙ F.one_salt;
        outer_block = F.outer_block;
        inner_more = omega (arith, F.inner_more, add_counts t.inner piece);
        inner_whole = omega (arith, F.inner_whole, add_counts t.inner piece);
      })

  is_added : add_tag_answer t piece ≡ record { refusal = 0; session = add_tag_bytes t piece }
  unfolding add_tag_answer add_tag_refusal
  is_added = rw (is, le-ltb bit_limit (t.inner.taken + 8 * length piece) fits)

  pub every_tag_session_is_answered_by_its_two_sessions : (room : List ℕ) → t.outer.bits / 8 ≤ length room
      → ((add_tag_answer t piece).refusal ≡ 0)
      × (is_tag_session (add_tag_answer t piece).session ≡ true)
      × ((read_tag_answer (add_tag_answer t piece).session (length room)).refusal ≡ 0)
      × (read_tag_leaves (add_tag_answer t piece).session room
      ≡ session_digest (add_bytes t.outer (session_digest (add_bytes t.inner piece))) ++ drop (t.outer.bits / 8) room)
  unfolding read_tag_answer read_tag_leaves read_tag_refusal session_tag closed_by add_tag_bytes
  every_tag_session_is_answered_by_its_two_sessions room r = (
    ap (λ (x : TagAnswer). x.refusal) is_added,
    ap (λ (x : TagAnswer). is_tag_session x.session) is_added ∙ stays_a_tag_session,
    rw (is_added, stays_a_tag_session, le-ltb (length room) (t.outer.bits / 8) r),
    rw (is_added, stays_a_tag_session, le-ltb (length room) (t.outer.bits / 8) r),
  )
