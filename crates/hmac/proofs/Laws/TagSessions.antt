-- Laws of the tag session's definitions, over plain records. Assumes nothing.
use mathlib.Core.Path.{◌≡◌, refl, sym, ap, ap₂, ◌∙◌}
use mathlib.Core.Bool.{Bool, true, false, not, ◌&&◌, true≢false}
use mathlib.Core.List.{List, ◌++◌}
use Prim.Native.Nat.{ℕ, ◌+◌, ◌*◌, ◌/◌, ◌%◌, ◌^◌, ◌<◌, ◌≤◌}
use native.Mathlib.Omega.{arith}
use borrow.Author.Tests.{eq-eqb, eqb-true, le-leb, leb-true, le-ltb, ltb-false, ltb-true, ne_eqb, not-false, not-true}
use denote.Enum.Bare.{sameb}
use lib.Dec.{eqb, leb, ltb}
use lib.ListN.{drop, length, replicate, take}
use lib.Seq.{length-take-le, take_at}
use Rattle.echo.specs.contracts.mode.Mode.{the_type}
use Rattle.echo.specs.declared.mode.Mode.{Mode}
use Rattle.echo.specs.declared.mode.Mode.TheVariants.{DoublePipe, SinglePipe}
use Rattle.echo.specs.Answers.{Answer, answer_of, number_of}
use Rattle.echo.specs.declared.session.Session.{Session}
use Rattle.echo.specs.Session.{add_answer, bit_limit, is_session, read_answer, read_leaves, session_digest}
use Rattle.echo.proofs.Promises.{add_is_session, add_keeps, both, double_block, reads_room, refuses_bytes, refuses_room, session_admits}
use Rattle.echo.proofs.Promises.{session_digest_long, some, takes_bytes}
use Rattle.echo.proofs.Theorems.{admitted_exactly}
use Rattle.std.proofs.Common.{Result, Ok, Err, IsOk}
use Rattle.echo.specs.declared.session.Refused.{Refused}
use Rattle.hmac.specs.declared.tag_session.RefusedTag.{RefusedTag}
use Rattle.hmac.specs.Answers.{Checking, TagAnswer, checking_of, tag_answer_of}
use Rattle.hmac.specs.declared.tag_session.TagSession.{TagSession}
use Rattle.hmac.specs.DoublePipe.{block_size, is_double_pipe}
use Rattle.hmac.specs.Same.{same}
use Rattle.hmac.specs.TagSession.{add_tag_answer, add_tag_bytes, add_tag_refusal, check_tag_answer, check_tag_refusal, closed_by, counts_fit}
use Rattle.hmac.specs.TagSession.{is_tag_session, read_tag_answer, read_tag_leaves, read_tag_refusal, session_tag}
use Rattle.hmac.proofs.Laws.Answers.{is_taken, taken_is}
use Rattle.hmac.proofs.Laws.Same.{same_equal, same_self}

-- ---- which records are tag sessions: the answers of is_session, by the tests i, o, m, d and s that the code made

module _ (t : TagSession) (i : Bool) (ei : i ≡ is_session t.inner) where
  pub no_inner : not i ≡ true → false ≡ is_tag_session t
  unfolding is_tag_session
  no_inner fails = rw (← ei, not-true i fails)

  module _ (inner : not i ≡ false) (o : Bool) (eo : o ≡ is_session t.outer) where
    pub no_outer : not o ≡ true → false ≡ is_tag_session t
    unfolding is_tag_session
    no_outer fails = rw (← ei, not-false i inner, ← eo, not-true o fails)

    module _ (outer : not o ≡ false) (m : Bool) (em : m ≡ is_double_pipe t.inner.mode) where
      pub inner_other_mode : not m ≡ true → false ≡ is_tag_session t
      unfolding is_tag_session
      inner_other_mode fails = rw (← ei, not-false i inner, ← eo, not-false o outer, ← em, not-true m fails)

      module _ (inner_mode : not m ≡ false) (d : Bool) (ed : d ≡ is_double_pipe t.outer.mode) where
        pub outer_other_mode : not d ≡ true → false ≡ is_tag_session t
        unfolding is_tag_session
        outer_other_mode fails = rw (← ei, not-false i inner, ← eo, not-false o outer, ← em, not-false m inner_mode, ← ed, not-true d fails)

        -- both are sessions in double-pipe: what is left to test
        module _ (outer_mode : not d ≡ false) where
          abbrev left : Bool
          left =
              eqb t.inner.bits t.outer.bits
              && (same t.inner.salt t.outer.salt
              && counts_fit t.inner.taken t.outer.taken t.outer.bits)

          left_decides : left ≡ is_tag_session t
          unfolding is_tag_session
          left_decides = rw (← ei, not-false i inner, ← eo, not-false o outer, ← em, not-false m inner_mode, ← ed, not-false d outer_mode)

          pub other_bits : (t.inner.bits ≡ t.outer.bits → ⊥) → false ≡ is_tag_session t
          other_bits n = let fails : false ≡ left = rw (ne_eqb _ _ n) in fails ∙ left_decides

          module _ (bits : t.inner.bits ≡ t.outer.bits) (s : Bool) (es : s ≡ same t.inner.salt t.outer.salt) where
            pub other_salt : not s ≡ true → false ≡ is_tag_session t
            other_salt n = let fails : false ≡ left = rw (eq-eqb _ _ bits, ← es, not-true s n) in fails ∙ left_decides

            pub counts_decide : not s ≡ false → (c : Bool) → c ≡ counts_fit t.inner.taken t.outer.taken t.outer.bits → c ≡ is_tag_session t
            counts_decide salt c e =
                let decides : counts_fit t.inner.taken t.outer.taken t.outer.bits ≡ left = rw (eq-eqb _ _ bits, ← es, not-false s salt) in
                e ∙ decides ∙ left_decides

-- the counts, by the block size b that the code computed
module _ (inner outer h b : ℕ) (size : b ≡ block_size h) where
  pub block_counted : 8 * b < 2 ^ 64
  block_counted = let S = double_block h in omega arith

  bits_of : 8 * block_size h ≡ 8 * b
  bits_of = ap (λ (x : ℕ). 8 * x) (sym size)

  right_count : outer ≡ 8 * b → 8 * b ≤ inner → eqb (inner % 8) 0 ≡ counts_fit inner outer h
  right_count count n = rw (bits_of, eq-eqb outer (8 * b) count, le-leb (8 * b) inner n)

-- as the code compares modes
same_mode : (mode : Mode) → sameb the_type mode DoublePipe ≡ is_double_pipe mode
same_mode DoublePipe = refl
same_mode SinglePipe = refl

pub another_mode : (mode : Mode) (b : Bool) → b ≡ not (sameb the_type mode DoublePipe) → not (is_double_pipe mode) ≡ b
another_mode mode b e = ap not (sym (same_mode mode)) ∙ sym e

double_pipe : (mode : Mode) → is_double_pipe mode ≡ true → mode ≡ DoublePipe
double_pipe DoublePipe e = refl
double_pipe SinglePipe e = absurd (true≢false (sym e))

pub record TagFits (t : TagSession) : Type 0 where
  pub inner_is : is_session t.inner ≡ true
  pub outer_is : is_session t.outer ≡ true
  pub inner_mode : t.inner.mode ≡ DoublePipe
  pub outer_mode : t.outer.mode ≡ DoublePipe
  pub one_length : t.inner.bits ≡ t.outer.bits
  pub one_salt : t.inner.salt ≡ t.outer.salt
  pub outer_block : t.outer.taken ≡ 8 * block_size t.outer.bits
  pub inner_more : 8 * block_size t.outer.bits ≤ t.inner.taken
  pub inner_whole : t.inner.taken % 8 ≡ 0

pub tag_fits : (t : TagSession) → is_tag_session t ≡ true → TagFits t
unfolding is_tag_session
tag_fits t e =
    let p = both (is_session t.inner) _ e in
    let q = both (is_session t.outer) _ p.1 in
    let v = both (is_double_pipe t.inner.mode) _ q.1 in
    let w = both (is_double_pipe t.outer.mode) _ v.1 in
    let r = both (eqb t.inner.bits t.outer.bits) _ w.1 in
    let s = both (same t.inner.salt t.outer.salt) _ r.1 in
    let u = both (eqb t.outer.taken (8 * block_size t.outer.bits)) _ s.1 in
    let x = both (leb (8 * block_size t.outer.bits) t.inner.taken) _ u.1 in
    record {
      inner_is = p.0;
      outer_is = q.0;
      inner_mode = double_pipe _ v.0;
      outer_mode = double_pipe _ w.0;
      one_length = eqb-true _ _ r.0;
      one_salt = same_equal _ _ s.0;
      outer_block = eqb-true _ _ u.0;
      inner_more = leb-true _ _ x.0;
      inner_whole = eqb-true _ _ x.1;
    }

pub fits_tag : (t : TagSession) → TagFits t → is_tag_session t ≡ true
fits_tag t F =
    sym (counts_decide t true (sym F.inner_is) refl true (sym F.outer_is) refl true
    (sym (ap is_double_pipe F.inner_mode)) refl true (sym (ap is_double_pipe F.outer_mode)) refl F.one_length true
    (sym (ap (same t.inner.salt) (sym F.one_salt) ∙ same_self t.inner.salt)) refl true counts)
  where
    counts : true ≡ counts_fit t.inner.taken t.outer.taken t.outer.bits
    counts =
        sym (eq-eqb (t.inner.taken % 8) 0 F.inner_whole)
        ∙ right_count t.inner.taken t.outer.taken t.outer.bits _ refl F.outer_block F.inner_more

-- ---- adding

module _ (t : TagSession) (piece : List ℕ) (a : Bool) (e : a ≡ is_tag_session t) where
  pub added_to_none : not a ≡ true → ◌≡◌ {A = TagAnswer} (record { refusal = 3; session = t }) (add_tag_answer t piece)
  unfolding add_tag_answer add_tag_refusal
  added_to_none fails = rw (← e, not-true a fails)

  module _ (holds : not a ≡ false) where
    F : TagFits t
    F = tag_fits t (sym e ∙ not-false a holds)

    pub added_to_inner : (s : Session) → answer_of (Ok s) ≡ add_answer t.inner piece
        → ◌≡◌ {A = TagAnswer} (record { refusal = 0; session = record { inner = s; outer = t.outer } }) (add_tag_answer t piece)
    unfolding add_tag_answer add_tag_refusal add_tag_bytes
    added_to_inner s d = by (ltb bit_limit (t.inner.taken + 8 * length piece)) refl
      where
        by : (b : Bool) → ltb bit_limit (t.inner.taken + 8 * length piece) ≡ b
            → ◌≡◌ {A = TagAnswer} (record { refusal = 0; session = record { inner = s; outer = t.outer } }) (add_tag_answer t piece)
        by true p =
            let z : ◌≡◌ {A = ℕ} 0 4 =
            ap (λ (x : Answer). x.refusal)
            (d ∙ refuses_bytes t.inner piece F.inner_is (ltb-true bit_limit (t.inner.taken + 8 * length piece) p)) in
            absurd (omega arith)
        by false p =
            let short = ltb-false bit_limit (t.inner.taken + 8 * length piece) p in
            rw (← e, not-false a holds, p, ap (λ (x : Answer). x.session) (d ∙ takes_bytes t.inner piece F.inner_is F.inner_whole short))

    pub refused_by_inner : (q : Refused) → answer_of (Err q) ≡ add_answer t.inner piece
        → ◌≡◌ {A = TagAnswer} (record { refusal = number_of q.refusal; session = t }) (add_tag_answer t piece)
    unfolding add_tag_answer add_tag_refusal
    refused_by_inner q d = by (ltb bit_limit (t.inner.taken + 8 * length piece)) refl
      where
        by : (b : Bool) → ltb bit_limit (t.inner.taken + 8 * length piece) ≡ b
            → ◌≡◌ {A = TagAnswer} (record { refusal = number_of q.refusal; session = t }) (add_tag_answer t piece)
        by true p =
            let n : number_of q.refusal ≡ 4 =
            ap (λ (x : Answer). x.refusal)
            (d ∙ refuses_bytes t.inner piece F.inner_is (ltb-true bit_limit (t.inner.taken + 8 * length piece) p)) in
            rw (← e, not-false a holds, p, n)
        by false p =
            let short = ltb-false bit_limit (t.inner.taken + 8 * length piece) p in
            absurd (some q.refusal (ap (λ (x : Answer). x.refusal) (d ∙ takes_bytes t.inner piece F.inner_is F.inner_whole short)))

-- ---- the outer session with the digest of the inner one

bits_most : (s : Session) → is_session s ≡ true → s.bits ≤ 512
bits_most s is = ((admitted_exactly s.bits).0 (session_admits s is)).1

-- the digest of any session fits 64 bytes
digest_within : (s : Session) → is_session s ≡ true → (d : List ℕ) → length d ≡ 64 → s.bits / 8 ≤ length d
digest_within s is d l = omega (arith, bits_most s is)

digest_count : (s : Session) → is_session s ≡ true → (d : List ℕ) → length d ≡ 64 → s.bits / 8 ≡ length (take (s.bits / 8) d)
digest_count s is d l = sym (length-take-le (s.bits / 8) d (digest_within s is d l))

-- a digest that was read into 64 bytes
digest_read : (s : Session) → is_session s ≡ true → take (s.bits / 8) (read_leaves s (replicate 64 0)) ≡ session_digest s
digest_read s is =
    let most = bits_most s is in
    ap (take (s.bits / 8)) (reads_room s (replicate 64 0) is (omega (arith, most))).1
    ∙ take_at (session_digest s) _ (s.bits / 8) (session_digest_long s most)

module _ (t : TagSession) (is : is_tag_session t ≡ true) where
  fits : TagFits t
  fits = tag_fits t is

  most : t.inner.bits ≤ 512
  most = bits_most t.inner fits.inner_is

  pub inner_digest_within : (d : List ℕ) → length d ≡ 64 → t.inner.bits / 8 ≤ length d
  inner_digest_within = digest_within t.inner fits.inner_is

  pub inner_digest_count : (d : List ℕ) → length d ≡ 64 → t.inner.bits / 8 ≡ length (take (t.inner.bits / 8) d)
  inner_digest_count = digest_count t.inner fits.inner_is

  inner_digest_long : length (session_digest t.inner) ≡ t.inner.bits / 8
  inner_digest_long = session_digest_long t.inner most

  outer_whole : t.outer.taken % 8 ≡ 0
  outer_whole = omega (arith, fits.outer_block)

  outer_room : t.outer.taken + 8 * length (session_digest t.inner) ≤ bit_limit
  outer_room = let S = double_block t.outer.bits in omega (arith, most, inner_digest_long, fits.outer_block)

  module _ (d : List ℕ) (e : d ≡ read_leaves t.inner (replicate 64 0)) (r : Result Session Refused)
      (y : answer_of r ≡ add_answer t.outer (take (t.inner.bits / 8) d)) where
    closes : answer_of r ≡ record { refusal = 0; session = closed_by t }
    unfolding closed_by
    closes =
        y
        ∙ ap (λ (l : List ℕ). add_answer t.outer (take (t.inner.bits / 8) l)) e
        ∙ ap (add_answer t.outer) (digest_read t.inner fits.inner_is)
        ∙ takes_bytes t.outer (session_digest t.inner) fits.outer_is outer_whole outer_room

    pub closing_taken : IsOk r
    closing_taken = is_taken r _ closes

    pub closing_is : (s : Session) → r ≡ Ok s → s ≡ closed_by t
    closing_is s o = taken_is r _ s closes o

  pub closed_bits : (closed_by t).bits ≡ t.outer.bits
  unfolding closed_by
  closed_bits = (add_keeps t.outer (session_digest t.inner)).0

  pub closed_is_session : is_session (closed_by t) ≡ true
  unfolding closed_by
  closed_is_session = add_is_session t.outer (session_digest t.inner) fits.outer_is outer_whole outer_room

-- ---- reading and checking

module _ (t : TagSession) (room : List ℕ) (a : Bool) (e : a ≡ is_tag_session t) where
  pub read_none : not a ≡ true → 3 ≡ read_tag_refusal t (length room)
  unfolding read_tag_refusal
  read_none fails = rw (← e, not-true a fails)

  pub left_none : not a ≡ true → room ≡ read_tag_leaves t room
  unfolding read_tag_leaves read_tag_refusal
  left_none fails = rw (← e, not-true a fails)

  pub checked_none : not a ≡ true → ◌≡◌ {A = Checking} (record { refusal = 3; yes = false; session = t }) (check_tag_answer t room)
  unfolding check_tag_answer check_tag_refusal
  checked_none fails = rw (← e, not-true a fails)

-- c is the outer session with the digest of the inner one, of a record that the code found to be a tag session by the test a
module _ (t : TagSession) (a : Bool) (e : a ≡ is_tag_session t) (holds : not a ≡ false) where
  pub is_tag : is_tag_session t ≡ true
  is_tag = sym e ∙ not-false a holds

  module _ (c : Session) (d : c ≡ closed_by t) where
    is : is_session c ≡ true
    is = ap is_session d ∙ closed_is_session t is_tag

    size : c.bits / 8 ≡ t.outer.bits / 8
    size = ap (λ (s : Session). s.bits / 8) d ∙ ap (λ (n : ℕ). n / 8) (closed_bits t is_tag)

    module _ (room : List ℕ) where
      pub read_closed : (x : Answer) → x ≡ read_answer c (length room) → x.refusal ≡ read_tag_refusal t (length room)
      unfolding read_tag_refusal
      read_closed x r = by (ltb (length room) (t.outer.bits / 8)) refl
        where
          by : (b : Bool) → ltb (length room) (t.outer.bits / 8) ≡ b → x.refusal ≡ read_tag_refusal t (length room)
          by true p = rw (is_tag, p, r, (refuses_room c room is (omega (arith, size, ltb-true (length room) (t.outer.bits / 8) p))).0)
          by false p = rw (is_tag, p, r, (reads_room c room is (omega (arith, size, ltb-false (length room) (t.outer.bits / 8) p))).0)

      pub left_closed : (u : List ℕ) → u ≡ read_leaves c room → u ≡ read_tag_leaves t room
      unfolding read_tag_leaves read_tag_refusal session_tag
      left_closed u l = by (ltb (length room) (t.outer.bits / 8)) refl
        where
          by : (b : Bool) → ltb (length room) (t.outer.bits / 8) ≡ b → u ≡ read_tag_leaves t room
          by true p = rw (is_tag, p) (l ∙ (refuses_room c room is (omega (arith, size, ltb-true (length room) (t.outer.bits / 8) p))).1)
          by false p =
              rw (is_tag, p)
              (l
              ∙ (reads_room c room is (omega (arith, size, ltb-false (length room) (t.outer.bits / 8) p))).1
              ∙ ap₂ (λ (s : Session) (n : ℕ). session_digest s ++ drop n room) d size)

    pub own_tag_within : (own : List ℕ) → length own ≡ 64 → c.bits / 8 ≤ length own
    own_tag_within = digest_within c is

    pub own_tag_count : (own : List ℕ) → length own ≡ 64 → c.bits / 8 ≡ length (take (c.bits / 8) own)
    own_tag_count = digest_count c is

    pub checked_closed : (own tag : List ℕ) → own ≡ read_leaves c (replicate 64 0) → (says : Bool) → says ≡ same (take (c.bits / 8) own) tag
        → ◌≡◌ {A = Checking} (record { refusal = 0; yes = says; session = t }) (check_tag_answer t tag)
    unfolding check_tag_answer check_tag_refusal session_tag
    checked_closed own tag l says y =
        rw (is_tag, y, ap (take (c.bits / 8)) l, digest_read c is, d)

-- what `read` answers goes by the number alone
pub handed_back : (t : TagSession) (room n : ℕ) → n ≡ read_tag_refusal t room
    → ◌≡◌ {A = TagAnswer} (record { refusal = n; session = t }) (read_tag_answer t room)
unfolding read_tag_answer
handed_back t room n e = ap (λ (k : ℕ). record { refusal = k; session = t }) e
