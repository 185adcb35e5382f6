-- Making and checking a tag at once, by what the code has at each return: an opening, one piece, and a reading or a check. Assumes nothing.
use mathlib.Core.Path.{◌≡◌, refl, sym, ap, ap₂, ◌∙◌}
use mathlib.Core.Bool.{Bool, true, false, not}
use mathlib.Core.List.{List, [], ◌∷◌, ◌++◌}
use Prim.Native.Nat.{ℕ, ◌+◌, ◌*◌, ◌/◌, ◌≤◌}
use native.Mathlib.Nat.{add-zero}
use native.Mathlib.Omega.{arith}
use borrow.Author.Tests.{eq-eqb, eqb-true, le-ltb, ltb-false}
use lib.Dec.{eqb, ltb}
use lib.ListN.{drop, length}
use Rattle.echo.specs.Refusals.{Refusal, ◌when◌, first_of, no_salt, unless}
use Rattle.echo.specs.Session.{admitted, limit}
use Rattle.echo.proofs.Promises.{add_nothing, double_block, kept, too_many}
use Rattle.hmac.specs.Answers.{Verdict}
use Rattle.hmac.specs.Answers.{Checking}
use Rattle.hmac.specs.Answers.{TagAnswer}
use Rattle.hmac.specs.declared.tag_session.TagSession.{TagSession}
use Rattle.hmac.specs.DoublePipe.{block_size}
use Rattle.hmac.specs.Hmac.{tag_of}
use Rattle.hmac.specs.Routines.{check_answer, check_refusal, make_leaves, make_refusal, too_long}
use Rattle.hmac.specs.Same.{same}
use Rattle.hmac.specs.TagSession.{add_tag_answer, add_tag_bytes, add_tag_refusal, check_tag_answer, open_tag_answer, open_tag_refusal, opened_tag}
use Rattle.hmac.specs.TagSession.{read_tag_leaves, read_tag_refusal, session_tag}
use Rattle.hmac.proofs.Laws.Texts.{checks_tag, holds_bits, holds_count, holds_session, holds_tag, opens_tag, takes_tag}

-- an opened session holds the empty text
pub nothing_added : (t : TagSession) → add_tag_bytes t [] ≡ t
unfolding add_tag_bytes
nothing_added t = ap (λ s. record { inner = s; outer = t.outer }) (add_nothing t.inner)

module _ (h : ℕ) (salt key message : List ℕ) where
  -- 1, 2 and 4 stand before what else may be refused
  abbrev first : List Refusal → ℕ
  first rest = first_of ((1 when not (admitted h)) ∷ (2 when no_salt (length salt)) ∷ (4 when too_long h (length key) (length message)) ∷ rest)

  module _ (x : TagAnswer) (e : x ≡ open_tag_answer h salt key) where
    number : (a s k : Bool) → admitted h ≡ a → eqb (length salt) 16 ≡ s → ltb limit (length key) ≡ k
        → x.refusal ≡ first_of ((1 when not a) ∷ (2 when not s) ∷ (4 when k) ∷ [])
    unfolding open_tag_answer open_tag_refusal
    number a s k p q r = rw (e, p, q, r)

    -- the opening is refused, and so is the call
    not_opened : (x.refusal ≡ 0 → ⊥) → (rest : List Refusal) → x.refusal ≡ first rest
    not_opened n rest = by (admitted h) (eqb (length salt) 16) (ltb limit (length key)) refl refl refl
      where
        by : (a s k : Bool) → admitted h ≡ a → eqb (length salt) 16 ≡ s → ltb limit (length key) ≡ k → x.refusal ≡ first rest
        by false s k p q r = rw (number false s k p q r, p)
        by true false k p q r = rw (number true false k p q r, p, q)
        by true true true p q r = rw (number true true true p q r, p, q, r)
        by true true false p q r = absurd (n (number true true false p q r))

    module _ (z : x.refusal ≡ 0) where
      passed : (admitted h ≡ true) × (length salt ≡ 16) × (length key ≤ limit)
      passed = by (admitted h) (eqb (length salt) 16) (ltb limit (length key)) refl refl refl
        where
          by : (a s k : Bool) → admitted h ≡ a → eqb (length salt) 16 ≡ s → ltb limit (length key) ≡ k
              → (admitted h ≡ true) × (length salt ≡ 16) × (length key ≤ limit)
          by false s k p q r = absurd (omega (arith, z, number false s k p q r))
          by true false k p q r = absurd (omega (arith, z, number true false k p q r))
          by true true true p q r = absurd (omega (arith, z, number true true true p q r))
          by true true false p q r = (p, eqb-true (length salt) 16 q, ltb-false limit (length key) r)

      -- what is left to refuse, where the message passes the limit or not
      later : (long : Bool) (rest : List Refusal) → ltb limit (block_size h + length message) ≡ long → first rest ≡ first_of ((4 when long) ∷ rest)
      later long rest p = rw (passed.0, eq-eqb (length salt) 16 passed.1, le-ltb limit (length key) passed.2, p)

      opened_is : x.session ≡ add_tag_bytes (opened_tag h salt key) []
      opened_is =
          ap (λ (y : TagAnswer). y.session) (e ∙ opens_tag h salt key passed.0 passed.1 passed.2) ∙ sym (nothing_added (opened_tag h salt key))

      module _ (y : TagAnswer) (d : y ≡ add_tag_answer x.session message) where
        added_number : (long : Bool) → ltb limit (block_size h + length message) ≡ long → y.refusal ≡ first_of ((4 when long) ∷ [])
        unfolding add_tag_answer add_tag_refusal
        added_number long p =
            let S = double_block h in
            let sum : (8 * block_size h + 8 * length message) / 8 ≡ block_size h + length message = omega arith in
            rw (
              d,
              opened_is,
              holds_session h salt key passed.0 [] (omega arith),
              holds_count h salt key [],
              add-zero (block_size h),
              too_many (8 * block_size h + 8 * length message),
              sum,
              p,
            )

        -- the message is refused, and so is the call
        not_added : (y.refusal ≡ 0 → ⊥) → (rest : List Refusal) → y.refusal ≡ first rest
        not_added n rest = by (ltb limit (block_size h + length message)) refl
          where
            by : (long : Bool) → ltb limit (block_size h + length message) ≡ long → y.refusal ≡ first rest
            by true p = added_number true p ∙ sym (later true rest p)
            by false p = absurd (n (added_number false p))

        module _ (w : y.refusal ≡ 0) where
          fits : block_size h + length message ≤ limit
          fits = by (ltb limit (block_size h + length message)) refl
            where
              by : (long : Bool) → ltb limit (block_size h + length message) ≡ long → block_size h + length message ≤ limit
              by true p = absurd (omega (arith, w, added_number true p))
              by false p = ltb-false limit (block_size h + length message) p

          whole_is : y.session ≡ add_tag_bytes (opened_tag h salt key) message
          whole_is =
              ap (λ (u : TagAnswer). u.session)
              (d ∙ ap (λ (t : TagSession). add_tag_answer t message) opened_is ∙ takes_tag h salt key passed.0 [] message (omega (arith, fits)))

          not_refused : (rest : List Refusal) → first_of rest ≡ first rest
          not_refused rest = sym (later false rest (le-ltb limit (block_size h + length message) fits))

    -- ---- making

    module _ (room : List ℕ) where
      abbrev small : List Refusal
      small = (5 when ltb (length room) (h / 8)) ∷ []

      pub make_not_opened : (x.refusal ≡ 0 → ⊥) → x.refusal ≡ make_refusal h (length salt) (length key) (length message) (length room)
      unfolding make_refusal
      make_not_opened n = not_opened n small

      pub left_not_opened : (x.refusal ≡ 0 → ⊥) → room ≡ make_leaves h salt key message room
      unfolding make_leaves
      left_not_opened n = sym (kept _ _ room (λ z. n (make_not_opened n ∙ z)))

      module _ (z : x.refusal ≡ 0) (y : TagAnswer) (d : y ≡ add_tag_answer x.session message) where
        pub make_not_added : (y.refusal ≡ 0 → ⊥) → y.refusal ≡ make_refusal h (length salt) (length key) (length message) (length room)
        unfolding make_refusal
        make_not_added n = not_added z y d n small

        pub left_not_added : (y.refusal ≡ 0 → ⊥) → room ≡ make_leaves h salt key message room
        unfolding make_leaves
        left_not_added n = sym (kept _ _ room (λ z. n (make_not_added n ∙ z)))

        module _ (w : y.refusal ≡ 0) where
          read_number : read_tag_refusal y.session (length room) ≡ make_refusal h (length salt) (length key) (length message) (length room)
          unfolding make_refusal read_tag_refusal
          read_number =
              rw (whole_is z y d w, holds_session h salt key (passed z).0 message (fits z y d w), holds_bits h salt key message) (not_refused z y d w small)

          pub make_reads : (n : ℕ) → n ≡ read_tag_refusal y.session (length room)
              → n ≡ make_refusal h (length salt) (length key) (length message) (length room)
          make_reads n q = q ∙ read_number

          pub left_reads : (u : List ℕ) → u ≡ read_tag_leaves y.session room → u ≡ make_leaves h salt key message room
          unfolding read_tag_leaves make_leaves
          left_reads u q =
              let number = read_tag_refusal y.session (length room) in
              let tagged = ap session_tag (whole_is z y d w) ∙ holds_tag h salt key message in
              let bits = ap (λ (t : TagSession). t.outer.bits) (whole_is z y d w) ∙ holds_bits h salt key message in
              rw (← read_number) (q ∙ ap₂ (λ (tag : List ℕ) (n : ℕ). unless number (tag ++ drop (n / 8) room) room) tagged bits)

    -- ---- checking

    module _ (tag : List ℕ) where
      pub check_not_opened : (x.refusal ≡ 0 → ⊥) → ◌≡◌ {A = Verdict} (record { refusal = x.refusal; yes = false }) (check_answer h salt key message tag)
      unfolding check_answer check_refusal
      check_not_opened n =
          ap₂ (λ (k : ℕ) (b : Bool). record { refusal = k; yes = b }) (not_opened n []) (sym (kept _ _ false (λ z. n (not_opened n [] ∙ z))))

      module _ (z : x.refusal ≡ 0) (y : TagAnswer) (d : y ≡ add_tag_answer x.session message) where
        pub check_not_added : (y.refusal ≡ 0 → ⊥) → ◌≡◌ {A = Verdict} (record { refusal = y.refusal; yes = false }) (check_answer h salt key message tag)
        unfolding check_answer check_refusal
        check_not_added n =
            ap₂ (λ (k : ℕ) (b : Bool). record { refusal = k; yes = b }) (not_added z y d n []) (sym (kept _ _ false (λ w. n (not_added z y d n [] ∙ w))))

        pub check_checks : y.refusal ≡ 0 → (r : Checking) → r ≡ check_tag_answer y.session tag
            → ◌≡◌ {A = Verdict} (record { refusal = r.refusal; yes = r.yes }) (check_answer h salt key message tag)
        unfolding check_answer check_refusal
        check_checks w r q =
            ap (λ (u : Checking). record { refusal = u.refusal; yes = u.yes })
            (q ∙ ap (λ (t : TagSession). check_tag_answer t tag) (whole_is z y d w) ∙ checks_tag h salt key (passed z).0 message (fits z y d w) tag)
            ∙ ap (λ (k : ℕ). record { refusal = k; yes = unless k (same (tag_of h salt key message) tag) false }) (not_refused z y d w [])
