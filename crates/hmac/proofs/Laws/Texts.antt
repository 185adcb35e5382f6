-- From an opening, a tag session behaves as the list of the bytes added, and what is read is the tag of the standard. Assumes nothing.
use mathlib.Core.Path.{◌≡◌, refl, sym, ap, ap₂, ◌∙◌}
use mathlib.Core.Bool.{true}
use mathlib.Core.List.{List, ◌++◌}
use Prim.Native.Nat.{ℕ, ◌+◌, ◌*◌, ◌/◌, ◌≤◌}
use native.Mathlib.Omega.{arith}
use borrow.Author.Tests.{eq-eqb, le-ltb}
use lib.ListN.{drop, length, length-append}
use Rattle.aes_round.specs.Bytes.{xor_bytes}
use Rattle.aes_round.proofs.Promises.{length-xor}
use Rattle.echo.specs.declared.mode.Mode.TheVariants.{DoublePipe}
use Rattle.echo.specs.declared.session.Session.{Session}
use Rattle.echo.specs.Refusals.{unless}
use Rattle.echo.specs.Session.{add_bytes, admitted, bit_limit, is_session, limit, session_digest}
use Rattle.echo.proofs.Promises.{add_counts, add_is_session, add_keeps, add_pieces, done, double_block, opened_bits, opened_digest, opened_is_session}
use Rattle.echo.proofs.Promises.{opened_mode, opened_taken}
use Rattle.hmac.specs.Answers.{TagAnswer}
use Rattle.hmac.specs.declared.tag_session.TagSession.{TagSession}
use Rattle.hmac.specs.DoublePipe.{block_size, digest_of, opened}
use Rattle.hmac.specs.Hmac.{ipad, key_block, mac, opad, tag_of}
use Rattle.hmac.specs.Same.{same}
use Rattle.hmac.specs.TagSession.{add_tag_answer, add_tag_bytes, add_tag_refusal, check_tag_answer, check_tag_refusal, closed_by, is_tag_session}
use Rattle.hmac.specs.TagSession.{open_tag_answer, open_tag_refusal, opened_tag, read_tag_answer, read_tag_leaves, read_tag_refusal, session_tag}
use Rattle.hmac.proofs.Laws.TagSessions.{fits_tag}

-- two pieces one after the other
pub tag_pieces : (t : TagSession) (xs ys : List ℕ) → add_tag_bytes (add_tag_bytes t xs) ys ≡ add_tag_bytes t (xs ++ ys)
unfolding add_tag_bytes
tag_pieces t xs ys = ap (λ (s : Session). record { inner = s; outer = t.outer }) (add_pieces t.inner xs ys)

module _ (h : ℕ) (salt key : List ℕ) where
  abbrev B : ℕ
  B = block_size h

  -- K0, xored with a pad
  abbrev padded : List ℕ → List ℕ
  padded pad = xor_bytes B (key_block (digest_of h salt) B key) pad

  -- the session of some bytes
  text_bits : (m : List ℕ) → (add_bytes (opened h salt) m).bits ≡ h
  text_bits m = (add_keeps (opened h salt) m).0 ∙ opened_bits DoublePipe h salt

  text_mode : (m : List ℕ) → (add_bytes (opened h salt) m).mode ≡ DoublePipe
  text_mode m = (add_keeps (opened h salt) m).2 ∙ opened_mode DoublePipe h salt

  text_taken : (m : List ℕ) → (add_bytes (opened h salt) m).taken ≡ 8 * length m
  text_taken m = omega (arith, add_counts (opened h salt) m, opened_taken DoublePipe h salt)

  text_is_session : (m : List ℕ) → admitted h ≡ true → length m ≤ limit → is_session (add_bytes (opened h salt) m) ≡ true
  text_is_session m a l =
      let none = opened_taken DoublePipe h salt in
      add_is_session (opened h salt) m (opened_is_session DoublePipe h salt a) (omega (arith, none)) (omega (arith, none))

  -- the session of a text
  abbrev holding : List ℕ → TagSession
  holding m = add_tag_bytes (opened_tag h salt key) m

  inner_is : (m : List ℕ) → (holding m).inner ≡ add_bytes (opened h salt) (padded (ipad B) ++ m)
  unfolding opened_tag add_tag_bytes
  inner_is m = add_pieces (opened h salt) (padded (ipad B)) m

  outer_is : (m : List ℕ) → (holding m).outer ≡ add_bytes (opened h salt) (padded (opad B))
  unfolding opened_tag add_tag_bytes
  outer_is m = refl

  inner_length : (m : List ℕ) → length (padded (ipad B) ++ m) ≡ B + length m
  inner_length m = length-append (padded (ipad B)) m ∙ ap (λ (n : ℕ). n + length m) (length-xor B _ (ipad B))

  outer_length : length (padded (opad B)) ≡ B
  outer_length = length-xor B _ (opad B)

  pub holds_bits : (m : List ℕ) → (holding m).outer.bits ≡ h
  holds_bits m = ap (λ (s : Session). s.bits) (outer_is m) ∙ text_bits (padded (opad B))

  pub holds_count : (m : List ℕ) → (holding m).inner.taken ≡ 8 * (B + length m)
  holds_count m =
      ap (λ (s : Session). s.taken) (inner_is m)
      ∙ text_taken (padded (ipad B) ++ m)
      ∙ ap (λ (n : ℕ). 8 * n) (inner_length m)

  -- what is read is the standard's tag
  pub holds_tag : (m : List ℕ) → session_tag (holding m) ≡ tag_of h salt key m
  unfolding session_tag closed_by tag_of mac
  holds_tag m =
      ap₂ (λ (o i : Session). session_digest (add_bytes o (session_digest i))) (outer_is m) (inner_is m)
      ∙ ap (λ (d : List ℕ). session_digest (add_bytes (add_bytes (opened h salt) (padded (opad B))) d)) (opened_digest DoublePipe h salt (padded (ipad B) ++ m))
      ∙ ap session_digest (add_pieces (opened h salt) (padded (opad B)) (digest_of h salt (padded (ipad B) ++ m)))
      ∙ opened_digest DoublePipe h salt (padded (opad B) ++ digest_of h salt (padded (ipad B) ++ m))

  module _ (a : admitted h ≡ true) where
    pub opens_tag : length salt ≡ 16 → length key ≤ limit → open_tag_answer h salt key ≡ record { refusal = 0; session = opened_tag h salt key }
    unfolding open_tag_answer open_tag_refusal
    opens_tag l k = rw (a, eq-eqb (length salt) 16 l, le-ltb limit (length key) k)

    pub holds_session : (m : List ℕ) → B + length m ≤ limit → is_tag_session (holding m) ≡ true
    holds_session m few =
        let S = double_block h in
        fits_tag (holding m) (record {
          inner_is = ap is_session (inner_is m) ∙ text_is_session (padded (ipad B) ++ m) a (omega (arith, inner_length m));
          outer_is = ap is_session (outer_is m) ∙ text_is_session (padded (opad B)) a (omega (arith, outer_length));
          inner_mode = ap (λ (s : Session). s.mode) (inner_is m) ∙ text_mode (padded (ipad B) ++ m);
          outer_mode = ap (λ (s : Session). s.mode) (outer_is m) ∙ text_mode (padded (opad B));
          one_length = ap (λ (s : Session). s.bits) (inner_is m) ∙ text_bits (padded (ipad B) ++ m) ∙ sym (holds_bits m);
          one_salt =
              ap (λ (s : Session). s.salt) (inner_is m) ∙ (add_keeps (opened h salt) (padded (ipad B) ++ m)).1
              ∙ sym (ap (λ (s : Session). s.salt) (outer_is m) ∙ (add_keeps (opened h salt) (padded (opad B))).1);
          outer_block =
              ap (λ (s : Session). s.taken) (outer_is m)
              ∙ text_taken (padded (opad B))
              ∙ ap (λ (n : ℕ). 8 * n) (outer_length ∙ ap block_size (sym (holds_bits m)));
          inner_more = rw (holds_bits m, holds_count m) (omega arith);
          inner_whole = omega (arith, holds_count m);
        })

    takes_number : (m : List ℕ) (n : ℕ) → B + length m + n ≤ limit → add_tag_refusal (holding m) n ≡ 0
    unfolding add_tag_refusal
    takes_number m n few = rw (holds_session m (omega arith), holds_count m, le-ltb bit_limit (8 * (B + length m) + 8 * n) (omega arith))

    pub takes_tag : (m piece : List ℕ) → B + length m + length piece ≤ limit
        → ◌≡◌ {A = TagAnswer} (add_tag_answer (holding m) piece) (record { refusal = 0; session = holding (m ++ piece) })
    unfolding add_tag_answer
    takes_tag m piece few =
        ap (λ (r : ℕ). record { refusal = r; session = unless r (add_tag_bytes (holding m) piece) (holding m) }) (takes_number m (length piece) few)
        ∙ ap (λ (t : TagSession). record { refusal = 0; session = t }) (tag_pieces (opened_tag h salt key) m piece)

    module _ (m : List ℕ) (few : B + length m ≤ limit) where
      reads_number : (n : ℕ) → h / 8 ≤ n → read_tag_refusal (holding m) n ≡ 0
      unfolding read_tag_refusal
      reads_number n r = rw (holds_session m few, holds_bits m, le-ltb n (h / 8) r)

      pub reads_tag : (room : List ℕ) → h / 8 ≤ length room
          → (◌≡◌ {A = TagAnswer} (read_tag_answer (holding m) (length room)) (record { refusal = 0; session = holding m }))
          × (read_tag_leaves (holding m) room ≡ tag_of h salt key m ++ drop (h / 8) room)
      unfolding read_tag_answer read_tag_leaves
      reads_tag room r = (
        ap (λ (n : ℕ). record { refusal = n; session = holding m }) (reads_number (length room) r),
        done _ _ room (reads_number (length room) r)
            ∙ ap₂ (λ (tag : List ℕ) (n : ℕ). tag ++ drop (n / 8) room) (holds_tag m) (holds_bits m),
      )

      pub checks_tag : (tag : List ℕ) → check_tag_answer (holding m) tag ≡ record { refusal = 0; yes = same (tag_of h salt key m) tag; session = holding m }
      unfolding check_tag_answer check_tag_refusal
      checks_tag tag = rw (holds_session m few) (ap (λ (x : List ℕ). record { refusal = 0; yes = same x tag; session = holding m }) (holds_tag m))
