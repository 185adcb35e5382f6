-- The tag of any tag session after a piece, in the paper's iteration: its inner and its outer session continued. Assumes nothing.
use mathlib.Core.Path.{◌≡◌, ap, ap₂, ◌∙◌, subst}
use mathlib.Core.Bool.{true}
use mathlib.Core.List.{List, ◌++◌}
use Prim.Native.Nat.{ℕ, ◌+◌, ◌*◌, ◌-◌, ◌/◌, ◌%◌, ◌<◌, ◌≤◌}
use native.Mathlib.Nat.{div_self, mod_self}
use native.Mathlib.Omega.{arith}
use lib.ListN.{length, take}
use Rattle.echo.specs.declared.mode.Mode.{Mode}
use Rattle.echo.specs.declared.mode.Mode.TheVariants.{DoublePipe}
use Rattle.echo.specs.Bits.{bits_of, packed}
use Rattle.echo.specs.Compression.{compress}
use Rattle.echo.specs.Digest.{block, block_count, counter_at, iterate}
use Rattle.echo.specs.Families.{block_size, chaining_size, round_count}
use Rattle.echo.specs.Padding.{padding}
use Rattle.echo.specs.Session.{add_bytes, admitted, bit_limit, session_digest}
use Rattle.echo.specs.Square.{keys_from}
use Rattle.echo.proofs.Promises.{add_keeps, double_block, session_digest_long}
use Rattle.echo.proofs.Theorems.{a_session_digest_continues_the_iteration, a_short_rest_is_one_compression, admitted_exactly, sessions_exactly}
use Rattle.hmac.specs.declared.tag_session.TagSession.{TagSession}
use Rattle.hmac.specs.TagSession.{is_tag_session}
use Rattle.hmac.proofs.Laws.TagSessions.{TagFits, tag_fits}

-- the digest of h bits that continues an iteration behind `taken` bits of a message of L: from a chaining value, over the bits that wait, further ones and
-- the padding. What of `taken` is in the waiting block, and how many blocks lie before it, are m and q
abbrev continuing : Mode → ℕ → List ℕ → List ℕ → List ℕ → ℕ → ℕ → List ℕ → ℕ → List ℕ
continuing mode h salt chaining waiting m q bits L =
    let c = chaining_size mode h in
    let b = block_size mode h in
    take (h / 8)
    (iterate c (round_count mode c) salt (take c chaining) (block b (packed (take m (bits_of waiting) ++ (bits ++ padding (8 * b) h L))))
    (λ i. counter_at (8 * b) L (q + i)) (block_count (8 * b) L - q))

module _ (t : TagSession) (piece : List ℕ) (is : is_tag_session t ≡ true) (fits : t.inner.taken + 8 * length piece ≤ bit_limit) where
  F : TagFits t
  F = tag_fits t is

  abbrev h : ℕ
  h = t.outer.bits

  abbrev salt : List ℕ
  salt = t.outer.salt

  abbrev msize : ℕ
  msize = 8 * block_size DoublePipe h

  -- the inner digest
  abbrev d : List ℕ
  d = session_digest (add_bytes t.inner piece)

  -- ---- the inner session

  abbrev inner_by : Mode → ℕ → List ℕ → List ℕ
  inner_by mode bits salt =
      let n = t.inner.taken in
      let b = 8 * block_size mode bits in
      continuing mode bits salt t.inner.chaining t.inner.waiting (n % b) (n / b) (bits_of piece) (n + 8 * length piece)

  pub inner_continues : length t.inner.chaining ≡ 128 → length t.inner.waiting ≡ 224 → d ≡ inner_by DoublePipe h salt
  inner_continues lc lw =
      a_session_digest_continues_the_iteration t.inner piece F.inner_is F.inner_whole fits lc lw
      ∙ ap (λ (x : Mode). inner_by x t.inner.bits t.inner.salt) F.inner_mode
      ∙ ap₂ (inner_by DoublePipe) F.one_length F.one_salt

  -- ---- the outer session, which has taken one block, with the bits of the inner digest

  d_long : 8 * length d ≡ h
  d_long =
      let S = (sessions_exactly t.outer).0 F.outer_is in
      let bits : (add_bytes t.inner piece).bits ≡ h = (add_keeps t.inner piece).0 ∙ F.one_length in
      let l = session_digest_long (add_bytes t.inner piece) (omega (arith, bits, S.1)) in
      omega (arith, bits, l, S.2)

  abbrev outer_by : ℕ → ℕ → List ℕ → ℕ → List ℕ
  outer_by m q inner L = continuing DoublePipe h salt t.outer.chaining t.outer.waiting m q (bits_of inner) L

  one_block : (t.outer.taken % msize ≡ 0) × (t.outer.taken / msize ≡ 1)
  one_block =
      let S = double_block h in
      let some : 0 < msize = omega arith in
      (ap (λ (n : ℕ). n % msize) F.outer_block ∙ mod_self msize, ap (λ (n : ℕ). n / msize) F.outer_block ∙ div_self some)

  outer_fits : t.outer.taken + 8 * length d ≤ bit_limit
  outer_fits =
      let S = (sessions_exactly t.outer).0 F.outer_is in
      let B = double_block h in
      omega (arith, F.outer_block, d_long, S.1)

  outer_continues : length t.outer.chaining ≡ 128 → length t.outer.waiting ≡ 224
      → session_digest (add_bytes t.outer d) ≡ outer_by 0 1 d (msize + h)
  outer_continues lc lw =
      a_session_digest_continues_the_iteration t.outer d F.outer_is (omega (arith, F.outer_block)) outer_fits lc lw
      ∙ ap by_mode F.outer_mode
      ∙ ap₂ (λ (m q : ℕ). outer_by m q d (t.outer.taken + 8 * length d)) one_block.0 one_block.1
      ∙ ap (outer_by 0 1 d) sum
    where
      by_mode : Mode → List ℕ
      by_mode mode =
          let b = 8 * block_size mode h in
          continuing mode h salt t.outer.chaining t.outer.waiting (t.outer.taken % b) (t.outer.taken / b) (bits_of d)
          (t.outer.taken + 8 * length d)

      sum : t.outer.taken + 8 * length d ≡ msize + h
      sum = omega (arith, F.outer_block, d_long)

  pub tag_continues : length t.inner.chaining ≡ 128 → length t.inner.waiting ≡ 224 → length t.outer.chaining ≡ 128
      → length t.outer.waiting ≡ 224
      → session_digest (add_bytes t.outer d) ≡ outer_by 0 1 (inner_by DoublePipe h salt) (msize + h)
  tag_continues ic iw oc ow = outer_continues oc ow ∙ ap (λ (l : List ℕ). outer_by 0 1 l (msize + h)) (inner_continues ic iw)

-- ---- behind one block, a digest and its padding fit another

module _ (h : ℕ) (salt v digest : List ℕ) (a : admitted h ≡ true) (long : length digest ≡ h / 8) where
  abbrev b : ℕ
  b = block_size DoublePipe h

  abbrev c : ℕ
  c = chaining_size DoublePipe h

  abbrev padded : ℕ → List ℕ
  padded L = packed (bits_of digest ++ padding (8 * b) h L)

  -- of a message of L bits
  abbrev One : ℕ → Type 0
  One L =
      iterate c (round_count DoublePipe c) salt v (block b (padded L)) (λ i. counter_at (8 * b) L (1 + i)) (block_count (8 * b) L - 1)
      ≡ compress c (round_count DoublePipe c) (keys_from L) salt v (padded L)

  pub one_compression : One (8 * b + h)
  one_compression =
      let A = (admitted_exactly h).0 a in
      let S = double_block h in
      let sum : 8 * b * 1 + 8 * length digest ≡ 8 * b + h = omega (arith, long, A.2) in
      subst One sum
      (a_short_rest_is_one_compression c (round_count DoublePipe c) b h 1 salt v digest (omega (arith, long, A.0)) (omega (arith, long, A.1)))
