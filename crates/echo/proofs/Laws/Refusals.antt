-- Each refusal from the tests that lead to it, and what no refusal means. Assumes nothing.
use Rattle.std.proofs.Common.{◌≡◌, ℕ, zero, suc, ◌+◌, ◌-◌, ◌*◌, ◌/◌, ◌^◌, ◌<◌, ◌≤◌, Bool, true, false, not, ◌||◌, eqb, ltb, ◌⊎◌, List, [], ◌∷◌, length, get_or, drop, sym, refl, ap, ◌∙◌, ap₂, inl, inr, ⊎_elim, true≢false, arith, ltb-false, le-ltb, lt-ltb, eq-eqb, ne_eqb, eqb-true}
use borrow.Author.Tests.{not-false, not-true}
use Rattle.aes_round.specs.Bytes.{tab}
use Rattle.aes_round.proofs.Promises.{lt_or_le}
use Rattle.echo.specs.Bits.{bits_of}
use Rattle.echo.specs.Compression.{compress}
use Rattle.echo.specs.Answers.{number_of}
use Rattle.echo.specs.Refusals.{◌when◌, counter_too_high, first_of, no_salt, unless}
use Rattle.echo.specs.Refusals.{Refusal as Conditional}
use Rattle.echo.specs.Families.{round_count, sizes_fit}
use Rattle.echo.specs.Routines.{compress_refusal, compress_wide_leaves, compress_wide_refusal, rounds_refusal, rounds_wide_refusal}
use Rattle.echo.specs.Session.{admitted, all_zero, bit_limit, digest_bits_refusal, digest_refusal, is_session, limit, other_size, read_answer, read_refusal}
use Rattle.echo.specs.Session.{set_below}
use Rattle.echo.specs.Square.{wide_keys_from}
use Rattle.echo.specs.declared.mode.Mode.{Mode}
use Rattle.echo.specs.declared.refusal.Refusal.{Refusal}
use Rattle.echo.specs.declared.session.Session.{Session}
use Rattle.echo.proofs.Laws.Answers.{some}
use Rattle.echo.proofs.Laws.Bits.{Sized, whole_sized}
use Rattle.echo.proofs.Laws.Families.{Sizes, sizes_fit_lem}
use Rattle.echo.proofs.Laws.Words.{sixteen_are}

-- ---- what is left behind: as before, where something is refused

pub kept : {A : Type 0} (n : ℕ) (a b : A) → (n ≡ 0 → ⊥) → b ≡ unless n a b
kept zero a b h = absurd (h refl)
kept (suc n) a b h = refl

-- as the code has it, which has a refusal p
pub refused : {A : Type 0} (p : Refusal) (n : ℕ) (a b : A) → number_of p ≡ n → b ≡ unless n a b
refused p n a b e = kept n a b (λ z. some p (e ∙ z))

-- ---- rounds, whatever the counter

module _ (square count salt : ℕ) where
  pub rounds_2 : (salt ≡ 16 → ⊥) → 2 ≡ rounds_wide_refusal square count salt
  unfolding rounds_wide_refusal
  rounds_2 s = simp (ne_eqb salt 16 s)

  module _ (s : salt ≡ 16) where
    pub rounds_6_square : (square ≡ 256 → ⊥) → 6 ≡ rounds_wide_refusal square count salt
    unfolding rounds_wide_refusal
    rounds_6_square q = simp (eq-eqb salt 16 s, ne_eqb square 256 q)

    module _ (q : square ≡ 256) where
      module _ (t : Bool) (e : t ≡ (eqb count 8 || eqb count 10)) where
        pub rounds_6_count : not t ≡ true → 6 ≡ rounds_wide_refusal square count salt
        unfolding rounds_wide_refusal
        rounds_6_count n = simp (eq-eqb salt 16 s, eq-eqb square 256 q, sym e ∙ not-true t n)

        pub rounds_0 : not t ≡ false → 0 ≡ rounds_wide_refusal square count salt
        unfolding rounds_wide_refusal
        rounds_0 n = simp (eq-eqb salt 16 s, eq-eqb square 256 q, sym e ∙ not-false t n)

-- ---- compression, whatever the counter

module _ (mode : Mode) (chaining block salt : ℕ) where
  pub compress_2 : (salt ≡ 16 → ⊥) → 2 ≡ compress_wide_refusal mode chaining block salt
  unfolding compress_wide_refusal
  compress_2 s = simp (ne_eqb salt 16 s)

  module _ (s : salt ≡ 16) where
    module _ (t : Bool) (e : t ≡ sizes_fit mode chaining block) where
      pub compress_6 : not t ≡ true → 6 ≡ compress_wide_refusal mode chaining block salt
      unfolding compress_wide_refusal
      compress_6 n = simp (eq-eqb salt 16 s, sym e ∙ not-true t n)

      pub compress_0 : not t ≡ false → 0 ≡ compress_wide_refusal mode chaining block salt
      unfolding compress_wide_refusal
      compress_0 n = simp (eq-eqb salt 16 s, sym e ∙ not-false t n)

-- ---- a counter of 64 bits: 7 comes behind the other refusals

-- where they give r
abbrev bounded : ℕ → ℕ → ℕ
bounded counter r = unless r (first_of ((7 when counter_too_high counter) ∷ [])) r

behind : (a b : Bool) (counter : ℕ)
    → first_of ((2 when a) ∷ (6 when b) ∷ (7 when counter_too_high counter) ∷ []) ≡ bounded counter (first_of ((2 when a) ∷ (6 when b) ∷ []))
behind true b counter = refl
behind false true counter = refl
behind false false counter = refl

rounds_bounded : (square count counter salt : ℕ) → rounds_refusal square count counter salt ≡ bounded counter (rounds_wide_refusal square count salt)
unfolding rounds_refusal rounds_wide_refusal
rounds_bounded square count counter salt = behind (no_salt salt) (not (eqb square 256) || not (eqb count 8 || eqb count 10)) counter

compress_bounded : (mode : Mode) (chaining block counter salt : ℕ)
    → compress_refusal mode chaining block counter salt ≡ bounded counter (compress_wide_refusal mode chaining block salt)
unfolding compress_refusal compress_wide_refusal
compress_bounded mode chaining block counter salt = behind (no_salt salt) (not (sizes_fit mode chaining block)) counter

-- what the code has: a refusal p, or none, and then the counter
module _ (counter : ℕ) where
  too_high : 2 ^ 64 - 161 < counter → 7 ≡ bounded counter 0
  too_high k = simp (lt-ltb (2 ^ 64 - 161) counter k)

  low_enough : counter ≤ 2 ^ 64 - 161 → 0 ≡ bounded counter 0
  low_enough k = simp (le-ltb (2 ^ 64 - 161) counter k)

module _ (square count counter salt : ℕ) where
  from_rounds : (r n : ℕ) → r ≡ rounds_wide_refusal square count salt → n ≡ bounded counter r → n ≡ rounds_refusal square count counter salt
  from_rounds r n e b = b ∙ ap (bounded counter) e ∙ sym (rounds_bounded square count counter salt)

  pub rounds_less : (p : Refusal) → number_of p ≡ rounds_wide_refusal square count salt → number_of p ≡ rounds_refusal square count counter salt
  rounds_less p e = from_rounds _ _ e (refused p _ _ _ refl)

  module _ (none : 0 ≡ rounds_wide_refusal square count salt) where
    pub rounds_7 : 2 ^ 64 - 161 < counter → 7 ≡ rounds_refusal square count counter salt
    rounds_7 k = from_rounds 0 7 none (too_high counter k)

    pub rounds_bounded_0 : counter ≤ 2 ^ 64 - 161 → 0 ≡ rounds_refusal square count counter salt
    rounds_bounded_0 k = from_rounds 0 0 none (low_enough counter k)

module _ (mode : Mode) (chaining block counter salt : ℕ) where
  from_compress : (r n : ℕ) → r ≡ compress_wide_refusal mode chaining block salt → n ≡ bounded counter r
      → n ≡ compress_refusal mode chaining block counter salt
  from_compress r n e b = b ∙ ap (bounded counter) e ∙ sym (compress_bounded mode chaining block counter salt)

  pub compress_less : (p : Refusal) → number_of p ≡ compress_wide_refusal mode chaining block salt
      → number_of p ≡ compress_refusal mode chaining block counter salt
  compress_less p e = from_compress _ _ e (refused p _ _ _ refl)

  module _ (none : 0 ≡ compress_wide_refusal mode chaining block salt) where
    pub compress_7 : 2 ^ 64 - 161 < counter → 7 ≡ compress_refusal mode chaining block counter salt
    compress_7 k = from_compress 0 7 none (too_high counter k)

    pub compress_bounded_0 : counter ≤ 2 ^ 64 - 161 → 0 ≡ compress_refusal mode chaining block counter salt
    compress_bounded_0 k = from_compress 0 0 none (low_enough counter k)

-- ---- the digest at once

module _ (bits salt message room : ℕ) (t : Bool) (e : t ≡ admitted bits) where
  pub digest_1 : not t ≡ true → 1 ≡ digest_refusal bits salt message room
  unfolding digest_refusal
  digest_1 n = simp (sym e ∙ not-true t n)

  module _ (n : not t ≡ false) where
    pub digest_2 : (salt ≡ 16 → ⊥) → 2 ≡ digest_refusal bits salt message room
    unfolding digest_refusal
    digest_2 s = simp (sym e ∙ not-false t n, ne_eqb salt 16 s)

    module _ (s : salt ≡ 16) where
      pub digest_4 : limit < message → 4 ≡ digest_refusal bits salt message room
      unfolding digest_refusal
      digest_4 m = simp (sym e ∙ not-false t n, eq-eqb salt 16 s, lt-ltb limit message m)

      module _ (m : message ≤ limit) where
        pub digest_5 : room < bits / 8 → 5 ≡ digest_refusal bits salt message room
        unfolding digest_refusal
        digest_5 r = simp (sym e ∙ not-false t n, eq-eqb salt 16 s, le-ltb limit message m, lt-ltb room (bits / 8) r)

        pub digest_0 : bits / 8 ≤ room → 0 ≡ digest_refusal bits salt message room
        unfolding digest_refusal
        digest_0 r = simp (sym e ∙ not-false t n, eq-eqb salt 16 s, le-ltb limit message m, le-ltb room (bits / 8) r)

-- what no refusal means: of each number in turn, and of the digest
pub none_first : (n : ℕ) (b : Bool) (rest : List Conditional) → (n ≡ 0 → ⊥) → first_of ((n when b) ∷ rest) ≡ 0 → (b ≡ false) × (first_of rest ≡ 0)
none_first n true rest h e = absurd (h e)
none_first n false rest h e = (refl, e)

pub record Digestible (bits salt message room : ℕ) : Type 0 where
  pub admits : admitted bits ≡ true
  pub salt_fits : salt ≡ 16
  pub message_fits : message ≤ limit
  pub room_fits : bits / 8 ≤ room

pub digestible : (bits salt message room : ℕ) → digest_refusal bits salt message room ≡ 0 → Digestible bits salt message room
unfolding digest_refusal
digestible bits salt message room e =
    let long = ltb limit message in
    let small = ltb room (bits / 8) in
    let a = none_first 1 (not (admitted bits)) ((2 when not (eqb salt 16)) ∷ (4 when long) ∷ (5 when small) ∷ []) (λ z. omega arith) e in
    let b = none_first 2 (not (eqb salt 16)) ((4 when long) ∷ (5 when small) ∷ []) (λ z. omega arith) a.1 in
    let c = none_first 4 long ((5 when small) ∷ []) (λ z. omega arith) b.1 in
    let d = none_first 5 small [] (λ z. omega arith) c.1 in
    record {
      admits = not-false (admitted bits) a.0;
      salt_fits = eqb-true salt 16 (not-false (eqb salt 16) b.0);
      message_fits = ltb-false limit message c.0;
      room_fits = ltb-false room (bits / 8) d.0;
    }

-- in bits: 6 and 17 come behind the others, which go by the whole bytes

-- where these give r
abbrev measured : List ℕ → ℕ → ℕ → ℕ
measured message count r = unless r (first_of ((6 when other_size (length message) count) ∷ (17 when set_below message count) ∷ [])) r

behind_four : (a b c d e f : Bool)
    → first_of ((1 when a) ∷ (2 when b) ∷ (4 when c) ∷ (5 when d) ∷ (6 when e) ∷ (17 when f) ∷ [])
    ≡ unless (first_of ((1 when a) ∷ (2 when b) ∷ (4 when c) ∷ (5 when d) ∷ [])) (first_of ((6 when e) ∷ (17 when f) ∷ []))
    (first_of ((1 when a) ∷ (2 when b) ∷ (4 when c) ∷ (5 when d) ∷ []))
behind_four true b c d e f = refl
behind_four false true c d e f = refl
behind_four false false true d e f = refl
behind_four false false false true e f = refl
behind_four false false false false e f = refl

-- too many bits are those whose whole bytes are too many
pub too_many : (count : ℕ) → ltb bit_limit count ≡ ltb limit (count / 8)
too_many count =
    ⊎_elim (λ (l : bit_limit < count). lt-ltb bit_limit count l ∙ sym (lt-ltb limit (count / 8) (omega arith)))
    (λ (g : count ≤ bit_limit). le-ltb bit_limit count g ∙ sym (le-ltb limit (count / 8) (omega arith))) (lt_or_le bit_limit count)

-- so many bits, by their whole bytes
pub digest_whole_number : (bits salt count room : ℕ)
    → digest_refusal bits salt (count / 8) room
    ≡ first_of ((1 when not (admitted bits)) ∷ (2 when no_salt salt) ∷ (4 when ltb bit_limit count) ∷ (5 when ltb room (bits / 8)) ∷ [])
unfolding digest_refusal
digest_whole_number bits salt count room =
    ap (λ (c : Bool). first_of ((1 when not (admitted bits)) ∷ (2 when no_salt salt) ∷ (4 when c) ∷ (5 when ltb room (bits / 8)) ∷ []))
    (sym (too_many count))

digest_measured : (bits salt : ℕ) (message : List ℕ) (count room : ℕ)
    → digest_bits_refusal bits salt message count room ≡ measured message count (digest_refusal bits salt (count / 8) room)
unfolding digest_bits_refusal
digest_measured bits salt message count room =
    behind_four (not (admitted bits)) (no_salt salt) (ltb bit_limit count) (ltb room (bits / 8)) (other_size (length message) count) (set_below message count)
    ∙ ap (measured message count) (sym (digest_whole_number bits salt count room))

-- what the code has: a refusal p, or none, and then the message
module _ (bits salt : ℕ) (message : List ℕ) (count room : ℕ) where
  from_measured : (r n : ℕ) → r ≡ digest_refusal bits salt (count / 8) room → n ≡ measured message count r
      → n ≡ digest_bits_refusal bits salt message count room
  from_measured r n e m = m ∙ ap (measured message count) e ∙ sym (digest_measured bits salt message count room)

  pub digest_less : (p : Refusal) → number_of p ≡ digest_refusal bits salt (count / 8) room
      → number_of p ≡ digest_bits_refusal bits salt message count room
  digest_less p e = from_measured _ _ e (refused p _ _ _ refl)

  module _ (none : 0 ≡ digest_refusal bits salt (count / 8) room) where
    pub digest_counted : count + 7 < 2 ^ 64
    digest_counted = omega (arith, (digestible bits salt (count / 8) room (sym none)).message_fits)

    pub digest_6 : (length message ≡ (count + 7) / 8 → ⊥) → 6 ≡ digest_bits_refusal bits salt message count room
    digest_6 l = from_measured 0 6 none (simp (ne_eqb (length message) ((count + 7) / 8) l))

    module _ (l : length message ≡ (count + 7) / 8) (z : Bool) (g : z ≡ all_zero (drop count (bits_of message))) where
      pub digest_17 : not z ≡ true → 17 ≡ digest_bits_refusal bits salt message count room
      digest_17 c = from_measured 0 17 none (simp (eq-eqb (length message) ((count + 7) / 8) l, sym g ∙ not-true z c))

      pub digest_bits_0 : not z ≡ false → 0 ≡ digest_bits_refusal bits salt message count room
      digest_bits_0 c = from_measured 0 0 none (simp (eq-eqb (length message) ((count + 7) / 8) l, sym g ∙ not-false z c))

-- nothing: what is known of the arguments then
pub record BitsDigestible (bits salt : ℕ) (message : List ℕ) (count room : ℕ) : Type 0 where
  pub digests : Digestible bits salt (count / 8) room
  pub sized : Sized message count

unmeasured : (message : List ℕ) (count r : ℕ) → measured message count r ≡ 0 → (r ≡ 0) × Sized message count
unmeasured message count zero e =
    let p = none_first 6 (other_size (length message) count) ((17 when set_below message count) ∷ []) (λ z. omega arith) e in
    let q = none_first 17 (set_below message count) [] (λ z. omega arith) p.1 in (
      refl,
      record {
        size = eqb-true (length message) ((count + 7) / 8) (not-false (eqb (length message) ((count + 7) / 8)) p.0);
        clear = not-false (all_zero (drop count (bits_of message))) q.0;
      },
    )
unmeasured message count (suc n) e = absurd (omega (arith, e))

pub bits_digestible : (bits salt : ℕ) (message : List ℕ) (count room : ℕ) → digest_bits_refusal bits salt message count room ≡ 0
    → BitsDigestible bits salt message count room
bits_digestible bits salt message count room e =
    let p = unmeasured message count _ (sym (digest_measured bits salt message count room) ∙ e) in
    record { digests = digestible bits salt (count / 8) room p.0; sized = p.1 }

-- whole bytes: the number is the same
pub whole_refusal : (bits salt : ℕ) (message : List ℕ) (room : ℕ)
    → digest_bits_refusal bits salt message (8 * length message) room ≡ digest_refusal bits salt (length message) room
whole_refusal bits salt message room =
    let n : 8 * length message / 8 ≡ length message = omega arith in
    digest_measured bits salt message (8 * length message) room
    ∙ ap (λ (k : ℕ). measured message (8 * length message) (digest_refusal bits salt k room)) n
    ∙ by (digest_refusal bits salt (length message) room)
  where
    S : Sized message (8 * length message)
    S = whole_sized message

    by : (r : ℕ) → measured message (8 * length message) r ≡ r
    by zero = simp (eq-eqb (length message) ((8 * length message + 7) / 8) S.size, S.clear)
    by (suc r) = refl

-- ---- the refusals in order

pub digest_number : (bits salt message room : ℕ)
    → digest_refusal bits salt message room
    ≡ first_of ((1 when not (admitted bits)) ∷ (2 when no_salt salt) ∷ (4 when ltb limit message) ∷ (5 when ltb room (bits / 8)) ∷ [])
unfolding digest_refusal
digest_number bits salt message room = refl

pub digest_bits_number : (bits salt : ℕ) (message : List ℕ) (count room : ℕ)
    → digest_bits_refusal bits salt message count room
    ≡ first_of
    ((1 when not (admitted bits))
    ∷ (2 when no_salt salt)
    ∷ (4 when ltb bit_limit count)
    ∷ (5 when ltb room (bits / 8))
    ∷ (6 when other_size (length message) count)
    ∷ (17 when set_below message count)
    ∷ [])
unfolding digest_bits_refusal
digest_bits_number bits salt message count room = refl

pub compress_number : (mode : Mode) (chaining block counter salt : ℕ)
    → compress_refusal mode chaining block counter salt
    ≡ first_of ((2 when no_salt salt) ∷ (6 when not (sizes_fit mode chaining block)) ∷ (7 when counter_too_high counter) ∷ [])
unfolding compress_refusal
compress_number mode chaining block counter salt = refl

pub compress_wide_number : (mode : Mode) (chaining block salt : ℕ)
    → compress_wide_refusal mode chaining block salt ≡ first_of ((2 when no_salt salt) ∷ (6 when not (sizes_fit mode chaining block)) ∷ [])
unfolding compress_wide_refusal
compress_wide_number mode chaining block salt = refl

-- ---- what no refusal means

neither : (a b : Bool) → (a || b) ≡ false → (a ≡ false) × (b ≡ false)
neither true b e = absurd (true≢false e)
neither false b e = (refl, e)

one_of : (a b : Bool) (m n x : ℕ) → eqb x m ≡ a → eqb x n ≡ b → (a || b) ≡ true → (x ≡ m) ⊎ (x ≡ n)
one_of true b m n x p q e = inl (eqb-true x m p)
one_of false true m n x p q e = inr (eqb-true x n q)
one_of false false m n x p q e = absurd (true≢false (sym e))

pub record RoundsFit (square count salt : ℕ) : Type 0 where
  pub salt_fits : salt ≡ 16
  pub square_fits : square ≡ 256
  pub count_fits : (count ≡ 8) ⊎ (count ≡ 10)

pub rounds_fit : (square count salt : ℕ) → rounds_wide_refusal square count salt ≡ 0 → RoundsFit square count salt
unfolding rounds_wide_refusal
rounds_fit square count salt e =
    let fit = not (eqb square 256) || not (eqb count 8 || eqb count 10) in
    let a = none_first 2 (not (eqb salt 16)) ((6 when fit) ∷ []) (λ z. omega arith) e in
    let b = none_first 6 fit [] (λ z. omega arith) a.1 in
    let d = neither (not (eqb square 256)) (not (eqb count 8 || eqb count 10)) b.0 in
    record {
      salt_fits = eqb-true salt 16 (not-false (eqb salt 16) a.0);
      square_fits = eqb-true square 256 (not-false (eqb square 256) d.0);
      count_fits = one_of (eqb count 8) (eqb count 10) 8 10 count refl refl (not-false (eqb count 8 || eqb count 10) d.1);
    }

within : (counter r : ℕ) → bounded counter r ≡ 0 → (r ≡ 0) × (counter ≤ 2 ^ 64 - 161)
within counter zero e = (refl, ltb-false (2 ^ 64 - 161) counter (none_first 7 (ltb (2 ^ 64 - 161) counter) [] (λ z. omega arith) e).0)
within counter (suc n) e = absurd (omega (arith, e))

-- with a counter of 64 bits none of the others either, and the bound is kept
pub rounds_within : (square count counter salt : ℕ) → rounds_refusal square count counter salt ≡ 0
    → (rounds_wide_refusal square count salt ≡ 0) × (counter ≤ 2 ^ 64 - 161)
rounds_within square count counter salt z = within counter _ (sym (rounds_bounded square count counter salt) ∙ z)

pub compress_within : (mode : Mode) (chaining block counter salt : ℕ) → compress_refusal mode chaining block counter salt ≡ 0
    → (compress_wide_refusal mode chaining block salt ≡ 0) × (counter ≤ 2 ^ 64 - 161)
compress_within mode chaining block counter salt z = within counter _ (sym (compress_bounded mode chaining block counter salt) ∙ z)

-- a digest that was read fits its room
pub read_fits : (s : Session) (room : ℕ) → (read_answer s room).refusal ≡ 0 → s.bits / 8 ≤ room
unfolding read_answer read_refusal
read_fits s room z =
    let small = ltb room (s.bits / 8) in
    let a = none_first 3 (not (is_session s)) ((5 when small) ∷ []) (λ z. omega arith) z in
    ltb-false room (s.bits / 8) (none_first 5 small [] (λ z. omega arith) a.1).0

pub done : {A : Type 0} (n : ℕ) (a b : A) → n ≡ 0 → unless n a b ≡ a
done n a b e = ap (λ (k : ℕ). unless k a b) e

record CompressFit (mode : Mode) (chaining block salt : ℕ) : Type 0 where
  salt_fits : salt ≡ 16
  sizes_are : Sizes chaining block (round_count mode chaining)

compress_fit : (mode : Mode) (chaining block salt : ℕ) → compress_wide_refusal mode chaining block salt ≡ 0 → CompressFit mode chaining block salt
unfolding compress_wide_refusal
compress_fit mode chaining block salt e =
    let a = none_first 2 (not (eqb salt 16)) ((6 when not (sizes_fit mode chaining block)) ∷ []) (λ z. omega arith) e in
    let b = none_first 6 (not (sizes_fit mode chaining block)) [] (λ z. omega arith) a.1 in
    record {
      salt_fits = eqb-true salt 16 (not-false (eqb salt 16) a.0);
      sizes_are = sizes_fit_lem mode chaining block (not-false (sizes_fit mode chaining block) b.0);
    }

-- ---- no refusal: what the routine requires of its arguments holds, and sixteen bytes of the salt are the salt

module _ (square : List ℕ) (count : ℕ) (salt : List ℕ) (none : 0 ≡ rounds_wide_refusal (length square) count (length salt)) where
  fit : RoundsFit (length square) count (length salt)
  fit = rounds_fit (length square) count (length salt) (sym none)

  pub rounds_salt : 0 + 16 ≤ length salt
  rounds_salt = omega (arith, fit.salt_fits)

  pub rounds_square : length square ≡ 256
  rounds_square = fit.square_fits

  -- the words of all rounds can be counted
  pub rounds_words : 16 * count ≤ 2 ^ 64
  rounds_words = ⊎_elim (λ e. omega arith) (λ e. omega arith) fit.count_fits

  -- with a counter of 64 bits, no word's counter outgrows them
  pub rounds_counters : (counter : ℕ) → counter ≤ 2 ^ 64 - 161 → counter + 16 * count ≤ 2 ^ 64
  rounds_counters counter k = ⊎_elim (λ e. omega arith) (λ e. omega arith) fit.count_fits

module _ (mode : Mode) (chaining block salt : List ℕ) (none : 0 ≡ compress_wide_refusal mode (length chaining) (length block) (length salt)) where
  fits : CompressFit mode (length chaining) (length block) (length salt)
  fits = compress_fit mode (length chaining) (length block) (length salt) (sym none)

  pub compress_salt : 0 + 16 ≤ length salt
  compress_salt = omega (arith, fits.salt_fits)

  pub compress_some : 0 < length chaining
  compress_some = fits.sizes_are.some

  pub compress_square : length chaining + length block ≡ 256
  compress_square = fits.sizes_are.square

  pub compress_parts : 256 ≡ length chaining * (256 / length chaining)
  compress_parts = fits.sizes_are.parts

  pub compress_words : (n : ℕ) → n ≡ round_count mode (length chaining) → 16 * n ≤ 2 ^ 64
  compress_words n c = omega (arith, fits.sizes_are.rounds_most)

  pub compress_counters : (counter : ℕ) → counter ≤ 2 ^ 64 - 161 → counter + 16 * round_count mode (length chaining) ≤ 2 ^ 64
  compress_counters counter k = omega (arith, fits.sizes_are.rounds_most)

  pub compress_done : (n counter : ℕ) (x last : List ℕ) → n ≡ round_count mode (length chaining) → x ≡ tab 16 (λ k. get_or salt (0 + k) 0)
      → last ≡ compress (length chaining) n (wide_keys_from counter) x chaining block → last ≡ compress_wide_leaves mode chaining block counter salt
  unfolding compress_wide_leaves
  compress_done n counter x last c s d =
      d
      ∙ ap₂ (λ (m : ℕ) (y : List ℕ). compress (length chaining) m (wide_keys_from counter) y chaining block) c (s ∙ sixteen_are salt fits.salt_fits)
      ∙ sym (done _ _ _ (sym none))

-- the rounds f, forward or backward
module _ (f : ℕ → (ℕ → List ℕ) → List ℕ → List ℕ → List ℕ) (square : List ℕ) (count counter : ℕ) (salt : List ℕ) where
  pub rounds_done : 0 ≡ rounds_wide_refusal (length square) count (length salt) → (x last : List ℕ) → x ≡ tab 16 (λ k. get_or salt (0 + k) 0)
      → last ≡ f count (wide_keys_from counter) x square
      → last ≡ unless (rounds_wide_refusal (length square) count (length salt)) (f count (wide_keys_from counter) salt square) square
  rounds_done none x last s d =
      d
      ∙ ap (λ (y : List ℕ). f count (wide_keys_from counter) y square) (s ∙ sixteen_are salt (fit square count salt none).salt_fits)
      ∙ sym (done _ _ _ (sym none))
