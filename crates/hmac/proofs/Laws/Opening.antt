-- Opening a tag session, by what the code has at each return. Assumes nothing.
use Rattle.std.proofs.Common.{Result, Ok, Err, IsErr}
use mathlib.Core.Path.{◌≡◌, refl, sym, ap, ap₂, ◌∙◌}
use mathlib.Core.Bool.{Bool, true, false, not}
use mathlib.Core.List.{List, [], ◌∷◌}
use Prim.Native.Nat.{ℕ}
use native.Mathlib.Omega.{arith}
use borrow.Author.Tests.{eq-eqb, eqb-true}
use lib.Dec.{eqb, ltb}
use lib.ListN.{length, replicate, take}
use Rattle.aes_round.specs.Bytes.{xor_bytes}
use Rattle.echo.specs.declared.mode.Mode.TheVariants.{DoublePipe}
use Rattle.echo.specs.declared.refusal.Refusal.{Refusal}
use Rattle.echo.specs.declared.session.Refused.{Refused}
use Rattle.echo.specs.declared.session.Session.{Session}
use Rattle.echo.specs.Answers.{Answer, answer_of, number_of}
use Rattle.echo.specs.Families.{either}
use Rattle.echo.specs.Refusals.{◌when◌, first_of}
use Rattle.echo.specs.Session.{add_bytes, admitted, is_session, limit, open_answer}
use Rattle.echo.proofs.Promises.{kept, no_digest_of_0_bits, opened_bits, opened_is_session, opened_taken, opening_number, opens, some}
use Rattle.echo.proofs.Theorems.{admitted_exactly}
use Rattle.hmac.specs.declared.tag_session.TagSession.{TagSession}
use Rattle.hmac.specs.Answers.{TagAnswer}
use Rattle.hmac.specs.DoublePipe.{block_size, digest_of, opened}
use Rattle.hmac.specs.Hmac.{key_block}
use Rattle.hmac.specs.TagSession.{blank_tag, keyed_by, open_tag_answer, open_tag_refusal, opened_tag}

-- a session to which the block at the front of some bytes was added, xored with a pad
abbrev begun_with : Session → List ℕ → ℕ → Session
begun_with f bytes pad = let b = block_size f.bits in add_bytes f (xor_bytes b (take b bytes) (replicate b pad))

-- ---- no digest has 0 bits: such an opening is refused, and hands the blank session out

module _ (salt : List ℕ) (r : Result Session Refused) (e : answer_of r ≡ open_answer DoublePipe 0 salt) where
  pub none_opened : IsErr r
  none_opened = by r e
    where
      is : (a : Bool) → admitted 0 ≡ a → admitted 0 ≡ false
      is true a = absurd (omega (arith, ((admitted_exactly 0).0 a).0))
      is false a = a

      no : admitted 0 ≡ false
      no = is (admitted 0) refl

      by : (r : Result Session Refused) → answer_of r ≡ open_answer DoublePipe 0 salt → IsErr r
      by (Err p) d = refl
      by (Ok s) d =
          let n : ◌≡◌ {A = ℕ} 0 1 = ap (λ (x : Answer). x.refusal) d ∙ opening_number DoublePipe 0 salt ∙ rw no refl in
          absurd (omega arith)

  pub blank_is : (p : Refused) → r ≡ Err p → ◌≡◌ {A = TagSession} (record { inner = p.session; outer = p.session }) blank_tag
  blank_is p o =
      let none = ap (λ (x : Answer). x.session) (sym (ap answer_of o) ∙ e) ∙ no_digest_of_0_bits DoublePipe salt in
      ap (λ (s : Session). record { inner = s; outer = s }) none

-- ---- what opening is refused for: by the digest layer, and then for the key

-- 4 stands behind 1 and 2
before : (a s k : Bool) (n : ℕ) → (n ≡ 0 → ⊥) → n ≡ first_of ((1 when a) ∷ (2 when s) ∷ []) → n ≡ first_of ((1 when a) ∷ (2 when s) ∷ (4 when k) ∷ [])
before true s k n not0 e = e
before false true k n not0 e = e
before false false k n not0 e = absurd (not0 e)

last : (k : Bool) → either {A = ℕ} k 4 0 ≡ first_of ((4 when k) ∷ [])
last true = refl
last false = refl

module _ (h : ℕ) (salt key : List ℕ) where
  pub opening_refused : (p : Refused) → answer_of (Err p) ≡ open_answer DoublePipe h salt
      → number_of p.refusal ≡ open_tag_refusal h (length salt) (length key)
  unfolding open_tag_refusal
  opening_refused p e =
      before (not (admitted h)) (not (eqb (length salt) 16)) (ltb limit (length key)) _ (some p.refusal)
      (ap (λ (x : Answer). x.refusal) e ∙ opening_number DoublePipe h salt)

  module _ (s : Session) (e : answer_of (Ok s) ≡ open_answer DoublePipe h salt) where
    number : (a l : Bool) → admitted h ≡ a → eqb (length salt) 16 ≡ l → 0 ≡ first_of ((1 when not a) ∷ (2 when not l) ∷ [])
    number a l p q =
        ap (λ (x : Answer). x.refusal) e ∙ opening_number DoublePipe h salt ∙ ap₂ (λ (b c : Bool). first_of ((1 when not b) ∷ (2 when not c) ∷ [])) p q

    passed : (admitted h ≡ true) × (length salt ≡ 16)
    passed = by (admitted h) (eqb (length salt) 16) refl refl
      where
        by : (a l : Bool) → admitted h ≡ a → eqb (length salt) 16 ≡ l → (admitted h ≡ true) × (length salt ≡ 16)
        by true true p q = (p, eqb-true (length salt) 16 q)
        by true false p q = absurd (omega (arith, number true false p q))
        by false true p q = absurd (omega (arith, number false true p q))
        by false false p q = absurd (omega (arith, number false false p q))

    pub bits_pass : admitted h ≡ true
    bits_pass = passed.0

    pub salt_passes : length salt ≡ 16
    salt_passes = passed.1

    fresh : s ≡ opened h salt
    fresh = ap (λ (x : Answer). x.session) (e ∙ opens DoublePipe h salt bits_pass salt_passes)

    pub fresh_is_session : is_session s ≡ true
    fresh_is_session = ap is_session fresh ∙ opened_is_session DoublePipe h salt bits_pass

    pub fresh_is_empty : s.taken ≡ 0
    fresh_is_empty = ap (λ (x : Session). x.taken) fresh ∙ opened_taken DoublePipe h salt

    -- what the key is refused for, or 0
    pub key_number : (n : ℕ) → n ≡ either (ltb limit (length key)) 4 0 → n ≡ open_tag_refusal h (length salt) (length key)
    unfolding open_tag_refusal
    key_number n r = rw (bits_pass, eq-eqb (length salt) 16 salt_passes) (r ∙ last (ltb limit (length key)))

    pub opened_keyed : (block : List ℕ) → take (block_size h) block ≡ key_block (digest_of h salt) (block_size h) key → (i o : Session)
        → i ≡ begun_with s block 0x36 → o ≡ begun_with s block 0x5c → ◌≡◌ {A = TagSession} (record { inner = i; outer = o }) (opened_tag h salt key)
    unfolding opened_tag
    opened_keyed block K i o p q = ap₂ (λ (x y : Session). record { inner = x; outer = y }) (keyed 0x36 i p) (keyed 0x5c o q)
      where
        keyed : (pad : ℕ) (x : Session) → x ≡ begun_with s block pad → x ≡ keyed_by h salt key (replicate (block_size h) pad)
        keyed pad x d =
            d
            ∙ ap (λ (f : Session). begun_with f block pad) fresh
            ∙ ap (λ (n : ℕ). let b = block_size n in add_bytes (opened h salt) (xor_bytes b (take b block) (replicate b pad)))
            (opened_bits DoublePipe h salt)
            ∙ ap (λ (l : List ℕ). add_bytes (opened h salt) (xor_bytes (block_size h) l (replicate (block_size h) pad))) K

  -- what is handed out
  pub open_handed : (t : TagSession) → 0 ≡ open_tag_refusal h (length salt) (length key) → t ≡ opened_tag h salt key
      → ◌≡◌ {A = TagAnswer} (record { refusal = 0; session = t }) (open_tag_answer h salt key)
  unfolding open_tag_answer
  open_handed t z d = rw (← z, d)

  pub open_blank : (p : Refusal) → number_of p ≡ open_tag_refusal h (length salt) (length key) → (t : TagSession) → t ≡ blank_tag
      → ◌≡◌ {A = TagAnswer} (record { refusal = number_of p; session = t }) (open_tag_answer h salt key)
  unfolding open_tag_answer
  open_blank p e t b =
      ap₂ (λ (n : ℕ) (x : TagSession). record { refusal = n; session = x }) e (b ∙ sym (kept _ (opened_tag h salt key) blank_tag (λ z. some p (e ∙ z))))
