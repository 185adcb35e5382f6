-- The message of a fingerprint, its answers, and that the digest layer takes each table that is passed to it. Assumes nothing.
use mathlib.Core.Path.{◌≡◌, refl, sym, ap, ◌∙◌}
use mathlib.Core.Bool.{Bool, true, false}
use mathlib.Core.Logic.{◌↔◌}
use mathlib.Core.List.{List, ◌++◌}
use Prim.Native.Nat.{ℕ, suc, ◌<◌, ◌≤◌}
use native.Mathlib.Omega.{arith}
use borrow.Author.Tests.{eq-eqb, eqb-true, le-ltb, lt-ltb, ltb-false, ltb-true, ne_eqb}
use lib.Dec.{eqb, ltb}
use lib.ListN.{drop, length}
use Rattle.echo.specs.declared.mode.Mode.TheVariants.{DoublePipe}
use Rattle.echo.specs.Digest.{digest_of}
use Rattle.echo.specs.Session.{digest_leaves, digest_refusal}
use Rattle.echo.proofs.Promises.{admitted_256}
use Rattle.echo.proofs.Theorems.{at_once_is_the_digest}
use Rattle.steering.specs.Answers.{Counted, Fingerprinted}
use Rattle.steering.specs.Fingerprint.{fingerprint_answer, fingerprint_leaves, message, place_of, refusal_of}
use Rattle.steering.specs.Numbers.{AreBytes, either}
use Rattle.steering.specs.Parsing.{Parsed, accepted, count_of, parse, refused, table_of}
use Rattle.steering.specs.declared.records.Record.{Record}
use Rattle.steering.proofs.Laws.Outcomes.{accepted_exactly, too_long_8}

-- ---- the message

pub same_message_exactly : (t u : List ℕ) (rs qs : List Record) → AreBytes t → AreBytes u → parse t ≡ accepted rs → parse u ≡ accepted qs
    → (message t ≡ message u) ↔ (rs ≡ qs)
same_message_exactly t u rs qs b c p q = (there, back)
  where
    there : message t ≡ message u → rs ≡ qs
    there e = let same : accepted rs ≡ accepted qs = sym p ∙ ap parse e ∙ q in cc

    back : rs ≡ qs → message t ≡ message u
    back e = ((accepted_exactly t b rs).0 p).0 ∙ ap table_of e ∙ sym ((accepted_exactly u c qs).0 q).0

-- ---- what is handed to the digest layer

-- of two answers, one of which refuses by k + 1, the other was given where the number is 0
passes : (k : ℕ) (x : Bool) (a b : Fingerprinted) → b.refusal ≡ suc k → (either x a b).refusal ≡ 0 → (x ≡ true) × (a.refusal ≡ 0)
passes k true a b n z = (refl, z)
passes k false a b n z = absurd (omega (arith, n, z))

stays : (k : ℕ) (x : Bool) (a b : Fingerprinted) → a.refusal ≡ suc k → (either x a b).refusal ≡ 0 → (x ≡ false) × (b.refusal ≡ 0)
stays k true a b n z = absurd (omega (arith, n, z))
stays k false a b n z = (refl, z)

not_too_long : (t : List ℕ) → refusal_of (parse t) ≡ 0 → length t ≤ 4096
not_too_long t z = by (ltb 4096 (length t)) refl
  where
    by : (x : Bool) → ltb 4096 (length t) ≡ x → length t ≤ 4096
    by true p = let w : ◌≡◌ {A = ℕ} 8 0 = sym (ap refusal_of (too_long_8 t (ltb-true 4096 (length t) p))) ∙ z in absurd (omega arith)
    by false p = ltb-false 4096 (length t) p

-- the digest layer accepts what it is handed, and leaves what a fingerprint leaves
pub takes : (salt t room : List ℕ) → (fingerprint_answer (length salt) (length room) (parse t)).refusal ≡ 0
    → (digest_refusal 256 (length salt) (length (message t)) (length room) ≡ 0)
    × (digest_leaves DoublePipe 256 salt (message t) room ≡ fingerprint_leaves salt t room)
unfolding fingerprint_answer fingerprint_leaves
takes salt t room z =
    let p = passes 1 (eqb (length salt) 16) _ _ refl z in
    let r = stays 4 (ltb (length room) 32) _ _ refl p.1 in
    let salt_fits = eqb-true (length salt) 16 p.0 in
    let room_fits = ltb-false (length room) 32 r.0 in
    let short = not_too_long t r.1 in
    rw (p.0, r.0, eq-eqb _ 0 r.1) (at_once_is_the_digest DoublePipe 256 salt t room admitted_256 salt_fits (omega (arith, short)) room_fits)

-- ---- the answers

count_fields : (q : Parsed) → ((count_of q).refusal ≡ refusal_of q) × ((count_of q).place ≡ place_of q)
count_fields (accepted rs) = (refl, refl)
count_fields (refused number place) = (refl, refl)

module _ (salt room : ℕ) (q : Parsed) where
  pub print_2 : (salt ≡ 16 → ⊥) → record { refusal = 2; place = 0 } ≡ fingerprint_answer salt room q
  unfolding fingerprint_answer
  print_2 l = rw (ne_eqb salt 16 l)

  module _ (l : salt ≡ 16) where
    pub print_5 : room < 32 → record { refusal = 5; place = 0 } ≡ fingerprint_answer salt room q
    unfolding fingerprint_answer
    print_5 h = rw (eq-eqb salt 16 l, lt-ltb room 32 h)

    -- the table is counted
    module _ (h : 32 ≤ room) where
      print_table : (k : Counted) → k ≡ count_of q → record { refusal = k.refusal; place = k.place } ≡ fingerprint_answer salt room q
      unfolding fingerprint_answer
      print_table k e = rw (eq-eqb salt 16 l, le-ltb room 32 h, e, (count_fields q).0, (count_fields q).1)

      pub print_refused : (number place : ℕ) → record { refusal = number; place = place; count = 0 } ≡ count_of q
          → record { refusal = number; place = place } ≡ fingerprint_answer salt room q
      print_refused number place e = print_table _ e

      pub print_accepted : (n : ℕ) → record { refusal = 0; place = 0; count = n } ≡ count_of q
          → record { refusal = 0; place = 0 } ≡ fingerprint_answer salt room q
      print_accepted n e = print_table _ e

-- ---- what a fingerprint leaves, by its answer

pub left_alone : (salt t room : List ℕ) → ((fingerprint_answer (length salt) (length room) (parse t)).refusal ≡ 0 → ⊥) → room ≡ fingerprint_leaves salt t room
unfolding fingerprint_leaves
left_alone salt t room n = rw (ne_eqb (fingerprint_answer (length salt) (length room) (parse t)).refusal 0 n)

module _ (salt t room : List ℕ) where
  pub left_refused : (number place : ℕ) → record { refusal = number; place = place } ≡ fingerprint_answer (length salt) (length room) (parse t)
      → (number ≡ 0 → ⊥) → room ≡ fingerprint_leaves salt t room
  left_refused number place e n = left_alone salt t room (λ z. n (ap (λ (f : Fingerprinted). f.refusal) e ∙ z))

  pub left_digest : record { refusal = 0; place = 0 } ≡ fingerprint_answer (length salt) (length room) (parse t)
      → (u : List ℕ) → u ≡ digest_leaves DoublePipe 256 salt t room → u ≡ fingerprint_leaves salt t room
  left_digest e u d = d ∙ (takes salt t room (ap (λ (f : Fingerprinted). f.refusal) (sym e))).1

pub digested : (salt t room : List ℕ) (rs : List Record) → length salt ≡ 16 → 32 ≤ length room → parse t ≡ accepted rs
    → (fingerprint_answer (length salt) (length room) (parse t) ≡ record { refusal = 0; place = 0 })
    × (fingerprint_leaves salt t room ≡ digest_of DoublePipe 256 salt (message t) ++ drop 32 room)
unfolding fingerprint_leaves
digested salt t room rs l h p = (answer, rw answer)
  where
    answer : fingerprint_answer (length salt) (length room) (parse t) ≡ record { refusal = 0; place = 0 }
    answer =
        sym (print_table (length salt) (length room) (parse t) l h (count_of (parse t)) refl)
        ∙ ap (λ (q : Parsed). record { refusal = (count_of q).refusal; place = (count_of q).place }) p
