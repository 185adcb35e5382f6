-- The record of each kind, and that a record has the kind and the body that it was read from. Assumes nothing.
use mathlib.Core.Path.{◌≡◌, refl, sym, ap, subst, ◌∙◌}
use mathlib.Core.Bool.{Bool, true, false}
use mathlib.Core.List.{List, ◌++◌}
use Prim.Native.Nat.{ℕ, ◌^◌, ◌<◌, ◌≤◌}
use native.Mathlib.Omega.{arith}
use borrow.Author.Tests.{eqb-false, eqb-true, ne_eqb}
use lib.Dec.{eqb}
use lib.ListN.{drop, get_or, length, take}
use mir.Syntax.{w8, w16, w32}
use mir.Val.{Fits}
use lib.Seq.{take_all}
use Rattle.steering.specs.Kinds.{kind_byte}
use Rattle.steering.specs.Numbers.{AreBytes, big_endian, bytes_of, either, number_at}
use Rattle.steering.specs.Records.{body_length, body_of, kind_of, record_of}
use Rattle.steering.specs.declared.kinds.Kind.{Kind}
use Rattle.steering.specs.declared.kinds.Kind.TheVariants.{HighFloor, Hold as HoldKind, LowFloor, Node as NodeKind, Note as NoteKind}
use Rattle.steering.specs.declared.records.Radio.TheVariants.{High, Low}
use Rattle.steering.specs.declared.records.Record.{Record}
use Rattle.steering.specs.declared.records.Record.TheVariants.{Floor, Hold, Node, Note}
use Rattle.steering.proofs.Laws.Numbers.{below, bytes_at, parts}

module _ (kind : ℕ) (a : kind ≡ 1 → ⊥) (b : kind ≡ 2 → ⊥) (c : kind ≡ 3 → ⊥) (d : kind ≡ 4 → ⊥) where
  pub unknown : (kind ≡ 5 → ⊥) → body_length kind ≡ 0
  unfolding body_length
  unknown e = simp (ne_eqb kind 1 a, ne_eqb kind 2 b, ne_eqb kind 3 c, ne_eqb kind 4 d, ne_eqb kind 5 e)

-- a byte that bodies follow is that of a kind
named : (byte : ℕ) → 0 < body_length byte → (kind : Kind) × (kind_byte kind ≡ byte)
named byte p = by (eqb byte 1) (eqb byte 2) (eqb byte 3) (eqb byte 4) (eqb byte 5) refl refl refl refl refl
  where
    by : (v w x y z : Bool) → eqb byte 1 ≡ v → eqb byte 2 ≡ w → eqb byte 3 ≡ x → eqb byte 4 ≡ y → eqb byte 5 ≡ z → (kind : Kind) × (kind_byte kind ≡ byte)
    by true w x y z f g h i j = (NodeKind, sym (eqb-true byte 1 f))
    by false true x y z f g h i j = (LowFloor, sym (eqb-true byte 2 g))
    by false false true y z f g h i j = (HighFloor, sym (eqb-true byte 3 h))
    by false false false true z f g h i j = (HoldKind, sym (eqb-true byte 4 i))
    by false false false false true f g h i j = (NoteKind, sym (eqb-true byte 5 j))
    by false false false false false f g h i j =
        absurd (omega (arith, p, unknown byte (eqb-false byte 1 f) (eqb-false byte 2 g) (eqb-false byte 3 h) (eqb-false byte 4 i) (eqb-false byte 5 j)))

either_most : (t : Bool) (m n : ℕ) → m ≤ 32 → n ≤ 32 → either t m n ≤ 32
either_most true m n p q = p
either_most false m n p q = q

pub most_body : (kind : ℕ) → body_length kind ≤ 32
unfolding body_length
most_body kind =
    either_most (eqb kind 1) _ _ (omega arith)
    (either_most (eqb kind 2) _ _ (omega arith)
    (either_most (eqb kind 3) _ _ (omega arith)
    (either_most (eqb kind 4) _ _ (omega arith)
    (either_most (eqb kind 5) _ _ (omega arith) (omega arith)))))

-- ---- the record of each kind, by the numbers that were read out of its body

-- each has bodies
pub some_body : (kind : Kind) → 0 < body_length (kind_byte kind)
unfolding body_length
some_body NodeKind = omega arith
some_body LowFloor = omega arith
some_body HighFloor = omega arith
some_body HoldKind = omega arith
some_body NoteKind = omega arith

module _ (kind : Kind) (body : List ℕ) (l : length body ≡ body_length (kind_byte kind)) where
  -- how long the body of a kind that is known is
  pub long : (other : Kind) → kind ≡ other → length body ≡ body_length (kind_byte other)
  long other e = l ∙ ap (λ (k : Kind). body_length (kind_byte k)) e

  -- as many bytes as it has are all of it
  all : (n x : ℕ) → length body ≡ n → x ≡ number_at n 0 body → x ≡ big_endian body
  all n x m e = e ∙ ap big_endian (take_all n body (omega (arith, m)))

  pub node_read : kind ≡ NodeKind → (x : ℕ) → x ≡ number_at 6 0 body → Node (record { address = x }) ≡ record_of (kind_byte kind) body
  unfolding record_of
  node_read k x e = rw (k, e) refl

  pub low_read : kind ≡ LowFloor → (x : ℕ) → x ≡ number_at 2 0 body → Floor (record { radio = Low; level = x }) ≡ record_of (kind_byte kind) body
  unfolding record_of
  low_read k x e = rw (k, e) refl

  pub high_read : kind ≡ HighFloor → (x : ℕ) → x ≡ number_at 2 0 body → Floor (record { radio = High; level = x }) ≡ record_of (kind_byte kind) body
  unfolding record_of
  high_read k x e = rw (k, e) refl

  pub hold_read : kind ≡ HoldKind → (x : ℕ) → x ≡ number_at 4 0 body → Hold (record { time = x }) ≡ record_of (kind_byte kind) body
  unfolding record_of
  hold_read k x e = rw (k, e) refl

  pub note_read : kind ≡ NoteKind → (a b c d : ℕ) → a ≡ number_at 8 0 body → b ≡ number_at 8 8 body → c ≡ number_at 8 16 body → d ≡ number_at 8 24 body
      → Note (record { first = a; second = b; third = c; fourth = d }) ≡ record_of (kind_byte kind) body
  unfolding record_of
  note_read k a b c d e f g h = rw (k, e, f, g, h) refl

  -- a number of n bytes is below 256^n
  is_below : (fits : (k : ℕ) → Fits w8 (get_or body k 0)) (n x : ℕ) → length body ≡ n → x ≡ number_at n 0 body → x < 256 ^ n
  is_below fits n x m e = rw (all n x m e, ← m) (below body (λ k. (fits k).fits))

  pub low_fits : kind ≡ LowFloor → ((k : ℕ) → Fits w8 (get_or body k 0)) → (x : ℕ) → x ≡ number_at 2 0 body → Fits w16 x
  unfolding body_length
  low_fits k fits x e = record { fits = is_below fits 2 x (long LowFloor k) e }

  pub high_fits : kind ≡ HighFloor → ((k : ℕ) → Fits w8 (get_or body k 0)) → (x : ℕ) → x ≡ number_at 2 0 body → Fits w16 x
  unfolding body_length
  high_fits k fits x e = record { fits = is_below fits 2 x (long HighFloor k) e }

  pub hold_fits : kind ≡ HoldKind → ((k : ℕ) → Fits w8 (get_or body k 0)) → (x : ℕ) → x ≡ number_at 4 0 body → Fits w32 x
  unfolding body_length
  hold_fits k fits x e = record { fits = is_below fits 4 x (long HoldKind k) e }

-- a record of a kind and a body
pub record Has (r : Record) (kind : ℕ) (body : List ℕ) : Type 0 where
  pub kind_is : kind_of r ≡ kind
  pub body_is : body_of r ≡ body

module _ (body : List ℕ) (b : AreBytes body) where
  -- all of the body is one number
  only : (n : ℕ) → length body ≡ n → bytes_of n (number_at n 0 body) ≡ body
  only n e = bytes_at n 0 body (omega (arith, e)) b ∙ take_all n body (omega (arith, e))

  -- or four numbers
  four : length body ≡ 32
      → bytes_of 8 (number_at 8 0 body) ++ bytes_of 8 (number_at 8 8 body) ++ bytes_of 8 (number_at 8 16 body) ++ bytes_of 8 (number_at 8 24 body) ≡ body
  four l =
      rw (
        bytes_at 8 0 body (omega (arith, l)) b,
        bytes_at 8 8 body (omega (arith, l)) b,
        bytes_at 8 16 body (omega (arith, l)) b,
        bytes_at 8 24 body (omega (arith, l)) b,
      )
      (ap (λ (l : List ℕ). l ++ take 8 (drop 16 body) ++ take 8 (drop 24 body)) (parts 0 body 8 8)
      ∙ ap (λ (l : List ℕ). l ++ take 8 (drop 24 body)) (parts 0 body 16 8)
      ∙ parts 0 body 24 8
      ∙ take_all 32 body (omega (arith, l)))

  has_named : (kind : Kind) → length body ≡ body_length (kind_byte kind) → Has (record_of (kind_byte kind) body) (kind_byte kind) body
  unfolding body_length record_of
  has_named NodeKind l = record { kind_is = refl; body_is = only 6 l }
  has_named LowFloor l = record { kind_is = refl; body_is = only 2 l }
  has_named HighFloor l = record { kind_is = refl; body_is = only 2 l }
  has_named HoldKind l = record { kind_is = refl; body_is = only 4 l }
  has_named NoteKind l = record { kind_is = refl; body_is = four l }

pub read_back : (kind : ℕ) (body : List ℕ) → length body ≡ body_length kind → AreBytes body → 0 < body_length kind → Has (record_of kind body) kind body
read_back kind body l b p =
    let k = named kind p in
    subst (λ (n : ℕ). Has (record_of n body) n body) k.1 (has_named body b k.0 (l ∙ ap body_length (sym k.1)))
