-- Each case of reading at a place, from the tests that lead to it, and what a reading says of the table. Assumes nothing.
use mathlib.Core.Path.{◌≡◌, refl, sym, ap, subst, ◌∙◌}
use mathlib.Core.Bool.{Bool, true, false}
use mathlib.Core.Logic.{◌⊎◌, inl, inr, ⊎_elim}
use mathlib.Core.List.{List}
use Prim.Native.Nat.{ℕ, ◌+◌, ◌-◌, ◌<◌, ◌≤◌}
use native.Mathlib.Omega.{arith}
use borrow.Author.Tests.{eq-eqb, eqb-false, eqb-true, le-ltb, lt-ltb, ltb-false, ltb-true, ne_eqb}
use lib.Dec.{eqb, ltb}
use lib.ListN.{drop, get_or, length, length-drop, take}
use lib.Seq.{length-take-le}
use Rattle.steering.specs.Answers.{End, Found, Reading, Refused}
use Rattle.steering.specs.Kinds.{kind_byte}
use Rattle.steering.specs.Reading.{read_at, record_at}
use Rattle.steering.specs.Records.{body_length, record_of}
use Rattle.steering.specs.declared.kinds.Kind.{Kind}
use Rattle.steering.specs.declared.records.Record.{Record}
use Rattle.steering.proofs.Laws.Records.{most_body, some_body}

module _ (t : List ℕ) (place : ℕ) where
  pub past_end : length t < place → Refused 6 0 ≡ read_at t place
  unfolding read_at
  past_end a = simp (lt-ltb (length t) place a)

  module _ (a : place ≤ length t) where
    pub too_long : 4096 < length t → Refused 8 0 ≡ read_at t place
    unfolding read_at
    too_long b = simp (le-ltb (length t) place a, lt-ltb 4096 (length t) b)

    module _ (b : length t ≤ 4096) where
      pub at_end : place ≡ length t → End ≡ read_at t place
      unfolding read_at
      at_end e = simp (le-ltb (length t) place a, le-ltb 4096 (length t) b, eq-eqb place (length t) e)

      module _ (c : place ≡ length t → ⊥) where
        at_record : record_at t place (get_or t place 0) ≡ read_at t place
        unfolding read_at
        at_record = simp (le-ltb (length t) place a, le-ltb 4096 (length t) b, ne_eqb place (length t) c)

        module _ (n : ℕ) (e : n ≡ body_length (get_or t place 0)) where
          pub unknown_kind : n ≡ 0 → Refused 9 place ≡ read_at t place
          unfolding record_at
          unknown_kind z = rw (← at_record, ← e, z)

          module _ (z : n ≡ 0 → ⊥) where
            pub cut_short : length t - (place + 1) < n → Refused 10 place ≡ read_at t place
            unfolding record_at
            cut_short s = rw (← at_record, ← e, ne_eqb n 0 z, lt-ltb (length t - (place + 1)) n s)

            pub whole : (m : ℕ) (r : Record) → r ≡ record_of (get_or t place 0) (take m (drop (place + 1) t)) → m ≡ n → n ≤ length t - (place + 1)
                → Found r (place + 1 + n) ≡ read_at t place
            unfolding record_at
            whole m r f g s = rw (← at_record, ← e, ne_eqb n 0 z, le-ltb (length t - (place + 1)) n s, f, g)

-- the same of a kind that the code knows by name, and of the length of its bodies
module _ (t : List ℕ) (place : ℕ) (a : place ≤ length t) (b : length t ≤ 4096) (c : place ≡ length t → ⊥) where
  pub no_kind : body_length (get_or t place 0) ≡ 0 → Refused 9 place ≡ read_at t place
  no_kind z = unknown_kind t place a b c 0 (sym z) refl

  module _ (kind : Kind) (is : kind_byte kind ≡ get_or t place 0) (n : ℕ) (e : n ≡ body_length (kind_byte kind)) where
    same : n ≡ body_length (get_or t place 0)
    same = e ∙ ap body_length is

    some : n ≡ 0 → ⊥
    some z = omega (arith, some_body kind, e, z)

    pub cut : length t - (place + 1) < n → Refused 10 place ≡ read_at t place
    cut = cut_short t place a b c n same some

    pub stands : n ≤ length t - (place + 1)
        → Found (record_of (kind_byte kind) (take (body_length (kind_byte kind)) (drop (place + 1) t))) (place + 1 + n) ≡ read_at t place
    stands s =
        whole t place a b c n same some (body_length (kind_byte kind)) _
        (ap (λ (k : ℕ). record_of k (take (body_length (kind_byte kind)) (drop (place + 1) t))) is) (sym e) s

-- what stands where a record was found
pub record Here (t : List ℕ) (place : ℕ) (r : Record) (next : ℕ) : Type 0 where
  pub not_long : length t ≤ 4096
  pub known : 0 < body_length (get_or t place 0)
  pub next_is : next ≡ place + 1 + body_length (get_or t place 0)
  pub in_table : place + 1 + body_length (get_or t place 0) ≤ length t
  pub record_is : r ≡ record_of (get_or t place 0) (take (body_length (get_or t place 0)) (drop (place + 1) t))

-- why a record is refused, by the kind byte and the bytes that follow it
abbrev pub Why : ℕ → ℕ → List ℕ → Type 0
Why number kind rest = ((number ≡ 9) × (body_length kind ≡ 0)) ⊎ ((number ≡ 10) × (0 < body_length kind) × (length rest < body_length kind))

-- what stands where a record is refused
pub record Stop (t : List ℕ) (place number at : ℕ) : Type 0 where
  pub inside : place < length t
  pub at_kind : at ≡ place
  pub why : Why number (get_or t place 0) (drop (place + 1) t)

-- what a reading says of the table; a refusal may also be that of the place or of the whole table
abbrev Says : List ℕ → ℕ → Reading → Type 0
Says t place (Found r next) = Here t place r next
Says t place End = place ≡ length t
Says t place (Refused number at) = (length t < place) ⊎ ((4096 < length t) ⊎ Stop t place number at)

module _ (t : List ℕ) (place : ℕ) where
  says : (x : Reading) → x ≡ read_at t place → Says t place x
  says x e = by (ltb (length t) place) (ltb 4096 (length t)) (eqb place (length t)) refl refl refl
    where
      kind : ℕ
      kind = get_or t place 0

      this : (y : Reading) → y ≡ read_at t place → Says t place y → Says t place x
      this y f S = subst (Says t place) (f ∙ sym e) S

      record_says : (place ≡ length t → ⊥) → length t ≤ 4096 → place ≤ length t → (x₁ x₂ : Bool) → eqb (body_length kind) 0 ≡ x₁
          → ltb (length t - (place + 1)) (body_length kind) ≡ x₂ → Says t place x
      record_says c b a true x₂ p q =
          let none = eqb-true (body_length kind) 0 p in
          this _ (unknown_kind t place a b c _ refl none) (inr (inr (record { inside = omega arith; at_kind = refl; why = inl (refl, none) })))
      record_says c b a false true p q =
          let some = eqb-false (body_length kind) 0 p in
          let few = ltb-true (length t - (place + 1)) (body_length kind) q in
          let cut : Why 10 kind (drop (place + 1) t) = inr (refl, omega arith, omega (arith, length-drop (place + 1) t)) in
          this _ (cut_short t place a b c _ refl some few) (inr (inr (record { inside = omega arith; at_kind = refl; why = cut })))
      record_says c b a false false p q =
          let some = eqb-false _ _ p in
          let fits = ltb-false _ _ q in
          this _ (whole t place a b c _ refl some _ _ refl refl fits)
          (record { not_long = b; known = omega arith; next_is = refl; in_table = omega arith; record_is = refl })

      by : (x₁ x₂ x₃ : Bool) → ltb (length t) place ≡ x₁ → ltb 4096 (length t) ≡ x₂ → eqb place (length t) ≡ x₃ → Says t place x
      by true x₂ x₃ p q r = this _ (past_end t place (ltb-true _ _ p)) (inl (ltb-true _ _ p))
      by false true x₃ p q r = this _ (too_long t place (ltb-false _ _ p) (ltb-true _ _ q)) (inr (inl (ltb-true _ _ q)))
      by false false true p q r = this _ (at_end t place (ltb-false _ _ p) (ltb-false _ _ q) (eqb-true _ _ r)) (eqb-true _ _ r)
      by false false false p q r = record_says (eqb-false _ _ r) (ltb-false _ _ q) (ltb-false _ _ p) _ _ refl refl

  pub ended : End ≡ read_at t place → place ≡ length t
  ended = says End

  pub stopped : place ≤ length t → length t ≤ 4096 → (number at : ℕ) → Refused number at ≡ read_at t place → Stop t place number at
  stopped within short number at e =
      ⊎_elim (λ (p : length t < place). absurd (omega arith))
      (λ (o : (4096 < length t) ⊎ Stop t place number at). ⊎_elim (λ (p : 4096 < length t). absurd (omega arith)) (λ (S : Stop t place number at). S) o)
      (says (Refused number at) e)

  pub found : (r : Record) (next : ℕ) → Found r next ≡ read_at t place → Here t place r next
  found r next = says (Found r next)

-- a record that was found lies in the table, and the next place behind it
pub found_within : (t : List ℕ) (place : ℕ) (r : Record) (next : ℕ) → Found r next ≡ read_at t place → (place < next) × (next ≤ length t)
found_within t place r next e = let H = found t place r next e in (omega arith, omega arith)

-- no body has more than 32 bytes
pub found_short : (t : List ℕ) (place : ℕ) (r : Record) (next : ℕ) → Found r next ≡ read_at t place → next ≤ place + 33
found_short t place r next e = let H = found t place r next e in omega (arith, H.next_is, most_body (get_or t place 0))

-- behind a record that the code read, less of the table is left
pub less_left : (t : List ℕ) (at : ℕ) (r : Record) (next : ℕ) → Found r next ≡ read_at t at → length t - next < length t - at
less_left t at r next e = let H = found t at r next e in omega arith

-- what stands at a place is read: its kind is known by name, and its body lies between the kind byte and the next place
module _ (t : List ℕ) (place : ℕ) (kind : Kind) (next : ℕ) (is : kind_byte kind ≡ get_or t place 0)
    (e : Found (record_of (kind_byte kind) (take (body_length (kind_byte kind)) (drop (place + 1) t))) next ≡ read_at t place) where
  size : body_length (kind_byte kind) ≡ body_length (get_or t place 0)
  size = ap body_length is

  here : next - (place + 1) ≡ body_length (kind_byte kind)
  here = let H = found t place _ next e in omega (arith, H.next_is, size)

  pub body_ordered : place + 1 ≤ next
  body_ordered = let H = found_within t place _ next e in omega arith

  pub body_last : next ≤ length t
  body_last = (found_within t place _ next e).1

  pub body_count : length (take (next - (place + 1)) (drop (place + 1) t)) ≡ body_length (kind_byte kind)
  body_count = length-take-le (next - (place + 1)) (drop (place + 1) t) (omega (arith, length-drop (place + 1) t, body_last, body_ordered)) ∙ here

  pub body_read : (r : Record) → r ≡ record_of (kind_byte kind) (take (next - (place + 1)) (drop (place + 1) t)) → Found r next ≡ read_at t place
  body_read r f = ap (λ (x : Record). Found x next) (f ∙ ap (λ (n : ℕ). record_of (kind_byte kind) (take n (drop (place + 1) t))) here) ∙ e
