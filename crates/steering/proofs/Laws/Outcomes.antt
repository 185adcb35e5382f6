-- What a table is parsed to, and when: its records, or the refusal of the byte that stands behind some records. Assumes nothing.
use mathlib.Core.Path.{◌≡◌, refl, sym, ap, ◌∙◌, subst}
use mathlib.Core.Bool.{Bool, true, false}
use mathlib.Core.Logic.{◌⊎◌, ◌↔◌, inl, inr, ⊎_elim}
use mathlib.Core.List.{List, [], ◌∷◌, ◌++◌, append_assoc}
use Prim.Native.Nat.{ℕ, zero, suc, ◌+◌, ◌-◌, ◌^◌, ◌<◌, ◌≤◌}
use native.Mathlib.Nat.{pow-le-pow_right}
use native.Mathlib.Numerals.{add-one}
use native.Mathlib.Omega.{arith}
use borrow.Author.Tests.{ltb-false, ltb-true}
use lib.Dec.{eqb, lit<, ltb}
use lib.ListN.{drop, get_or, length, length-append, length-drop, length-take, take}
use lib.Seq.{drop-cons, drop-length, get_or-append-add}
use Rattle.steering.specs.Answers.{End, Found, Reading, Refused}
use Rattle.steering.specs.Numbers.{AreBytes, either, number_at}
use Rattle.steering.specs.Parsing.{AllFit, Parsed, accepted, go_on, in_front, parse, parse_from, refused, table_of}
use Rattle.steering.specs.Reading.{read_at}
use Rattle.steering.specs.Records.{Fits, body_length, body_of, kind_of, record_of}
use Rattle.steering.specs.declared.records.Record.{Record}
use Rattle.steering.proofs.Laws.Complete.{all_refused, all_in_front, complete, parse_through}
use Rattle.steering.proofs.Laws.Numbers.{below, bytes_drop, bytes_take}
use Rattle.steering.proofs.Laws.Reading.{Why, cut_short, ended, found, stopped, too_long, unknown_kind}
use Rattle.steering.proofs.Laws.Tables.{begins, there}

-- ---- a record that was read fits its fields

number_fits : (n at : ℕ) (body : List ℕ) → AreBytes body → number_at n at body < 256 ^ n
number_fits n at body b =
    let part = take n (drop at body) in
    let short : length part ≤ n = omega (arith, length-take n (drop at body)) in
    omega (arith, below part (bytes_take n (drop at body) (bytes_drop at body b)), pow-le-pow_right {n = 256} (lit< tt) short)

either_fits : (t : Bool) (r s : Record) → Fits r → Fits s → Fits (either t r s)
either_fits true r s p q = p
either_fits false r s p q = q

pub record_fits : (kind : ℕ) (body : List ℕ) → AreBytes body → Fits (record_of kind body)
unfolding record_of
record_fits kind body b =
    either_fits (eqb kind 1) _ _ (number_fits 6 0 body b)
    (either_fits (eqb kind 2) _ _ (number_fits 2 0 body b)
    (either_fits (eqb kind 3) _ _ (number_fits 2 0 body b)
    (either_fits (eqb kind 4) _ _ (number_fits 4 0 body b)
    (number_fits 8 0 body b, number_fits 8 8 body b, number_fits 8 16 body b, number_fits 8 24 body b))))

-- ---- what a parse comes to, from a place on

-- some records, and then a byte that is refused
pub record Stopped (t : List ℕ) (place number at : ℕ) : Type 0 where
  pub records : List Record
  pub kind : ℕ
  pub rest : List ℕ
  pub fit : AllFit records
  pub splits : drop place t ≡ table_of records ++ (kind ∷ rest)
  pub there : at ≡ place + length (table_of records)
  pub why : Why number kind rest

abbrev Outcome : List ℕ → ℕ → Parsed → Type 0
Outcome t place (accepted rs) = (drop place t ≡ table_of rs) × AllFit rs
Outcome t place (refused number at) = Stopped t place number at

module _ (t : List ℕ) (b : AreBytes t) (place next : ℕ) (r : Record) (e : Found r next ≡ read_at t place) where
  pub found_fits : Fits r
  found_fits =
      let H = found t place r next e in
      let n = body_length (get_or t place 0) in
      let body = take n (drop (place + 1) t) in
      subst Fits (sym H.record_is) (record_fits (get_or t place 0) body (bytes_take n (drop (place + 1) t) (bytes_drop (place + 1) t b)))

  pub stands_there : (kind_of r ≡ get_or t place 0) × (body_of r ≡ take (next - (place + 1)) (drop (place + 1) t)) × Fits r
  stands_there = let T = there t b place next r e in (T.kind_is, T.body_is, found_fits)

module _ (t : List ℕ) (b : AreBytes t) (short : length t ≤ 4096) where
  module _ (place next : ℕ) (r : Record) (e : Found r next ≡ read_at t place) where
    fits : Fits r
    fits = found_fits t b place next r e

    in_front_lem : (q : Parsed) → Outcome t next q → Outcome t place (in_front r q)
    in_front_lem (accepted rs) o = (begins t b place next r e ∙ ap (λ (l : List ℕ). kind_of r ∷ body_of r ++ l) o.0, (fits, o.1))
    in_front_lem (refused number at) o =
        let H = found t place r next e in
        let long = ap length (begins t b place next r e) in
        record {
          records = r ∷ o.records;
          kind = o.kind;
          rest = o.rest;
          fit = (fits, o.fit);
          splits =
              begins t b place next r e
              ∙ ap (λ (l : List ℕ). kind_of r ∷ body_of r ++ l) o.splits
              ∙ ap (λ (l : List ℕ). kind_of r ∷ l) (sym (append_assoc (body_of r) (table_of o.records) (o.kind ∷ o.rest)));
          there = omega (
            arith,
            o.there,
            H.in_table,
            H.next_is,
            long,
            length-drop place t,
            length-drop next t,
            length-append (body_of r) (drop next t),
            length-append (body_of r) (table_of o.records),
          );
          why = o.why;
        }

  -- one reading more, where what follows each next place is known
  one_more : (n place : ℕ) → place ≤ length t → length t < place + suc n
      → ((next : ℕ) → next ≤ length t → length t < next + n → Outcome t next (parse_from n t next))
      → (x : Reading) → x ≡ read_at t place → Outcome t place (go_on x (parse_from n t))
  one_more n place within fuel again (Found r next) e =
      let H = found t place r next e in
      in_front_lem place next r e (parse_from n t next) (again next (omega (arith, H.in_table, H.next_is)) (omega (arith, H.next_is)))
  one_more n place within fuel again End e = (ap (λ (j : ℕ). drop j t) (ended t place e) ∙ drop-length t, tt)
  one_more n place within fuel again (Refused number at) e =
      let S = stopped t place within short number at e in
      record {
        records = [];
        kind = get_or t place 0;
        rest = drop (place + 1) t;
        fit = tt;
        splits = drop-cons t place 0 S.inside ∙ ap (λ (k : ℕ). get_or t place 0 ∷ drop k t) (sym (add-one place));
        there = omega (arith, S.at_kind);
        why = S.why;
      }

  outcome : (n place : ℕ) → place ≤ length t → length t < place + n → Outcome t place (parse_from n t place)
  unfolding parse_from
  outcome zero place within fuel = absurd (omega arith)
  outcome (suc n) place within fuel = one_more n place within fuel (λ next w f. outcome n next w f) (read_at t place) refl

-- ---- whole tables

pub too_long_8 : (t : List ℕ) → 4096 < length t → parse t ≡ refused 8 0
unfolding parse_from
too_long_8 t h = ap (λ (x : Reading). go_on x (parse_from (length t) t)) (sym (too_long t 0 (omega arith) h))

-- a byte that is refused behind some records
module _ (rs : List Record) (kind : ℕ) (rest : List ℕ) (f : AllFit rs) where
  abbrev t : List ℕ
  t = table_of rs ++ (kind ∷ rest)

  abbrev at : ℕ
  at = length (table_of rs)

  long : length t ≡ at + suc (length rest)
  long = length-append (table_of rs) (kind ∷ rest)

  kind_there : get_or t at 0 ≡ kind
  kind_there = ap (λ (k : ℕ). get_or t k 0) (omega arith) ∙ get_or-append-add (table_of rs) (kind ∷ rest) 0 0

  inside : at ≡ length t → ⊥
  inside e = omega (arith, long, e)

  stops : (number : ℕ) → length t ≤ 4096 → Refused number at ≡ read_at t at → parse t ≡ refused number at
  unfolding parse_from
  stops number h e =
      let T = parse_through rs (kind ∷ rest) f h in
      T.1 ∙ ap (λ (x : Reading). all_in_front rs (go_on x (parse_from T.0 t))) (sym e) ∙ all_refused rs number at

  stops_9 : body_length kind ≡ 0 → length t ≤ 4096 → parse t ≡ refused 9 at
  stops_9 z h = stops 9 h (unknown_kind t at (omega (arith, long)) h inside _ refl (ap body_length kind_there ∙ z))

  stops_10 : 0 < body_length kind → length rest < body_length kind → length t ≤ 4096 → parse t ≡ refused 10 at
  stops_10 k few h =
      let same = ap body_length kind_there in
      stops 10 h (cut_short t at (omega (arith, long)) h inside _ refl (λ z. omega (arith, same)) (omega (arith, long, same)))

-- the bytes of some records and then a byte that stops there, with a reason that its kind and the bytes behind it give
abbrev pub StopsAt : List ℕ → ℕ → (ℕ → List ℕ → Type 0) → Type 0
StopsAt t place because =
    (rs : List Record)
    × (kind : ℕ)
    × (rest : List ℕ)
    × AllFit rs
    × (t ≡ table_of rs ++ (kind ∷ rest))
    × (place ≡ length (table_of rs))
    × because kind rest
    × (length t ≤ 4096)

module _ (t : List ℕ) (b : AreBytes t) where
  -- a table is too long, or what it is parsed to says what it is
  what : (q : Parsed) → parse t ≡ q → ((4096 < length t) × (refused 8 0 ≡ q)) ⊎ ((length t ≤ 4096) × Outcome t 0 q)
  what q e =
      ⊎_elim long (λ (h : length t ≤ 4096). inr (h, subst (Outcome t 0) e (outcome t b h (suc (length t)) 0 (omega arith) (omega arith))))
      (by (ltb 4096 (length t)) refl)
    where
      long : 4096 < length t → ((4096 < length t) × (refused 8 0 ≡ q)) ⊎ ((length t ≤ 4096) × Outcome t 0 q)
      long h = inl (h, sym (too_long_8 t h) ∙ e)

      by : (x : Bool) → ltb 4096 (length t) ≡ x → (4096 < length t) ⊎ (length t ≤ 4096)
      by true p = inl (ltb-true 4096 (length t) p)
      by false p = inr (ltb-false 4096 (length t) p)

  pub accepted_exactly : (rs : List Record) → (parse t ≡ accepted rs) ↔ ((t ≡ table_of rs) × AllFit rs × (length t ≤ 4096))
  accepted_exactly rs = (there, back)
    where
      there : parse t ≡ accepted rs → (t ≡ table_of rs) × AllFit rs × (length t ≤ 4096)
      there e =
          ⊎_elim
          (λ (o : (4096 < length t) × (refused 8 0 ≡ accepted rs)). let p = o.1 in let w : ◌≡◌ {A = ℕ} 0 1 = cc in absurd (omega arith))
          (λ (o : (length t ≤ 4096) × Outcome t 0 (accepted rs)). (o.1.0, o.1.1, o.0)) (what (accepted rs) e)

      back : (t ≡ table_of rs) × AllFit rs × (length t ≤ 4096) → parse t ≡ accepted rs
      back p = ap parse p.0 ∙ complete rs p.1 (subst (λ (u : List ℕ). length u ≤ 4096) p.0 p.2)

  -- no other number, and 8 for no other reason: the parse has fuel enough
  pub refused_8_exactly : (parse t ≡ refused 8 0) ↔ (4096 < length t)
  refused_8_exactly = (
    λ (e : parse t ≡ refused 8 0).
        ⊎_elim (λ (o : (4096 < length t) × (refused 8 0 ≡ refused 8 0)). o.0)
        (λ (o : (length t ≤ 4096) × Stopped t 0 8 0). absurd (not_8 o.1.kind o.1.rest o.1.why))
        (what (refused 8 0) e),
    too_long_8 t,
  )
    where
      not_8 : (kind : ℕ) (rest : List ℕ) → Why 8 kind rest → ⊥
      not_8 kind rest w = ⊎_elim (λ p. omega (arith, p.0)) (λ p. omega (arith, p.0)) w

  -- the byte behind some records that stops the parse
  stops_at : (number place : ℕ) → (number ≡ 8 → ⊥) → parse t ≡ refused number place → (length t ≤ 4096) × Stopped t 0 number place
  stops_at number place n e =
      ⊎_elim (λ (o : (4096 < length t) × (refused 8 0 ≡ refused number place)). let p = o.1 in absurd (n (cc)))
      (λ (o : (length t ≤ 4096) × Stopped t 0 number place). o)
      (what (refused number place) e)

  pub refused_9_exactly : (place : ℕ) → (parse t ≡ refused 9 place) ↔ StopsAt t place (λ kind rest. body_length kind ≡ 0)
  refused_9_exactly place = (there, back)
    where
      there : parse t ≡ refused 9 place → StopsAt t place (λ kind rest. body_length kind ≡ 0)
      there e =
          let S = stops_at 9 place (λ z. omega arith) e in
          let unknown : body_length S.1.kind ≡ 0 = ⊎_elim (λ p. p.1) (λ p. absurd (omega (arith, p.0))) S.1.why in
          (S.1.records, S.1.kind, S.1.rest, S.1.fit, S.1.splits, omega (arith, S.1.there), unknown, S.0)

      back : StopsAt t place (λ kind rest. body_length kind ≡ 0) → parse t ≡ refused 9 place
      back x =
          ap parse x.4 ∙ stops_9 x.0 x.1 x.2 x.3 x.6 (subst (λ (u : List ℕ). length u ≤ 4096) x.4 x.7) ∙ ap (refused 9) (sym x.5)

  pub refused_10_exactly : (place : ℕ)
      → (parse t ≡ refused 10 place) ↔ StopsAt t place (λ kind rest. (0 < body_length kind) × (length rest < body_length kind))
  refused_10_exactly place = (there, back)
    where
      there : parse t ≡ refused 10 place → StopsAt t place (λ kind rest. (0 < body_length kind) × (length rest < body_length kind))
      there e =
          let S = stops_at 10 place (λ z. omega arith) e in
          let cut : (0 < body_length S.1.kind) × (length S.1.rest < body_length S.1.kind) =
          ⊎_elim (λ p. absurd (omega (arith, p.0))) (λ p. (p.1, p.2)) S.1.why in
          (S.1.records, S.1.kind, S.1.rest, S.1.fit, S.1.splits, omega (arith, S.1.there), cut, S.0)

      back : StopsAt t place (λ kind rest. (0 < body_length kind) × (length rest < body_length kind)) → parse t ≡ refused 10 place
      back x =
          ap parse x.4
          ∙ stops_10 x.0 x.1 x.2 x.3 x.6.0 x.6.1 (subst (λ (u : List ℕ). length u ≤ 4096) x.4 x.7)
          ∙ ap (refused 10) (sym x.5)

  -- there is no other refusal
  pub refused_by : (number place : ℕ) → parse t ≡ refused number place → ((number ≡ 8) × (place ≡ 0)) ⊎ ((number ≡ 9) ⊎ (number ≡ 10))
  refused_by number place e =
      ⊎_elim (λ (o : (4096 < length t) × (refused 8 0 ≡ refused number place)). let p = o.1 in inl ((cc), (cc)))
      (λ (o : (length t ≤ 4096) × Stopped t 0 number place). inr (⊎_elim (λ p. inl p.0) (λ p. inr p.0) o.1.why))
      (what (refused number place) e)
