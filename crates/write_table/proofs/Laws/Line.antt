-- What a line says, by the tests that led there. Assumes nothing.
use mathlib.Core.Path.{◌≡◌, ◌∙◌, ap, refl, sym}
use mathlib.Core.Bool.{Bool, true, false, cond, not, true≢false, ◌&&◌}
use mathlib.Core.List.{List, [], ◌∷◌, ◌++◌, append-nil}
use Prim.Native.Nat.{ℕ, suc, ◌+◌, ◌*◌, ◌-◌, ◌/◌, ◌<◌, ◌≤◌}
use native.Mathlib.Omega.{arith}
use borrow.Author.Tests.{eq-eqb, eqb-true, ltb-false, ne_eqb}
use lib.Dec.{eqb, leb, ltb}
use lib.ListN.{drop, get_or, length, length-append, length-drop, length-take, take}
use lib.Seq.{take_all}
use Rattle.std.specs.Prelude.{None, Some, position, unwrap_or}
use Rattle.std.specs.Char.{is_ascii_digit}
use Rattle.std.proofs.lemmas.List.Recursion.{is_position_or_len}
use Rattle.lines.specs.Decimal.{decimal_of}
use Rattle.lines.proofs.Promises.{few_digits}
use Rattle.steering.specs.Answers.{End, Found, Reading, Refused}
use Rattle.steering.specs.Reading.{read_at}
use Rattle.steering.proofs.Promises.{found_short}
use Rattle.write_table.specs.declared.line.Line.{Line}
use Rattle.write_table.specs.declared.line.Line.TheVariants.{Unreadable}
use Rattle.write_table.specs.Hexadecimal.{is_hex, pairs_of}
use Rattle.write_table.specs.Line.{alone, count_line, digits_in, hex_behind, is_framed, only_record, record_behind, same_of}
use Rattle.write_table.proofs.Laws.Hexadecimal.{by, hex_even, hex_front, pairs_front}

-- ---- the place

at_most_all : (line : List ℕ) → digits_in line ≤ length line
unfolding digits_in
at_most_all [] = omega arith
at_most_all (x ∷ xs) = by (leb 48 x && leb x 57) (λ t. rw t (omega (arith, at_most_all xs))) (λ f. rw f (omega arith))

chosen : (d n : ℕ) → d ≤ n → unwrap_or (cond (ltb d n) (Some d) None) n ≡ d
chosen d n h = by (ltb d n) (λ t. rw t) (λ f. rw f (omega (arith, ltb-false d n f)))

either_way : (t : Bool) (n : ℕ) → cond t (suc n) 0 ≡ cond (not t) 0 (1 + n)
either_way true n = omega arith
either_way false n = refl

-- the digits end at the first byte that is none
pub digits_end : (line : List ℕ) → unwrap_or (position (λ x. not (is_ascii_digit x)) line) (length line) ≡ digits_in line
unfolding digits_in
digits_end line =
    let e = is_position_or_len digits_in (λ x. not (is_ascii_digit x)) refl (λ x xs. either_way (leb 48 x && leb x 57) (digits_in xs)) line in
    rw (← e) (chosen (digits_in line) (length line) (at_most_all line))

-- ---- what stands behind it

module _ (line : List ℕ) (at : ℕ) where
  -- there is room for a space, two bytes and a space
  pub framed_long : (g : Bool) → g ≡ is_framed line at → g ≡ true → at + 4 ≤ length line
  unfolding is_framed
  framed_long g e y =
      by (eqb at 0)
      (λ p. absurd (true≢false (sym (sym e ∙ y) ∙ rw p)))
      (λ p.
      by (ltb (length line - at) 4)
      (λ q. absurd (true≢false (sym (sym e ∙ y) ∙ rw (p, q))))
      (λ q. omega (arith, ltb-false (length line - at) 4 q)))

-- ---- the record that some bytes are

-- no record has more than 33 bytes
no_record : (bytes : List ℕ) → 33 < length bytes → Unreadable ≡ alone bytes
unfolding alone
no_record bytes h = go (read_at bytes 0) refl
  where
    go : (x : Reading) → x ≡ read_at bytes 0 → Unreadable ≡ only_record (length bytes) x
    go (Found r next) e = rw (ne_eqb next (length bytes) (λ n. omega (arith, n, h, found_short bytes 0 r next e)))
    go End e = refl
    go (Refused number place) e = refl

-- ---- the record behind a place

module _ (line : List ℕ) (at : ℕ) (h : at + 4 ≤ length line) where
  abbrev kind : List ℕ
  kind = take 2 (drop (at + 1) line)

  abbrev body : List ℕ
  body = drop (at + 4) line

  two : length kind ≡ 2
  two = omega (arith, h, length-take 2 (drop (at + 1) line), length-drop (at + 1) line)

  body_too_long : 64 < length body → Unreadable ≡ record_behind line at
  unfolding record_behind
  body_too_long long =
      by (is_hex (hex_behind line at))
      (λ p. rw p (no_record (pairs_of (hex_behind line at)) (omega (arith, long, hex_even (hex_behind line at) p, length-append kind body, two))))
      (λ p. rw p)

  -- as the code cuts them out of the line
  abbrev kind_part : List ℕ
  kind_part = take (at + 1 + 2 - (at + 1)) (drop (at + 1) line)

  abbrev body_part : List ℕ
  body_part = take (length line - (at + 4)) (drop (at + 4) line)

  kind_is : kind_part ≡ kind
  kind_is = let n : at + 1 + 2 - (at + 1) ≡ 2 = omega arith in ap (λ (k : ℕ). take k (drop (at + 1) line)) n

  body_is : body_part ≡ body
  body_is = take_all (length line - (at + 4)) (drop (at + 4) line) (omega (arith, length-drop (at + 4) line))

  -- of two digits no byte is left out
  pub no_kind : (is_hex kind_part ≡ true → 2 * 1 < length kind_part) → Unreadable ≡ record_behind line at
  unfolding record_behind
  no_kind n =
      by (is_hex kind)
      (λ y. absurd (omega (arith, n (ap is_hex kind_is ∙ y), ap length kind_is, two)))
      (λ f. rw (hex_front kind body two, f))

  -- what the code reads of the kind
  module _ (first : List ℕ)
      (one : (is_hex kind_part ≡ true) × (length kind_part ≤ 2 * 1) × (take (length kind_part / 2) first ≡ pairs_of kind_part)) where
    kind_hex : is_hex kind ≡ true
    kind_hex = ap is_hex (sym kind_is) ∙ one.0

    pub no_body : (is_hex body_part ≡ true → 2 * 32 < length body_part) → Unreadable ≡ record_behind line at
    unfolding record_behind
    no_body n =
        by (is_hex body)
        (λ z. body_too_long (omega (arith, n (ap is_hex body_is ∙ z), ap length body_is)))
        (λ f. rw (hex_front kind body two, kind_hex, f))

    -- the bytes of both, one behind the other
    module _ (rest : List ℕ)
        (all : (is_hex body_part ≡ true) × (length body_part ≤ 2 * 32) × (take (length body_part / 2) rest ≡ pairs_of body_part)) where
      first_is : get_or first 0 0 ∷ [] ≡ pairs_of kind
      first_is = go first (ap (λ (k : ℕ). take k first) size ∙ one.2 ∙ ap pairs_of kind_is)
        where
          size : 1 ≡ length kind_part / 2
          size = omega (arith, ap length kind_is, two)

          go : (l : List ℕ) → take 1 l ≡ pairs_of kind → get_or l 0 0 ∷ [] ≡ pairs_of kind
          go [] e = absurd (omega (arith, ap length e, hex_even kind kind_hex, two))
          go (x ∷ xs) e = e

      pub whole_record : (r : Line) (put : List ℕ) → put ≡ rest → r ≡ alone (take (1 + (length line - (at + 4)) / 2) (get_or first 0 0 ∷ (put ++ [])))
          → r ≡ record_behind line at
      unfolding record_behind
      whole_record r put p s =
          let size : 1 + (length line - (at + 4)) / 2 ≡ suc (length body_part / 2) = omega (arith, ap length body_is, length-drop (at + 4) line) in
          let back : take (length body_part / 2) rest ≡ pairs_of body = all.2 ∙ ap pairs_of body_is in
          let front : get_or first 0 0 ∷ pairs_of body ≡ pairs_of kind ++ pairs_of body = ap (λ (l : List ℕ). l ++ pairs_of body) first_is in
          let hex : is_hex body ≡ true = ap is_hex (sym body_is) ∙ all.0 in
          s
          ∙ rw (size, p, append-nil rest, back)
          (ap alone front ∙ rw (hex_front kind body two, kind_hex, hex, pairs_front kind body two))

-- ---- the count

pub same_self : (a : List ℕ) → same_of a a ≡ true
unfolding same_of
same_self [] = refl
same_self (x ∷ xs) = rw (eq-eqb x x refl) (same_self xs)

pub same_equal : (a b : List ℕ) → same_of a b ≡ true → a ≡ b
unfolding same_of
same_equal [] [] h = refl
same_equal [] (y ∷ ys) h = absurd (true≢false (sym h))
same_equal (x ∷ xs) [] h = absurd (true≢false (sym h))
same_equal (x ∷ xs) (y ∷ ys) h = by_head (eqb x y) refl (same_equal xs ys)
  where
    by_head : (t : Bool) → eqb x y ≡ t → (same_of xs ys ≡ true → xs ≡ ys) → x ∷ xs ≡ y ∷ ys
    by_head true e f = let p = eqb-true x y e in let q = f (simp e at h) in cc
    by_head false e f = absurd (true≢false (sym (simp e at h)))

-- the line of the count is not cut off
pub count_put : (count : ℕ) → take 28 (take 28 (114 ∷ 101 ∷ 99 ∷ 111 ∷ 114 ∷ 100 ∷ 115 ∷ 32 ∷ []) ++ decimal_of count) ≡ count_line count
count_put count = take_all 28 (count_line count) (omega (arith, few_digits count))
