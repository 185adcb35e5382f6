-- What a line of a list says. Assumes nothing.
use Rattle.std.proofs.Common.{◌≡◌, refl, subst, sym, arith, Bool, true, false, cond, eqb, ltb, eq-eqb}
use Rattle.std.proofs.Common.{ℕ, ◌+◌, ◌*◌, ◌-◌, ◌/◌, ◌≤◌, List, get_or, length, length-drop, length-take}
use Rattle.std.proofs.lemmas.Bool.{le-ltb, ltb-false, ne_eqb}
use Rattle.std.proofs.lemmas.Option.{none-some, same_Some}
use Rattle.std.specs.Prelude.{Option, None, Some, bytes_eq}
use Rattle.std.specs.Option.{option_and_then, option_or}
use Rattle.digits.specs.Hexadecimal.{bytes_of}
use Rattle.echosum.specs.declared.listed.Head.{Head}
use Rattle.echosum.specs.declared.listed.Listed.{Listed}
use Rattle.echosum.specs.declared.listed.Terms.{Terms}
use Rattle.echosum.specs.Bytes.{part}
use Rattle.echosum.specs.Hexadecimal.{digits_in}
use Rattle.echosum.specs.Listed.{bits_for, closes, gap_of, head_of, is_admitted, listed_of, mark_in, plain_of, plain_to, tagged_by, tagged_of, tagged_to}
use Rattle.echosum.specs.Names.{is_name}

-- ---- small tests

module _ (digits : ℕ) (wanted : Option ℕ) (h : digits ≤ 128) (a : is_admitted (4 * digits) ≡ true) where
  pub none_wanted : wanted ≡ None → bits_for digits wanted ≡ Some (4 * digits)
  unfolding bits_for
  none_wanted w = rw (le-ltb 128 digits h, a, w)

  pub these_wanted : wanted ≡ Some (4 * digits) → bits_for digits wanted ≡ Some (4 * digits)
  unfolding bits_for
  these_wanted w = rw (le-ltb 128 digits h, a, w, eq-eqb (4 * digits) (4 * digits) refl)

pub two_spaces : (one two : ℕ) → one ≡ 32 → two ≡ 32 → gap_of one two ≡ true
unfolding gap_of
two_spaces one two h g = rw (h, g)

module _ (line : List ℕ) (h : length line ≡ 0 → ⊥) where
  pub marked : get_or line 0 0 ≡ 92 → mark_in line ≡ 1
  unfolding mark_in
  marked g = rw (ne_eqb (length line) 0 h, g)

  pub unmarked : (get_or line 0 0 ≡ 92 → ⊥) → mark_in line ≡ 0
  unfolding mark_in
  unmarked g = rw (ne_eqb (length line) 0 h, ne_eqb (get_or line 0 0) 92 g)

-- ---- a line that is good, without a tag and with one

pub plain_good : (line : List ℕ) (at : ℕ) (terms : Terms) (end bits : ℕ) (digest : List ℕ)
    → 3 ≤ length line - end
    → gap_of (get_or line end 0) (get_or line (end + 1) 0) ≡ true
    → is_name (eqb at 1) (part (end + 2) (length line) line) ≡ true
    → bytes_of 64 (part at end line) ≡ Some digest
    → plain_to line at terms end bits
    ≡ Some (record {
      mode = terms.mode;
      bits = bits;
      salt = terms.salt;
      digest = digest;
      is_escaped = eqb at 1;
      from = end + 2;
      to = length line;
    })
unfolding plain_to
plain_good line at terms end bits digest h g i d = rw (le-ltb (length line - end) 3 h, g, i, d)

pub from_there : (line : List ℕ) (at : ℕ) (terms : Terms) (digits bits : ℕ)
    → digits_in (part at (length line) line) ≡ digits
    → bits_for digits terms.bits ≡ Some bits
    → plain_of line at terms ≡ plain_to line at terms (at + digits) bits
unfolding plain_of
from_there line at terms digits bits d b = rw (d, b)

pub tagged_good : (line : List ℕ) (at : ℕ) (head : Head) (digest : List ℕ)
    → 50 ≤ length line - at
    → head_of (part at (at + 50) line) ≡ Some head
    → head.bits / 4 + 4 ≤ length line - (at + 50)
    → bytes_eq (part (length line - head.bits / 4 - 4) (length line - head.bits / 4) line) closes ≡ true
    → is_name (eqb at 1) (part (at + 50) (length line - head.bits / 4 - 4) line) ≡ true
    → bytes_of 64 (part (length line - head.bits / 4) (length line) line) ≡ Some digest
    → tagged_of line at
    ≡ Some (record {
      mode = head.mode;
      bits = head.bits;
      salt = head.salt;
      digest = digest;
      is_escaped = eqb at 1;
      from = at + 50;
      to = length line - head.bits / 4 - 4;
    })
unfolding tagged_of tagged_by tagged_to
tagged_good line at head digest a h b c i d =
    rw (le-ltb (length line - at) 50 a, h, le-ltb (length line - (at + 50)) (head.bits / 4 + 4) b, c, i, d)

module _ (line : List ℕ) (terms : Terms) (at : ℕ) (p : mark_in line ≡ at) where
  pub it_is_tagged : (r : Listed) → tagged_of line at ≡ Some r → listed_of line terms ≡ Some r
  unfolding listed_of
  it_is_tagged r e = rw (p, e)

  pub it_is_plain : tagged_of line at ≡ None → listed_of line terms ≡ plain_of line at terms
  unfolding listed_of
  it_is_plain e = rw (p, e)

-- ---- where the digits of a line without a tag end

pub digits_within : (line : List ℕ) (at digits : ℕ) → at ≤ length line → digits ≤ length (part at (length line) line) → at + digits ≤ length line
digits_within line at digits h l = omega (arith, simp (length-take, length-drop) at l)

-- ---- where the name stands

pub record Within (line : List ℕ) (r : Listed) : Type 0 where
  pub starts : r.from ≤ r.to
  pub ends : r.to ≤ length line

module _ (line : List ℕ) where
  abbrev IfWithin : Option Listed → Type 0
  IfWithin o = (r : Listed) → o ≡ Some r → Within line r

  none_within : IfWithin None
  none_within r e = absurd (none-some r e)

  some_within : (r : Listed) → Within line r → IfWithin (Some r)
  some_within r w s e = subst (Within line) (same_Some r s e) w

  either : (b : Bool) (x y : Option Listed) → (b ≡ true → IfWithin x) → (b ≡ false → IfWithin y) → IfWithin (cond b x y)
  either true x y f g = f refl
  either false x y f g = g refl

  each : {A : Type 0} (o : Option A) (f : A → Option Listed) → ((x : A) → IfWithin (f x)) → IfWithin (option_and_then f o)
  each None f h = none_within
  each (Some x) f h = h x

  first : (o p : Option Listed) → IfWithin o → IfWithin p → IfWithin (option_or o p)
  first None p h g = g
  first (Some x) p h g = h

  plain_within : (at : ℕ) (terms : Terms) (end bits : ℕ) → IfWithin (plain_to line at terms end bits)
  unfolding plain_to
  plain_within at terms end bits =
      either (ltb (length line - end) 3) _ _
      (λ _. none_within)
      (λ h.
      let w : end + 2 ≤ length line = omega (arith, ltb-false (length line - end) 3 h) in
      either (gap_of (get_or line end 0) (get_or line (end + 1) 0)) _ _
      (λ _.
      either (is_name (eqb at 1) (part (end + 2) (length line) line)) _ _
      (λ _. each (bytes_of 64 (part at end line)) _ (λ digest. some_within _ (record { starts = w; ends = omega arith })))
      (λ _. none_within))
      (λ _. none_within))

  tagged_within : (at : ℕ) (head : Head) (from begin : ℕ) → from ≤ begin - 4 → begin - 4 ≤ length line
      → IfWithin (tagged_to line at head from begin)
  unfolding tagged_to
  tagged_within at head from begin p q =
      either (bytes_eq (part (begin - 4) begin line) closes) _ _
      (λ _.
      either (is_name (eqb at 1) (part from (begin - 4) line)) _ _
      (λ _. each (bytes_of 64 (part begin (length line) line)) _ (λ digest. some_within _ (record { starts = p; ends = q })))
      (λ _. none_within))
      (λ _. none_within)

  behind_within : (at : ℕ) (head : Head) → IfWithin (tagged_by line at head)
  unfolding tagged_by
  behind_within at head =
      either (ltb (length line - (at + 50)) (head.bits / 4 + 4)) _ _
      (λ _. none_within)
      (λ h.
      let l = ltb-false (length line - (at + 50)) (head.bits / 4 + 4) h in
      tagged_within at head (at + 50) (length line - head.bits / 4) (omega (arith, l)) (omega arith))

  tag_within : (at : ℕ) → IfWithin (tagged_of line at)
  unfolding tagged_of
  tag_within at =
      either (ltb (length line - at) 50) _ _ (λ _. none_within) (λ _. each (head_of (part at (at + 50) line)) _ (λ head. behind_within at head))

  untagged_within : (at : ℕ) (terms : Terms) → IfWithin (plain_of line at terms)
  unfolding plain_of
  untagged_within at terms = each (bits_for (digits_in (part at (length line) line)) terms.bits) _ (λ bits. plain_within at terms _ bits)

  module _ (terms : Terms) where
    listed_within : IfWithin (listed_of line terms)
    unfolding listed_of
    listed_within = first (tagged_of line (mark_in line)) _ (tag_within (mark_in line)) (untagged_within (mark_in line) terms)

    module _ (r : Listed) (e : Some r ≡ listed_of line terms) where
      pub name_starts : r.from ≤ r.to
      name_starts = (listed_within r (sym e)).starts

      pub name_ends : r.to ≤ length line
      name_ends = (listed_within r (sym e)).ends
