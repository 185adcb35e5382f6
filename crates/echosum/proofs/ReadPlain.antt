-- A line without a tag is read back as what it was made of; its mode and salt are those of the flags. Assumes nothing.
use mathlib.Core.Path.{◌≡◌, ◌∙◌, ap, refl, sym}
use mathlib.Core.Bool.{true, false, cond}
use mathlib.Core.Logic.{◌⊎◌, ⊎_elim}
use mathlib.Core.List.{List, [], ◌∷◌, ◌++◌, append_assoc}
use Prim.Native.Nat.{ℕ, ◌+◌, ◌*◌, ◌-◌, ◌/◌, ◌≤◌}
use native.Mathlib.Omega.{arith}
use lib.Dec.{eqb, ltb}
use lib.ListN.{drop, get_or, length, length-append, replicate, take, take-append-drop}
use lib.Seq.{drop_at, get_or_at, take-take}
use Rattle.lines.specs.Hexadecimal.{digit_of, digits_of}
use Rattle.lines.specs.Lines.{spread}
use Rattle.lines.specs.Names.{escape_of, is_plain}
use Rattle.lines.proofs.Promises.{mark_none, mark_one, plain_stays, spread_cons, spread_nil}
use Rattle.std.specs.Prelude.{None, Some, bytes_eq}
use Rattle.std.proofs.lemmas.Option.{none-some}
use Rattle.std.proofs.lemmas.Slice.Eq.{bytes_eq-Decides}
use Rattle.digits.specs.Hexadecimal.{bytes_of, nibble_of}
use Rattle.digits.proofs.Promises.{before_digits, before_small, capital}
use Rattle.echo.specs.declared.mode.Mode.{Mode}
use Rattle.echosum.specs.declared.listed.Listed.{Listed}
use Rattle.echosum.specs.declared.listed.Terms.{Terms}
use Rattle.echosum.specs.Bytes.{holds_of, part}
use Rattle.echosum.specs.Hexadecimal.{digits_in}
use Rattle.echosum.specs.Listed.{begins, bits_for, framed_of, head_of, is_admitted, listed_of, mark_in, plain_to, tagged_of}
use Rattle.echosum.specs.Names.{is_name, unescaped}
use Rattle.echosum.specs.ReadBack.{AreBytes, ReadBack, one}
use Rattle.echosum.specs.Style.{back_of, end_of, front_of, line_of, plain_line}
use Rattle.echosum.proofs.Laws.Listed.{from_there, it_is_plain, marked, none_wanted, plain_good, these_wanted, two_spaces, unmarked}
use Rattle.echosum.proofs.Laws.Names.{escaped_is_name, plain_is_name, still, unescaped_escaped}
use Rattle.echosum.proofs.Laws.Style.{by, length_digits}
use Rattle.echosum.proofs.ReadBack.{admitted_bounds, digest_back, high, last, low, middle}

-- ---- the digits in front

space : nibble_of 32 ≡ None
space = before_digits 32 (omega arith)

backslash : nibble_of 92 ≡ None
backslash = before_small 92 (omega arith) (omega arith)

digits_front : (bytes rest : List ℕ) → AreBytes bytes → digits_in (spread digits_of bytes ++ (32 ∷ rest)) ≡ 2 * length bytes
unfolding digits_in
digits_front [] rest b = rw (spread_nil digits_of, space)
digits_front (x ∷ xs) rest (one h b) =
    rw (spread_cons digits_of x xs, high x h, low x) (omega (arith, digits_front xs rest b))

echo_front : (rest : List ℕ) → digits_in (begins ++ rest) ≡ 2
unfolding digits_in
echo_front rest = rw (capital 69 (omega arith) (omega arith), capital 67 (omega arith) (omega arith), before_small 72 (omega arith) (omega arith))

-- ---- no tag, and no mark

module _ (bytes rest mark : List ℕ) (b : AreBytes bytes) (n : 16 ≤ length bytes) (at : ℕ) (m : at ≡ length mark) where
  not_framed : framed_of (part at (at + 50) (mark ++ (spread digits_of bytes ++ (32 ∷ rest)))) ≡ false
  unfolding framed_of
  not_framed =
      by (bytes_eq (part 0 5 (part at (at + 50) (mark ++ (spread digits_of bytes ++ (32 ∷ rest))))) begins)
      (λ t.
      let z : at + 50 - at ≡ 50 = omega arith in
      let same : part 0 5 (part at (at + 50) (mark ++ (spread digits_of bytes ++ (32 ∷ rest)))) ≡ begins
      = (bytes_eq-Decides (part 0 5 (part at (at + 50) (mark ++ (spread digits_of bytes ++ (32 ∷ rest))))) begins).0 t in
      let e : take 5 (take 50 (spread digits_of bytes ++ (32 ∷ rest))) ≡ begins
      = rw (z, drop_at mark (spread digits_of bytes ++ (32 ∷ rest)) at (sym m)) at same in
      let f : take 5 (spread digits_of bytes ++ (32 ∷ rest)) ≡ begins
      = sym (take-take 5 50 (spread digits_of bytes ++ (32 ∷ rest)) (omega arith)) ∙ e in
      let w : digits_in (spread digits_of bytes ++ (32 ∷ rest)) ≡ 2
      = ap digits_in (sym (take-append-drop 5 (spread digits_of bytes ++ (32 ∷ rest))))
      ∙ ap (λ (l : List ℕ). digits_in (l ++ drop 5 (spread digits_of bytes ++ (32 ∷ rest)))) f
      ∙ echo_front (drop 5 (spread digits_of bytes ++ (32 ∷ rest))) in
      absurd (omega (arith, w, digits_front bytes rest b)))
      (λ t. rw t)

  not_tagged : tagged_of (mark ++ (spread digits_of bytes ++ (32 ∷ rest))) at ≡ None
  unfolding tagged_of head_of
  not_tagged =
      by (ltb (length (mark ++ (spread digits_of bytes ++ (32 ∷ rest))) - at) 50)
      (λ t. rw t)
      (λ t. rw (t, not_framed))

no_mark : (bytes rest : List ℕ) → AreBytes bytes → 16 ≤ length bytes → mark_in (spread digits_of bytes ++ rest) ≡ 0
no_mark [] rest b n = absurd (omega arith)
no_mark (x ∷ xs) rest (one h b) n =
    rw (spread_cons digits_of x xs)
    (unmarked _ (λ e. omega arith)
    (λ e. let w : nibble_of (digit_of (x / 16)) ≡ nibble_of 92 = ap nibble_of e in absurd (none-some (x / 16) (sym backslash ∙ sym w ∙ high x h))))

-- ---- a whole line, with a mark in front and a name that may be escaped

module _ (digest : List ℕ) (db : AreBytes digest) (terms : Terms) (a : is_admitted (4 * (2 * length digest)) ≡ true)
    (w : (terms.bits ≡ None) ⊎ (terms.bits ≡ Some (4 * (2 * length digest))))
    (mark name : List ℕ) (at : ℕ) (m : at ≡ length mark) (is : is_name (eqb at 1) name ≡ true) (some : length name ≡ 0 → ⊥) where
  line : List ℕ
  line = mark ++ (spread digits_of digest ++ (32 ∷ 32 ∷ name))

  end : ℕ
  end = at + 2 * length digest

  sixteen : 16 ≤ length digest
  sixteen = let v = admitted_bounds (4 * (2 * length digest)) a in omega arith

  length_line : length line ≡ at + 2 * length digest + 2 + length name
  unfolding line
  length_line = simp length-append (omega (arith, length_digits digest))

  length_front : length (mark ++ spread digits_of digest) ≡ end
  unfolding end
  length_front = simp length-append (omega (arith, length_digits digest))

  behind_front : line ≡ (mark ++ spread digits_of digest) ++ (32 ∷ 32 ∷ name)
  unfolding line
  behind_front = sym (append_assoc mark (spread digits_of digest) (32 ∷ 32 ∷ name))

  digits_are : digits_in (part at (length line) line) ≡ 2 * length digest
  unfolding line
  digits_are =
      ap digits_in (last mark (spread digits_of digest ++ (32 ∷ 32 ∷ name)) at (length line) m (simp length-append (omega arith)))
      ∙ digits_front digest (32 ∷ name) db

  bits_are : bits_for (2 * length digest) terms.bits ≡ Some (4 * (2 * length digest))
  bits_are =
      let v = admitted_bounds (4 * (2 * length digest)) a in
      ⊎_elim
      (λ z. none_wanted (2 * length digest) terms.bits (omega arith) a z)
      (λ z. these_wanted (2 * length digest) terms.bits (omega arith) a z)
      w

  first_space : get_or line end 0 ≡ 32
  first_space = ap (λ (l : List ℕ). get_or l end 0) behind_front ∙ get_or_at (mark ++ spread digits_of digest) 32 (32 ∷ name) 0 end length_front

  second_space : get_or line (end + 1) 0 ≡ 32
  unfolding end
  second_space =
      ap (λ (l : List ℕ). get_or l (end + 1) 0) (behind_front ∙ sym (append_assoc (mark ++ spread digits_of digest) (32 ∷ []) (32 ∷ name)))
      ∙ get_or_at ((mark ++ spread digits_of digest) ++ (32 ∷ [])) 32 name 0 (end + 1) (simp length-append (omega (arith, length_digits digest)))

  name_part : part (end + 2) (length line) line ≡ name
  unfolding end
  name_part =
      ap (part (end + 2) (length line)) (behind_front ∙ sym (append_assoc (mark ++ spread digits_of digest) (32 ∷ 32 ∷ []) name))
      ∙ last ((mark ++ spread digits_of digest) ++ (32 ∷ 32 ∷ [])) name (end + 2) (length line)
      (simp length-append (omega (arith, length_digits digest)))
      (rw length_line (simp length-append (omega (arith, length_digits digest))))

  hex_part : part at end line ≡ spread digits_of digest
  unfolding line end
  hex_part = middle mark (spread digits_of digest) (32 ∷ 32 ∷ name) at (at + 2 * length digest) m (omega (arith, length_digits digest))

  -- what the line says
  said : Listed
  said =
      record {
        mode = terms.mode;
        bits = 4 * (2 * length digest);
        salt = terms.salt;
        digest = digest ++ drop (length digest) (replicate 64 0);
        is_escaped = eqb at 1;
        from = end + 2;
        to = length line;
      }

  room : 3 ≤ length line - end
  unfolding end
  room = let v : 1 ≤ length name = omega (arith, some) in omega (arith, length_line)

  plain_back : plain_to line at terms end (4 * (2 * length digest)) ≡ Some said
  unfolding said
  plain_back =
      let v = admitted_bounds (4 * (2 * length digest)) a in
      plain_good line at terms end (4 * (2 * length digest)) (digest ++ drop (length digest) (replicate 64 0)) room
      (two_spaces (get_or line end 0) (get_or line (end + 1) 0) first_space second_space)
      (ap (is_name (eqb at 1)) name_part ∙ is)
      (ap (bytes_of 64) hex_part ∙ digest_back digest db (omega arith))

  all_back : (whole : List ℕ) → cond (eqb at 1) (unescaped name) name ≡ whole
      → mark_in (mark ++ (spread digits_of digest ++ (32 ∷ 32 ∷ name))) ≡ at
      → ReadBack (4 * (2 * length digest)) terms.mode terms.salt digest whole (mark ++ (spread digits_of digest ++ (32 ∷ 32 ∷ name)))
      (listed_of (mark ++ (spread digits_of digest ++ (32 ∷ 32 ∷ name))) terms)
  unfolding line end said
  all_back whole e p =
      record {
        said = said;
        is_good =
            it_is_plain line terms at p (not_tagged digest (32 ∷ name) mark db sixteen at m)
            ∙ from_there line at terms (2 * length digest) (4 * (2 * length digest)) digits_are bits_are
            ∙ plain_back;
        bits_are = refl;
        mode_is = refl;
        salt_is = refl;
        digest_is = refl;
        name_is = rw name_part e;
      }

-- ---- the theorem

module _ (digest : List ℕ) (db : AreBytes digest) (terms : Terms) (a : is_admitted (4 * (2 * length digest)) ≡ true)
    (w : (terms.bits ≡ None) ⊎ (terms.bits ≡ Some (4 * (2 * length digest))))
    (name : List ℕ) (h : length name ≡ 0 → ⊥) (z : holds_of 0 name ≡ false) where
  as_it_is : is_plain name ≡ true
      → ReadBack (4 * (2 * length digest)) terms.mode terms.salt digest name (plain_line digest name) (listed_of (plain_line digest name) terms)
  unfolding plain_line
  as_it_is p =
      rw (mark_none name p, plain_stays name p)
      (all_back digest db terms a w [] name 0 refl (plain_is_name name h z) h name refl
      (no_mark digest (32 ∷ 32 ∷ name) db (sixteen digest db terms a w [] name 0 refl (plain_is_name name h z) h)))

  escaped : is_plain name ≡ false
      → ReadBack (4 * (2 * length digest)) terms.mode terms.salt digest name (plain_line digest name) (listed_of (plain_line digest name) terms)
  unfolding plain_line
  escaped p =
      rw (mark_one name p)
      (all_back digest db terms a w (92 ∷ []) (spread escape_of name) 1 refl (escaped_is_name name h z) (still name h) name
      (unescaped_escaped name)
      (marked (92 ∷ (spread digits_of digest ++ (32 ∷ 32 ∷ spread escape_of name))) (λ e. omega arith) refl))

  pub plain_read_back
      : ReadBack (4 * (2 * length digest)) terms.mode terms.salt digest name (plain_line digest name) (listed_of (plain_line digest name) terms)
  plain_read_back = by (is_plain name) as_it_is escaped

-- ---- the line that is written

-- without a tag and with a line end, it is that line
pub plain_is_written : (bits : ℕ) (mode : Mode) (salt digest name : List ℕ)
    → line_of (record { is_tagged = false; is_zero_ended = false; mode = mode; bits = bits; salt = salt }) digest name
    ≡ plain_line digest name ++ (10 ∷ [])
unfolding line_of front_of back_of end_of plain_line
plain_is_written bits isSingle salt digest name = simp append_assoc
