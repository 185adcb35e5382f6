-- Names in a list, byte by byte. Assumes nothing.
use mathlib.Core.Path.{◌≡◌, ◌∙◌, ap, refl, sym}
use mathlib.Core.Bool.{Bool, true, false, cond, not}
use mathlib.Core.List.{List, [], ◌∷◌, ◌++◌, append_assoc, append-nil}
use Prim.Native.Nat.{ℕ, ◌+◌, ◌<◌, ◌≤◌}
use native.Mathlib.Numerals.{add-one}
use native.Mathlib.Omega.{arith}
use borrow.Author.Tests.{ne_eqb}
use lib.Dec.{eqb}
use lib.ListN.{drop, get_or, length, take}
use lib.Seq.{drop-cons, drop-length, take-suc}
use Rattle.std.specs.List.{list_any}
use Rattle.std.proofs.lemmas.List.{take_all}
use Rattle.lines.specs.Lines.{spread}
use Rattle.lines.specs.Names.{escape_of}
use Rattle.lines.proofs.Promises.{escape_cases, put_behind, spread_cons, spread_nil}
use Rattle.echosum.specs.Bytes.{holds_of}
use Rattle.echosum.specs.Names.{are_escapes, are_escapes_from, fault_at, is_name, meant_by, opens_at, unescaped, unescaped_from, undone_at}
use Rattle.echosum.proofs.Laws.Style.{by}

-- ---- whether escapes can be undone

module _ (text : List ℕ) where
  pub escapes_begin : are_escapes text ≡ are_escapes_from false text
  unfolding are_escapes
  escapes_begin = refl

  module _ (i : ℕ) (o : Bool) (so_far : are_escapes text ≡ are_escapes_from o (drop i text)) where
    module _ (h : i < length text) (t : Bool) (q : t ≡ fault_at o (get_or text i 0)) where
      pub no_escape : t ≡ true → false ≡ are_escapes text
      unfolding are_escapes_from
      no_escape z = sym (so_far ∙ rw (drop-cons text i 0 h, ← q, z))

      pub escapes_go_on : t ≡ false → (p : Bool) → p ≡ opens_at o (get_or text i 0) → are_escapes text ≡ are_escapes_from p (drop (i + 1) text)
      unfolding are_escapes_from
      escapes_go_on z p r = so_far ∙ rw (drop-cons text i 0 h, ← q, z, r, add-one i)

    pub escapes_end : i ≤ length text → length text ≤ i → not o ≡ are_escapes text
    unfolding are_escapes_from
    escapes_end h g = let p : i ≡ length text = omega arith in sym (so_far ∙ rw (p, drop-length))

-- ---- a byte among others

pub any_holds : (byte : ℕ) (bytes : List ℕ) → list_any (λ x. eqb x byte) bytes ≡ holds_of byte bytes
unfolding holds_of
any_holds byte [] = refl
any_holds byte (x ∷ xs) = by (eqb x byte) (λ t. rw t) (λ f. rw f (any_holds byte xs))

-- ---- names

module _ (text : List ℕ) (o empty : Bool) (p : empty ≡ eqb (length text) 0) (e : empty ≡ false) (t : Bool) (q : t ≡ list_any (λ x. eqb x 0) text) where
  some : eqb (length text) 0 ≡ false
  some = sym p ∙ e

  zero : holds_of 0 text ≡ t
  zero = sym (any_holds 0 text) ∙ sym q

  pub zero_byte : t ≡ true → false ≡ is_name o text
  unfolding is_name
  zero_byte z = rw (some, zero, z)

  pub escaped_name : t ≡ false → o ≡ true → (r : Bool) → r ≡ are_escapes text → r ≡ is_name o text
  unfolding is_name
  escaped_name z g r w = rw (some, zero, z, g, w)

  pub plain_name : t ≡ false → o ≡ false → not o ≡ is_name o text
  unfolding is_name
  plain_name z g = rw (some, zero, z, g)

-- ---- escapes undone

-- whether the last byte of a text begins an escape
unfoldable pub opened_after : Bool → List ℕ → Bool
opened_after o [] = o
opened_after o (x ∷ xs) = opened_after (opens_at o x) xs

opened_append : (o : Bool) (xs ys : List ℕ) → opened_after o (xs ++ ys) ≡ opened_after (opened_after o xs) ys
unfolding opened_after
opened_append o [] ys = refl
opened_append o (x ∷ xs) ys = opened_append (opens_at o x) xs ys

undone_append : (o : Bool) (xs ys : List ℕ) → unescaped_from o (xs ++ ys) ≡ unescaped_from o xs ++ unescaped_from (opened_after o xs) ys
unfolding opened_after unescaped_from
undone_append o [] ys = refl
undone_append o (x ∷ xs) ys = rw (undone_append (opens_at o x) xs ys, append_assoc)

module _ (text : List ℕ) where
  pub closed_at_first : false ≡ opened_after false (take 0 text)
  unfolding opened_after
  closed_at_first = refl

  module _ (i : ℕ) (h : i < length text) (o : Bool) (q : o ≡ opened_after false (take i text)) where
    pub opened_next : (p : Bool) → p ≡ opens_at o (get_or text i 0) → p ≡ opened_after false (take (i + 1) text)
    unfolding opened_after
    opened_next p r = r ∙ rw (q, add-one i, take-suc text i 0 h, opened_append)

    module _ (size : ℕ) (line so_far next : List ℕ) where
      pub undone_next : so_far ≡ take size (line ++ unescaped (take i text)) → next ≡ take size (so_far ++ undone_at o (get_or text i 0))
          → next ≡ take size (line ++ unescaped (take (i + 1) text))
      unfolding unescaped unescaped_from
      undone_next s t =
          let e : unescaped_from false (take (i + 1) text) ≡ unescaped_from false (take i text) ++ undone_at o (get_or text i 0)
          = rw (add-one i, take-suc text i 0 h, undone_append, ← q, append-nil) in
          t ∙ rw (s, put_behind, e) (rw append_assoc)

  module _ (size : ℕ) (line : List ℕ) where
    pub undone_none : length line ≤ size → line ≡ take size (line ++ unescaped (take 0 text))
    unfolding unescaped unescaped_from
    undone_none h = rw append-nil (sym (take_all size line h))

-- ---- what was escaped

-- whatever stands behind it
undone_escape : (rest : List ℕ) (x : ℕ) → unescaped_from false (escape_of x ++ rest) ≡ x ∷ unescaped_from false rest
unfolding unescaped_from meant_by
undone_escape rest =
    escape_cases (λ x text. unescaped_from false (text ++ rest) ≡ x ∷ unescaped_from false rest) refl refl refl
    (λ x u v w. simp (ne_eqb x 92 w))

good_escape : (rest : List ℕ) (x : ℕ) → are_escapes_from false (escape_of x ++ rest) ≡ are_escapes_from false rest
unfolding are_escapes_from meant_by
good_escape rest =
    escape_cases (λ x text. are_escapes_from false (text ++ rest) ≡ are_escapes_from false rest) refl refl refl
    (λ x u v w. simp (ne_eqb x 92 w))

zero_escape : (rest : List ℕ) (x : ℕ) → holds_of 0 (escape_of x ++ rest) ≡ holds_of 0 (x ∷ rest)
unfolding holds_of
zero_escape rest = escape_cases (λ x text. holds_of 0 (text ++ rest) ≡ holds_of 0 (x ∷ rest)) refl refl refl (λ x u v w. refl)

-- undoing escapes gives back the name that was escaped
pub unescaped_escaped : (name : List ℕ) → unescaped (spread escape_of name) ≡ name
unfolding unescaped unescaped_from
unescaped_escaped [] = rw (spread_nil escape_of)
unescaped_escaped (x ∷ xs) = rw (spread_cons escape_of x xs, undone_escape (spread escape_of xs) x) (ap (λ (l : List ℕ). x ∷ l) (unescaped_escaped xs))

pub escapes_escaped : (name : List ℕ) → are_escapes (spread escape_of name) ≡ true
unfolding are_escapes are_escapes_from
escapes_escaped [] = rw (spread_nil escape_of)
escapes_escaped (x ∷ xs) = rw (spread_cons escape_of x xs, good_escape (spread escape_of xs) x) (escapes_escaped xs)

zero_escaped : (name : List ℕ) → holds_of 0 (spread escape_of name) ≡ holds_of 0 name
unfolding holds_of
zero_escaped [] = rw (spread_nil escape_of)
zero_escaped (x ∷ xs) =
    rw (spread_cons escape_of x xs, zero_escape (spread escape_of xs) x) (ap (λ (b : Bool). cond (eqb x 0) true b) (zero_escaped xs))

-- a name that a file can have is one when it is escaped, and one as it is
some_escaped : (x : ℕ) (rest : List ℕ) → length (escape_of x ++ rest) ≡ 0 → ⊥
some_escaped x rest =
    escape_cases (λ x text. length (text ++ rest) ≡ 0 → ⊥) (λ e. omega arith) (λ e. omega arith) (λ e. omega arith) (λ x u v w e. omega arith) x

pub still : (name : List ℕ) → (length name ≡ 0 → ⊥) → length (spread escape_of name) ≡ 0 → ⊥
still [] p e = p refl
still (x ∷ xs) p e = some_escaped x (spread escape_of xs) (rw (spread_cons escape_of x xs) at e)

module _ (name : List ℕ) (h : length name ≡ 0 → ⊥) (z : holds_of 0 name ≡ false) where
  pub escaped_is_name : is_name true (spread escape_of name) ≡ true
  unfolding is_name
  escaped_is_name = simp (ne_eqb (length (spread escape_of name)) 0 (still name h), zero_escaped name ∙ z, escapes_escaped name)

  pub plain_is_name : is_name false name ≡ true
  unfolding is_name
  plain_is_name = simp (ne_eqb (length name) 0 h, z)
