-- A record put into a room, byte by byte, and what a write answers and leaves. Assumes nothing.
use mathlib.Core.Path.{◌≡◌, refl, sym, ap, ap₂, ◌∙◌}
use mathlib.Core.Bool.{Bool, true, false}
use mathlib.Core.List.{List, [], ◌∷◌, ◌++◌, append_assoc}
use Prim.Native.Nat.{ℕ, suc, ◌+◌, ◌-◌, ◌^◌, ◌≤◌}
use native.Mathlib.Numerals.{add-one}
use native.Mathlib.Omega.{arith}
use borrow.Author.Tests.{eq-eqb, lt-leb, ltb-false, ne_eqb}
use lib.Dec.{eqb, ltb}
use lib.ListN.{drop, get_or, length, length-append, length-set, set, take}
use borrow.Rule.Slice.PartMut.{put_mid}
use mir.Syntax.{w8}
use mir.Val.{Fits as Fits8}
use lib.Seq.{drop-drop, length-sets, sets, sets-eq}
use Rattle.steering.specs.Answers.{Written}
use Rattle.std.specs.Int.{to_be_bytes, w64}
use Rattle.steering.specs.Kinds.{kind_byte}
use Rattle.steering.specs.Numbers.{AreBytes, bytes_of}
use Rattle.steering.specs.Records.{Fits, body_length, body_of, kind_of, record_of}
use Rattle.steering.specs.Writing.{address_too_high, write_answer, write_body_answer, write_body_leaves, write_body_refusal, write_leaves, write_refusal}
use Rattle.steering.specs.declared.kinds.Kind.{Kind}
use Rattle.steering.specs.declared.records.Note.{Note as NoteFields}
use Rattle.steering.specs.declared.records.Record.{Record}
use Rattle.steering.specs.declared.records.Record.TheVariants.{Floor, Hold, Node, Note}
use Rattle.steering.proofs.Laws.Complete.{body_length_lem}
use Rattle.steering.proofs.Laws.Numbers.{length_bytes, written_last}
use Rattle.steering.proofs.Laws.Outcomes.{record_fits}
use Rattle.steering.proofs.Laws.Records.{Has, read_back, some_body}

-- ---- numbers

-- a run of bytes behind another
sets_join : (room : List ℕ) (at : ℕ) (xs ys : List ℕ) → sets (sets room at xs) (at + length xs) ys ≡ sets room at (xs ++ ys)
sets_join room at [] ys = ap (λ (k : ℕ). sets room k ys) (omega arith)
sets_join room at (x ∷ xs) ys =
    ap (λ (k : ℕ). sets (sets (set room at x) (suc at) xs) k ys) (omega arith) ∙ sets_join (set room at x) (suc at) xs ys

-- a run of bytes copied over so many of the room, from a place on
put_part : (room last xs : List ℕ) (at n : ℕ) → last ≡ xs → length xs ≡ n → at + n ≤ length room → put_mid at (at + n - at) room last ≡ sets room at xs
put_part room last xs at n e l h =
    let k : at + n - at ≡ length xs = omega (arith, l) in
    rw (e, k, drop-drop (length xs) at room, ← append_assoc (take at room) xs (drop (at + length xs) room))
    (sym (sets-eq xs room at (omega (arith, l, h))))

-- the last n of the eight bytes of a number
pub put_last : (room eight last : List ℕ) (at n x : ℕ) → eight ≡ to_be_bytes w64 x → last ≡ take (8 - (8 - n)) (drop (8 - n) eight) → n ≤ 8
    → at + n ≤ length room → put_mid at (at + n - at) room last ≡ sets room at (bytes_of n x)
put_last room eight last at n x e f few h =
    put_part room last (bytes_of n x) at n
    (f ∙ ap (λ (l : List ℕ). take (8 - (8 - n)) (drop (8 - n) l)) e ∙ written_last n x few) (length_bytes n x) h

-- a byte and a run of bytes leave as many
pub as_long : (room after : List ℕ) (place at x : ℕ) (xs : List ℕ) → after ≡ sets (set room place x) at xs → length after ≡ length room
as_long room after place at x xs e = ap length e ∙ length-sets (set room place x) at xs ∙ length-set room place x

pub never_too_high : (r : Record) → Fits r → address_too_high r ≡ false
never_too_high (Node a) f = lt-leb (2 ^ 48) a.address f
never_too_high (Floor g) f = refl
never_too_high (Hold t) f = refl
never_too_high (Note n) f = refl

-- ---- bodies

-- four numbers of eight bytes, one behind the other
pub note_put : (room one two three after : List ℕ) (at : ℕ) (n : NoteFields) → one ≡ sets room at (bytes_of 8 n.first)
    → two ≡ sets one (at + 8) (bytes_of 8 n.second) → three ≡ sets two (at + 16) (bytes_of 8 n.third)
    → after ≡ sets three (at + 24) (bytes_of 8 n.fourth) → after ≡ sets room at (body_of (Note n))
note_put room one two three after at n p q r s =
    behind 24 (a ++ b ++ c) d three after (behind 16 (a ++ b) c two three (behind 8 a b one two p q (length_bytes 8 n.first)) r twice) s thrice
  where
    a : List ℕ
    a = bytes_of 8 n.first

    b : List ℕ
    b = bytes_of 8 n.second

    c : List ℕ
    c = bytes_of 8 n.third

    d : List ℕ
    d = bytes_of 8 n.fourth

    behind : (k : ℕ) (xs ys mid end : List ℕ) → mid ≡ sets room at xs → end ≡ sets mid (at + k) ys → length xs ≡ k → end ≡ sets room at (xs ++ ys)
    behind k xs ys mid end e f l = f ∙ ap₂ (λ (u : List ℕ) (j : ℕ). sets u (at + j) ys) e (sym l) ∙ sets_join room at xs ys

    twice : length (a ++ b) ≡ 16
    twice = omega (arith, length-append a b, length_bytes 8 n.first, length_bytes 8 n.second)

    thrice : length (a ++ b ++ c) ≡ 24
    thrice = omega (arith, twice, length-append (a ++ b) c, length_bytes 8 n.third)

-- the body of a record that is known
module _ (r q : Record) (is : r ≡ q) where
  pub body_fits : (k at room : ℕ) → at + length (body_of r) ≤ room → length (body_of q) ≡ k → at + k ≤ room
  body_fits k at room h l = omega (arith, h, l, ap (λ (s : Record). length (body_of s)) is)

pub note_long : (n : NoteFields) → length (body_of (Note n)) ≡ 32
unfolding body_length
note_long n = body_length_lem (Note n)

-- ---- what a write answers and leaves, by the tests that led there

-- a record by its values; n bytes follow the kind byte
module _ (room : List ℕ) (place : ℕ) (r : Record) (kind n : ℕ) (k : kind ≡ kind_of r) (e : n ≡ body_length kind) where
  n_bytes : n ≡ length (body_of r)
  n_bytes = e ∙ ap body_length k ∙ sym (body_length_lem r)

  module _ (short : Bool) (s : short ≡ ltb (length room) (place + 1 + n)) where
    short_is : ltb (length room) (place + 1 + length (body_of r)) ≡ short
    short_is = rw (← n_bytes) (sym s)

    module _ (yes : short ≡ true) where
      pub answer_5 : record { refusal = 5; next = 0 } ≡ write_answer (length room) place r
      unfolding write_answer write_refusal
      answer_5 = rw (short_is, yes)

      pub left_5 : room ≡ write_leaves room place r
      unfolding write_leaves write_refusal
      left_5 = rw (short_is, yes)

    module _ (no : short ≡ false) where
      pub record_fits_room : place + 1 + n ≤ length room
      record_fits_room = ltb-false (length room) (place + 1 + n) (sym s ∙ no)

      pub body_in_room : (byte : ℕ) → place + 1 + length (body_of r) ≤ length (set room place byte)
      body_in_room byte = omega (arith, record_fits_room, n_bytes, length-set room place byte)

      module _ (high : Bool) (h : high ≡ address_too_high r) where
        pub answer_12 : high ≡ true → record { refusal = 12; next = 0 } ≡ write_answer (length room) place r
        unfolding write_answer write_refusal
        answer_12 y = rw (short_is, no, ← h, y)

        pub left_12 : high ≡ true → room ≡ write_leaves room place r
        unfolding write_leaves write_refusal
        left_12 y = rw (short_is, no, ← h, y)

        pub answer_done : high ≡ false → record { refusal = 0; next = place + n + 1 } ≡ write_answer (length room) place r
        unfolding write_answer write_refusal
        answer_done y =
            let to : place + n + 1 ≡ place + 1 + length (body_of r) = omega (arith, n_bytes) in
            rw (short_is, no, ← h, y) (ap (λ (k : ℕ). record { refusal = 0; next = k }) to)

        pub left_done : high ≡ false → (byte : ℕ) → byte ≡ kind_of r → (after : List ℕ) → after ≡ sets (set room place byte) (place + 1) (body_of r)
            → after ≡ write_leaves room place r
        unfolding write_leaves write_refusal
        left_done y byte b after f =
            f
            ∙ ap₂ (λ (x j : ℕ). sets (set room place x) j (body_of r)) b (add-one place)
            ∙ sets-eq (kind_of r ∷ body_of r) room place (omega (arith, record_fits_room, n_bytes))
            ∙ rw (short_is, no, ← h, y)

-- a record by its kind byte and its body
module _ (room : List ℕ) (place byte : ℕ) (body : List ℕ) (short : Bool) (s : short ≡ ltb (length room) (place + 1 + length body)) where
  module _ (yes : short ≡ true) where
    pub body_answer_5 : record { refusal = 5; next = 0 } ≡ write_body_answer (length room) place byte (length body)
    unfolding write_body_answer write_body_refusal
    body_answer_5 = rw (← s, yes)

    pub body_left_5 : room ≡ write_body_leaves room place byte body
    unfolding write_body_leaves write_body_refusal
    body_left_5 = rw (← s, yes)

  module _ (no : short ≡ false) where
    module _ (z : body_length byte ≡ 0) where
      pub body_answer_9 : record { refusal = 9; next = 0 } ≡ write_body_answer (length room) place byte (length body)
      unfolding write_body_answer write_body_refusal
      body_answer_9 = rw (← s, no, z)

      pub body_left_9 : room ≡ write_body_leaves room place byte body
      unfolding write_body_leaves write_body_refusal
      body_left_9 = rw (← s, no, z)

    -- n is how long the bodies of the kind are
    module _ (kind : Kind) (is : kind_byte kind ≡ byte) (n : ℕ) (e : n ≡ body_length (kind_byte kind)) where
      n_is : n ≡ body_length byte
      n_is = e ∙ ap body_length is

      known_kind : eqb (body_length byte) 0 ≡ false
      known_kind = ne_eqb (body_length byte) 0 (λ q. omega (arith, some_body kind, e, n_is, q))

      module _ (other : n ≡ length body → ⊥) where
        unlike : eqb (length body) (body_length byte) ≡ false
        unlike = ne_eqb (length body) (body_length byte) (λ q. other (n_is ∙ sym q))

        pub body_answer_10 : record { refusal = 10; next = 0 } ≡ write_body_answer (length room) place byte (length body)
        unfolding write_body_answer write_body_refusal
        body_answer_10 = rw (← s, no, known_kind, unlike)

        pub body_left_10 : room ≡ write_body_leaves room place byte body
        unfolding write_body_leaves write_body_refusal
        body_left_10 = rw (← s, no, known_kind, unlike)

      -- the record of that kind and body has these bytes, and its address is below 2^48
      module _ (same : n ≡ length body) (fits : (k : ℕ) → Fits8 w8 (get_or body k 0)) (r : Record) (made : r ≡ record_of (kind_byte kind) body) where
        bytes : AreBytes body
        bytes k = (fits k).fits

        has : Has r byte body
        has = rw (made, is) (read_back byte body (sym same ∙ n_is) bytes (omega (arith, some_body kind, e, n_is)))

        alike : eqb (length body) (body_length byte) ≡ true
        alike = eq-eqb (length body) (body_length byte) (sym same ∙ n_is)

        low : address_too_high r ≡ false
        low = never_too_high r (rw (made, is) (record_fits byte body bytes))

        pub body_answer : (a : Written) → a ≡ write_answer (length room) place r → a ≡ write_body_answer (length room) place byte (length body)
        unfolding write_answer write_refusal write_body_answer write_body_refusal
        body_answer a f = f ∙ rw (has.body_is, ← s, no, low, known_kind, alike)

        pub body_left : (after : List ℕ) → after ≡ write_leaves room place r → after ≡ write_body_leaves room place byte body
        unfolding write_leaves write_refusal write_body_leaves write_body_refusal
        body_left after f = f ∙ rw (has.body_is, has.kind_is, ← s, no, low, known_kind, alike)
