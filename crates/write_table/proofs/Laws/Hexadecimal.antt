-- Pairs of hex digits, one at a time. Assumes nothing.
use mathlib.Core.Path.{◌≡◌, ◌∙◌, ap, refl, sym}
use mathlib.Core.Bool.{Bool, true, false, cond, not, true≢false, ◌&&◌}
use mathlib.Core.List.{List, [], ◌∷◌, ◌++◌, append_assoc, append-nil}
use Prim.Native.Nat.{ℕ, zero, suc, ◌+◌, ◌*◌, ◌-◌, ◌/◌, ◌<◌, ◌≤◌}
use native.Mathlib.Omega.{arith}
use borrow.Author.Tests.{le-leb, le-ltb, leb-false, leb-true, lt-leb, lt-ltb}
use lib.Dec.{leb}
use lib.ListN.{drop, length, replicate, take}
use lib.Seq.{take_at}
use Rattle.std.specs.Prelude.{All, Decides, MatchOption, None, Option, Some, unwrap_or}
use Rattle.std.specs.Char.{is_ascii_uppercase}
use Rattle.std.specs.List.{list_all}
use Rattle.std.specs.Option.{option_and_then}
use Rattle.std.proofs.lemmas.Bool.Decides.{Decides-by_and, same_from_decides}
use Rattle.digits.specs.Hexadecimal.{byte_of, bytes_from, bytes_of, nibble_of}
use Rattle.digits.proofs.Promises.{byte_is, bytes_are, bytes_none, bytes_odd, bytes_step, nibble_is}
use Rattle.steering.specs.Numbers.{AreBytes}
use Rattle.write_table.specs.Hexadecimal.{is_hex, pairs_of, value_of}

pub by : {A : Type 0} (t : Bool) → (t ≡ true → A) → (t ≡ false → A) → A
by true f g = f refl
by false f g = g refl

-- ---- the value of a digit: where it is no capital, what the library says

abbrev pub is_small : ℕ → Bool
is_small x = not (is_ascii_uppercase x)

module _ (x : ℕ) where
  pub value_front : x ≤ 57 → value_of x ≡ unwrap_or (nibble_of x) 16
  unfolding value_of
  value_front h = simp (le-leb x 57 h)

  value_between : 57 < x → x < 97 → value_of x ≡ 16
  unfolding value_of
  value_between h g = simp (lt-leb x 57 h, lt-ltb x 97 g)

  pub value_behind : 97 ≤ x → value_of x ≡ unwrap_or (nibble_of x) 16
  unfolding value_of
  value_behind g = simp (lt-leb x 57 (omega arith), le-ltb x 97 g)

  some : (v : ℕ) → nibble_of x ≡ Some v → v ≤ 15 → value_of x ≡ unwrap_or (nibble_of x) 16
      → nibble_of x ≡ cond (leb (value_of x) 15) (Some (value_of x)) None
  some v n h e = let k : value_of x ≡ v = e ∙ rw n in rw (n, k) (simp (le-leb v 15 h))

  none : nibble_of x ≡ None → value_of x ≡ 16 → nibble_of x ≡ cond (leb (value_of x) 15) (Some (value_of x)) None
  none n e = rw (n, e)

  between : 57 < x → x < 97 → is_small x ≡ true → nibble_of x ≡ None
  between h g s =
      nibble_is x
      ∙ by (leb 65 x)
      (λ p.
      by (leb x 90)
      (λ q. absurd (true≢false (sym s ∙ simp (p, q))))
      (λ q. simp (le-leb 48 x (omega arith), lt-leb x 57 h, p, lt-leb x 70 (omega (arith, leb-false x 90 q)), lt-leb 97 x g)))
      (λ p. simp (le-leb 48 x (omega arith), lt-leb x 57 h, p, lt-leb 97 x g))

  pub value_is : is_small x ≡ true → nibble_of x ≡ cond (leb (value_of x) 15) (Some (value_of x)) None
  value_is s =
      by (leb x 57)
      (λ p.
      let e = value_front (leb-true x 57 p) in
      by (leb 48 x)
      (λ q. some (x - 48) (nibble_is x ∙ simp (p, q)) (omega (arith, leb-true x 57 p)) e)
      (λ q.
      let n : nibble_of x ≡ None = nibble_is x ∙ simp (q, lt-leb 65 x (omega (arith, leb-true x 57 p)), lt-leb 97 x (omega (arith, leb-true x 57 p))) in
      none n (e ∙ rw n)))
      (λ p.
      by (leb 97 x)
      (λ q.
      let g = leb-true 97 x q in
      let e = value_behind g in
      let low = le-leb 48 x (omega (arith, g)) in
      let from_a = le-leb 65 x (omega (arith, g)) in
      let to_f = lt-leb x 70 (omega (arith, g)) in
      by (leb x 102)
      (λ r. some (x - 97 + 10) (nibble_is x ∙ simp (p, low, from_a, to_f, q, r)) (omega (arith, g, leb-true x 102 r)) e)
      (λ r. let n : nibble_of x ≡ None = nibble_is x ∙ simp (p, low, from_a, to_f, q, r) in none n (e ∙ rw n)))
      (λ q.
      let h = leb-false x 57 p in
      let g = leb-false 97 x q in
      none (between h g s) (value_between h g)))

  pub small : value_of x ≤ 15 → is_small x ≡ true
  small v =
      by (leb x 57)
      (λ p. simp (lt-leb 65 x (omega (arith, leb-true x 57 p))))
      (λ p.
      by (leb 97 x)
      (λ q. simp (le-leb 65 x (omega (arith, leb-true 97 x q)), lt-leb x 90 (omega (arith, leb-true 97 x q))))
      (λ q. absurd (omega (arith, v, value_between (leb-false x 57 p) (leb-false 97 x q)))))

-- ---- pairs

pub hex_more : (x y : ℕ) (rest : List ℕ) → value_of x ≤ 15 → value_of y ≤ 15 → is_hex (x ∷ y ∷ rest) ≡ is_hex rest
unfolding is_hex
hex_more x y rest h g = simp (le-leb (value_of x) 15 h, le-leb (value_of y) 15 g)

-- what is said of two digits and of what follows them, where a text is pairs of digits
two_digits : (x y : ℕ) (rest : List ℕ) → is_hex (x ∷ y ∷ rest) ≡ true → (value_of x ≤ 15) × (value_of y ≤ 15) × (is_hex rest ≡ true)
unfolding is_hex
two_digits x y rest t = go (leb (value_of x) 15) (leb (value_of y) 15) refl refl
  where
    go : (a b : Bool) → leb (value_of x) 15 ≡ a → leb (value_of y) 15 ≡ b → (value_of x ≤ 15) × (value_of y ≤ 15) × (is_hex rest ≡ true)
    go true true p q = (leb-true (value_of x) 15 p, leb-true (value_of y) 15 q, sym (rw (p, q)) ∙ t)
    go true false p q = absurd (true≢false (sym t ∙ rw (p, q)))
    go false b p q = absurd (true≢false (sym t ∙ rw p))

-- the byte of a pair
pair_is : (x y : ℕ) → is_small x ≡ true → is_small y ≡ true
    → byte_of x y ≡ cond (leb (value_of x) 15 && leb (value_of y) 15) (Some (16 * value_of x + value_of y)) None
pair_is x y h g =
    byte_is x y
    ∙ rw (value_is x h, value_is y g)
    (by (leb (value_of x) 15) (λ p. by (leb (value_of y) 15) (λ q. rw (p, q)) (λ q. rw (p, q))) (λ p. rw p))

-- what holds of two in front, and of the rest
front_two : (a b c : Bool) → (a && (b && c)) ≡ true → (a ≡ true) × (b ≡ true) × (c ≡ true)
front_two true true c h = (refl, refl, h)
front_two true false c h = absurd (true≢false (sym h))
front_two false b c h = absurd (true≢false (sym h))

bytes_small : (bytes text : List ℕ) → list_all is_small text ≡ true → bytes_from bytes text ≡ cond (is_hex text) (Some (bytes ++ pairs_of text)) None
unfolding is_hex pairs_of
bytes_small bytes [] h = bytes_none bytes ∙ ap Some (sym (append-nil bytes))
bytes_small bytes (x ∷ []) h = bytes_odd bytes x
bytes_small bytes (x ∷ y ∷ rest) h =
    let S = front_two (is_small x) (is_small y) (list_all is_small rest) h in
    let byte = 16 * value_of x + value_of y in
    let again = bytes_small (bytes ++ (byte ∷ [])) rest S.2 in
    let behind = append_assoc bytes (byte ∷ []) (pairs_of rest) in
    bytes_step bytes x y rest
    ∙ rw (pair_is x y S.0 S.1)
    (by (leb (value_of x) 15 && leb (value_of y) 15)
    (λ p. rw p (again ∙ ap (λ (u : List ℕ). cond (is_hex rest) (Some u) None) behind))
    (λ p. rw p))

-- no capital stands among the digits
hex_small : (text : List ℕ) → is_hex text ≡ true → list_all is_small text ≡ true
unfolding is_hex
hex_small [] h = refl
hex_small (x ∷ []) h = absurd (true≢false (sym h))
hex_small (x ∷ y ∷ rest) h =
    let T = two_digits x y rest h in rw (small x T.0, small y T.1) (hex_small rest T.2)

pub small_each : (text : List ℕ) (r : Bool) → Decides r (All (λ x. is_small x ≡ true) text) → r ≡ list_all is_small text
small_each text r d =
    same_from_decides r (list_all is_small text) d
    (Decides-by_and is_small (λ x. is_small x ≡ true) (list_all is_small) (λ x. ((λ e. e), (λ e. e))) refl (λ x xs. refl) text)

-- ---- two digits in front

module _ (a b : List ℕ) where
  pub hex_front : length a ≡ 2 → is_hex (a ++ b) ≡ cond (is_hex a) (is_hex b) false
  unfolding is_hex
  hex_front l = by a l
    where
      by : (c : List ℕ) → length c ≡ 2 → is_hex (c ++ b) ≡ cond (is_hex c) (is_hex b) false
      by [] l = absurd (omega (arith, l))
      by (x ∷ []) l = absurd (omega (arith, l))
      by (x ∷ y ∷ z ∷ c) l = absurd (omega (arith, l))
      by (x ∷ y ∷ []) l = two (leb (value_of x) 15 && leb (value_of y) 15) refl
        where
          two : (t : Bool) → (leb (value_of x) 15 && leb (value_of y) 15) ≡ t → is_hex (x ∷ y ∷ b) ≡ cond (is_hex (x ∷ y ∷ [])) (is_hex b) false
          two true p = rw p
          two false p = rw p

  pub pairs_front : length a ≡ 2 → pairs_of (a ++ b) ≡ pairs_of a ++ pairs_of b
  unfolding pairs_of
  pairs_front l = by a l
    where
      by : (c : List ℕ) → length c ≡ 2 → pairs_of (c ++ b) ≡ pairs_of c ++ pairs_of b
      by [] l = absurd (omega (arith, l))
      by (x ∷ []) l = absurd (omega (arith, l))
      by (x ∷ y ∷ []) l = refl
      by (x ∷ y ∷ z ∷ c) l = absurd (omega (arith, l))

pub length_pairs : (text : List ℕ) → length (pairs_of text) ≡ length text / 2
unfolding pairs_of
length_pairs [] = omega arith
length_pairs (x ∷ []) = omega arith
length_pairs (x ∷ y ∷ rest) = omega (arith, length_pairs rest)

-- they are as many as twice the bytes
pub hex_even : (text : List ℕ) → is_hex text ≡ true → 2 * length (pairs_of text) ≡ length text
unfolding is_hex pairs_of
hex_even [] t = refl
hex_even (x ∷ []) t = absurd (true≢false (sym t))
hex_even (x ∷ y ∷ rest) t = omega (arith, hex_even rest (two_digits x y rest t).2)

-- each pair of digits is a byte
pub pairs_bytes : (text : List ℕ) → is_hex text ≡ true → AreBytes (pairs_of text)
unfolding is_hex pairs_of
pairs_bytes [] t k = omega arith
pairs_bytes (x ∷ []) t k = absurd (true≢false (sym t))
pairs_bytes (x ∷ y ∷ rest) t zero = let T = two_digits x y rest t in omega (arith, T.0, T.1)
pairs_bytes (x ∷ y ∷ rest) t (suc k) = pairs_bytes rest (two_digits x y rest t).2 k

-- ---- what is made of a text

module _ (n : ℕ) (text : List ℕ) where
  abbrev pub Answers : Option (List ℕ) → Type 0
  Answers o =
      MatchOption o (is_hex text ≡ true → 2 * n < length text)
      (λ bytes. (is_hex text ≡ true) × (length text ≤ 2 * n) × (take (length text / 2) bytes ≡ pairs_of text))

  pub capitals : (t : Bool) → t ≡ list_all is_small text → t ≡ false → Answers None
  capitals t e f h = absurd (true≢false (sym (hex_small text h) ∙ sym e ∙ f))

  pub no_capitals : (t : Bool) → t ≡ list_all is_small text → t ≡ true → (o : Option (List ℕ)) → o ≡ bytes_of n text → Answers o
  no_capitals t e y o q =
      let is : o ≡ cond (leb (length text) (2 * n))
      (option_and_then (λ bytes. Some (bytes ++ drop (length bytes) (replicate n 0))) (cond (is_hex text) (Some (pairs_of text)) None)) None =
      q ∙ bytes_are n text ∙ rw (bytes_small [] text (sym e ∙ y)) in
      by (leb (length text) (2 * n))
      (λ p.
      by (is_hex text)
      (λ h.
      let k : o ≡ Some (pairs_of text ++ drop (length (pairs_of text)) (replicate n 0)) = is ∙ rw (p, h) in
      rw k (h, leb-true (length text) (2 * n) p, take_at (pairs_of text) (drop (length (pairs_of text)) (replicate n 0)) (length text / 2) (length_pairs text)))
      (λ h. let k : o ≡ None = is ∙ rw (p, h) in rw k (λ z. absurd (true≢false (sym z ∙ h)))))
      (λ p. let k : o ≡ None = is ∙ rw p in rw k (λ z. leb-false (length text) (2 * n) p))
