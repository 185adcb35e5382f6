-- Texts that are put one behind the other are put as one. Assumes nothing.
use mathlib.Core.Logic.{◌⊎◌, inl, inr, ⊎_elim}
use mathlib.Core.Path.{◌≡◌, ◌∙◌, ap, refl, sym}
use mathlib.Core.List.{List, [], ◌∷◌, ◌++◌, append_assoc, append-nil}
use Prim.Native.Nat.{ℕ, zero, suc, ◌+◌, ◌≤◌, ◌<◌, min}
use native.Mathlib.Numerals.{add-one, unary_clauses}
use native.Mathlib.Omega.{arith}
use lib.ListN.{drop, get_or, length, length-append, length-set, set, take}
use lib.Seq.{append_snoc, set-append_seam, set_out, take_at, take-length, take-suc}
use Rattle.lines.specs.Lines.{Put, placed, spread}

-- ---- places

length-placed : (room : List ℕ) (at : ℕ) (text : List ℕ) → length (placed room at text) ≡ length room
unfolding placed
length-placed room at [] = refl
length-placed room at (x ∷ xs) = length-placed (set room at x) (suc at) xs ∙ simp length-set

-- behind the room's end nothing is put
pub placed_out : (room : List ℕ) (at : ℕ) (text : List ℕ) → length room ≤ at → placed room at text ≡ room
unfolding placed
placed_out room at [] h = refl
placed_out room at (x ∷ xs) h = rw (set_out room at x h) (placed_out room (suc at) xs (omega arith))

placed_append : (room : List ℕ) (at : ℕ) (xs ys : List ℕ) → placed room at (xs ++ ys) ≡ placed (placed room at xs) (at + length xs) ys
unfolding placed
placed_append room at [] ys = simp unary_clauses
placed_append room at (x ∷ xs) ys =
    let e : at + suc (length xs) ≡ suc at + length xs = omega arith in
    placed_append (set room at x) (suc at) xs ys ∙ rw e

-- ---- one text

pub put_length : (room : List ℕ) (at : ℕ) (text after : List ℕ) (r : ℕ) → Put room at text after r → length after ≡ length room
put_length room at text after r p = ap length p.room_is ∙ length-placed room at text

module _ (room : List ℕ) (at : ℕ) where
  pub put_nothing : (r : ℕ) → r ≡ min at (length room) → Put room at [] room r
  unfolding placed
  put_nothing r h = record { room_is = refl; place_is = omega arith; fits = omega arith }

  pub put_one : (x : ℕ) → at < length room → Put room at (x ∷ []) (set room at x) (at + 1)
  unfolding placed
  put_one x h = record { room_is = refl; place_is = omega arith; fits = simp length-set (omega arith) }

  pub put_one_out : (x : ℕ) → length room ≤ at → Put room at (x ∷ []) room (length room)
  unfolding placed
  put_one_out x h = record { room_is = sym (set_out room at x h); place_is = omega arith; fits = omega arith }

-- ---- two texts

pub le_or_lt : (m n : ℕ) → (m ≤ n) ⊎ (n < m)
le_or_lt zero n = inl (omega arith)
le_or_lt (suc m) zero = inr (omega arith)
le_or_lt (suc m) (suc n) = ⊎_elim (λ p. inl (omega arith)) (λ p. inr (omega arith)) (le_or_lt m n)

-- a place behind the room's end is as good as the end
placed_from : (room : List ℕ) (at : ℕ) (text : List ℕ) → placed room (min at (length room)) text ≡ placed room at text
placed_from room at text =
    ⊎_elim
    (λ (h : at ≤ length room). let e : min at (length room) ≡ at = omega arith in rw e)
    (λ (h : length room < at). placed_out room (min at (length room)) text (omega arith) ∙ sym (placed_out room at text (omega arith)))
    (le_or_lt at (length room))

module _ (room : List ℕ) (at : ℕ) (xs mid : List ℕ) (i : ℕ) (ys after : List ℕ) (r : ℕ) where
  pub put_join : Put room at xs mid i → Put mid i ys after r → Put room at (xs ++ ys) after r
  put_join p q =
      let l = put_length room at xs mid i p in
      let e : i ≡ min (at + length xs) (length mid) = omega (arith, l, p.place_is) in
      record {
        room_is = q.room_is ∙ rw (e, placed_from mid (at + length xs) ys, p.room_is) (sym (placed_append room at xs ys));
        place_is = simp length-append (omega (arith, l, p.place_is, q.place_is));
        fits = q.fits;
      }

-- ---- four texts

pub put_four : (room : List ℕ) (at : ℕ) (a one : List ℕ) (i : ℕ) (b two : List ℕ) (j : ℕ) (c three : List ℕ) (k : ℕ) (d after : List ℕ) (r : ℕ)
    → Put room at a one i → Put one i b two j → Put two j c three k → Put three k d after r → Put room at (a ++ b ++ c ++ d) after r
put_four room at a one i b two j c three k d after r p q s t =
    put_join room at _ three k d after r (put_join room at _ two j c three k (put_join room at a one i b two j p q) s) t

-- ---- a text that is put byte by byte

module _ (room : List ℕ) (at : ℕ) (bytes : List ℕ) where
  pub bytes_next : (i : ℕ) (mid : List ℕ) (end : ℕ) (after : List ℕ) (r : ℕ) → i < length bytes
      → Put room at (take i bytes) mid end → Put mid end (get_or bytes i 0 ∷ []) after r → Put room at (take (i + 1) bytes) after r
  bytes_next i mid end after r h p q = rw (add-one i, take-suc bytes i 0 h) (put_join room at _ mid end _ after r p q)

  pub bytes_all : (i n : ℕ) (after : List ℕ) (r : ℕ) → i ≤ n → n ≤ i → n ≡ length bytes → Put room at (take i bytes) after r
      → Put room at bytes after r
  bytes_all i n after r h g e p = let l : i ≡ length bytes = omega arith in rw (l, take-length) at p

-- and with what f makes of each byte
spread_append : (f : ℕ → List ℕ) (xs ys : List ℕ) → spread f (xs ++ ys) ≡ spread f xs ++ spread f ys
unfolding spread
spread_append f [] ys = refl
spread_append f (x ∷ xs) ys = rw (spread_append f xs ys, append_assoc)

module _ (f : ℕ → List ℕ) (room : List ℕ) (at : ℕ) (bytes : List ℕ) where
  pub spread_none : (r : ℕ) → r ≡ min at (length room) → Put room at (spread f (take 0 bytes)) room r
  unfolding spread
  spread_none r h = put_nothing room at r h

  pub spread_next : (i : ℕ) (mid : List ℕ) (end : ℕ) (after : List ℕ) (r : ℕ) → i < length bytes
      → Put room at (spread f (take i bytes)) mid end → Put mid end (f (get_or bytes i 0)) after r
      → Put room at (spread f (take (i + 1) bytes)) after r
  unfolding spread
  spread_next i mid end after r h p q =
      let e : spread f (take (i + 1) bytes) ≡ spread f (take i bytes) ++ f (get_or bytes i 0)
      = rw (add-one i, take-suc bytes i 0 h, spread_append, append-nil) in
      rw e (put_join room at _ mid end _ after r p q)

  pub spread_all : (i n : ℕ) (after : List ℕ) (r : ℕ) → i ≤ n → n ≤ i → n ≡ length bytes → Put room at (spread f (take i bytes)) after r
      → Put room at (spread f bytes) after r
  spread_all i n after r h g e p = let l : i ≡ length bytes = omega arith in rw (l, take-length) at p

-- what f makes of no byte, and of one in front
pub spread_nil : (f : ℕ → List ℕ) → spread f [] ≡ []
unfolding spread
spread_nil f = refl

pub spread_cons : (f : ℕ → List ℕ) (x : ℕ) (xs : List ℕ) → spread f (x ∷ xs) ≡ f x ++ spread f xs
unfolding spread
spread_cons f x xs = refl

-- ---- a text that finds its place

-- behind what stands before the place
placed_behind : (before room text : List ℕ) → length text ≤ length room
    → placed (before ++ room) (length before) text ≡ before ++ (text ++ drop (length text) room)
unfolding placed
placed_behind before room [] h = refl
placed_behind before [] (x ∷ xs) h = absurd (omega arith)
placed_behind before (y ∷ ys) (x ∷ xs) h =
    let l : suc (length before) ≡ length (before ++ (x ∷ [])) = simp length-append (omega arith) in
    rw (set-append_seam before y ys x, ← append_snoc before x ys, l)
    (placed_behind (before ++ (x ∷ [])) ys xs (omega arith) ∙ append_snoc before x (xs ++ drop (length xs) ys))

-- what is put at the front of a room that is long enough stands there
pub put_stands : (room text after : List ℕ) (r : ℕ) → Put room 0 text after r → length text ≤ length room → take r after ≡ text
put_stands room text after r p h =
    let n : length text ≡ r = omega (arith, p.place_is) in
    rw (p.room_is, placed_behind [] room text h) (take_at text (drop (length text) room) r n)
