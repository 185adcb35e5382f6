-- Texts that are put into a line: what finds no place is cut off. Assumes nothing.
use mathlib.Core.Logic.{⊎_elim}
use mathlib.Core.Path.{◌≡◌, ◌∙◌, sym}
use mathlib.Core.List.{List, [], ◌∷◌, ◌++◌, append_assoc, append-nil}
use Prim.Native.Nat.{ℕ, suc, ◌+◌, ◌<◌, ◌≤◌, min}
use native.Mathlib.Numerals.{add-one}
use native.Mathlib.Omega.{arith}
use lib.ListN.{length, length-set, set, take}
use Rattle.std.proofs.lemmas.List.{length-take-le, take_all, take_more_set, take-append-le, take-take}
use Rattle.lines.specs.Lines.{Put, placed}
use Rattle.lines.proofs.Laws.Lines.{le_or_lt, placed_out}

-- what was cut off stays cut off
pub put_behind : (size : ℕ) (line text : List ℕ) → take size (take size line ++ text) ≡ take size (line ++ text)
put_behind size line text =
    ⊎_elim
    (λ (h : length line ≤ size). rw (take_all size line h))
    (λ (h : size < length line).
    let e : length (take size line) ≡ size = length-take-le size line (omega arith) in
    take-append-le size (take size line) text (omega arith) ∙ take-take size size line (omega arith)
    ∙ sym (take-append-le size line text (omega arith)))
    (le_or_lt (length line) size)

-- ---- a text that is put into the room of a line, where the line ends

-- what stands in front of the place behind it
placed_line : (room : List ℕ) (at : ℕ) (text : List ℕ) → at ≤ length room
    → take (min (at + length text) (length room)) (placed room at text) ≡ take (length room) (take at room ++ text)
unfolding placed
placed_line room at [] h =
    let e : min (at + 0) (length room) ≡ at = omega arith in
    let l : length (take at room) ≡ at = length-take-le at room h in
    rw (e, append-nil) (sym (take_all (length room) (take at room) (omega arith)))
placed_line room at (x ∷ xs) h =
    ⊎_elim
    (λ (g : length room ≤ at).
    let l : length (take at room) ≡ at = length-take-le at room h in
    let e : min (at + suc (length xs)) (length room) ≡ at = omega arith in
    let z : at ≡ length room = omega arith in
    rw (e, placed_out room at (x ∷ xs) g)
    (sym (take-append-le (length room) (take at room) (x ∷ xs) (omega arith) ∙ rw (← z) (take-take at at room (omega arith)))))
    (λ (g : at < length room).
    let l : length (set room at x) ≡ length room = length-set room at x in
    let e : at + suc (length xs) ≡ suc at + length xs = omega arith in
    let more : take (suc at) (set room at x) ≡ take at room ++ (x ∷ []) = rw (add-one at) at (take_more_set room at x g) in
    let on = placed_line (set room at x) (suc at) xs (omega arith) in
    rw e (rw (l, more, append_assoc) at on))
    (le_or_lt (length room) at)

module _ (size end : ℕ) (room after : List ℕ) (r : ℕ) (line : List ℕ) where
  -- the line, with the text behind it
  pub put_line : (text : List ℕ) → length room ≡ size → end ≤ size → take end room ≡ line → Put room end text after r
      → take r after ≡ take size (line ++ text)
  put_line text l h e p = rw (← e, ← l, p.room_is, p.place_is) (placed_line room end text (omega arith))

  -- with four texts, one behind the other
  pub four_line : (a b c d : List ℕ) → length room ≡ size → end ≤ size → take end room ≡ line → Put room end (a ++ b ++ c ++ d) after r
      → take r after ≡ take size (line ++ a ++ b ++ c ++ d)
  four_line a b c d l h e p = put_line (a ++ b ++ c ++ d) l h e p ∙ simp append_assoc
