-- Bytes put into a lent slice, and read from one. Assumes nothing.
use Rattle.std.proofs.Common.{◌≡◌, ℕ, ◌+◌, ◌-◌, ◌<◌, ◌≤◌, List, ◌++◌, length, get_or, take, drop, sym, ap, ◌∙◌, ⊎_elim, zero-add, arith, length-append, length-drop, length-take-le, get_or-drop, get_or-take}
use Rattle.std.specs.List.{between}
use Rattle.std.proofs.lemmas.List.Edits.{get_or-between}
use Rattle.aes_round.specs.Bytes.{tab}
use Rattle.aes_round.proofs.Promises.{Filled, is_tab, lt_or_le, same_list}
use Rattle.echo.specs.Placed.{Placed}
use Rattle.echo.proofs.Laws.Joined.{first_part, second_part}

-- bytes placed at the front of room
pub placed_front : (room w r : List ℕ) (n : ℕ) → length w ≡ n → n ≤ length room → Placed room 0 w n r → r ≡ w ++ drop n room
placed_front room w r n lw l P =
    same_list (length room) r (w ++ drop n room) P.long (length-append w (drop n room) ∙ omega (arith, lw, length-drop n room))
    (λ k h. ⊎_elim (front k) (rest k) (lt_or_le k n))
  where
    front : (k : ℕ) → k < n → get_or r k 0 ≡ get_or (w ++ drop n room) k 0
    front k lt = ap (λ (i : ℕ). get_or r i 0) (sym (zero-add k)) ∙ P.inside k lt ∙ sym (first_part n w (drop n room) lw k lt)

    on : (k : ℕ) → n ≤ k → n + (k - n) ≡ k
    on k g = omega arith

    rest : (k : ℕ) → n ≤ k → get_or r k 0 ≡ get_or (w ++ drop n room) k 0
    rest k g =
        P.behind k (omega arith) ∙ ap (λ (i : ℕ). get_or room i 0) (sym (on k g)) ∙ sym (get_or-drop n room (k - n) 0)
        ∙ sym (ap (λ (i : ℕ). get_or (w ++ drop n room) i 0) (sym (on k g)) ∙ second_part n w (drop n room) lw (k - n))

-- a loop that fills a list from the front, n bytes at a turn
pub fill_part : (N : ℕ) (f : ℕ → ℕ) (l : List ℕ) (i : ℕ) (r w r' : List ℕ) (n : ℕ) → Filled N f l i r → Placed r i w n r' → i + n ≤ N
    → ((k : ℕ) → k < n → get_or w k 0 ≡ f (i + k)) → Filled N f l (i + n) r'
fill_part N f l i r w r' n F P h e = record {
  long = P.long ∙ F.long;
  in_reach = h;
  done = λ k lt.
      ⊎_elim (λ (b : k < i). P.before k b ∙ F.done k b)
      (λ (g : i ≤ k). ap (λ (m : ℕ). get_or r' m 0) (sym (back k g)) ∙ P.inside (k - i) (left k g lt) ∙ e (k - i) (left k g lt) ∙ ap f (back k g))
      (lt_or_le k i);
  rest = λ k le. P.behind k le ∙ F.rest k (omega arith);
}
  where
    back : (k : ℕ) → i ≤ k → i + (k - i) ≡ k
    back k g = omega arith

    left : (k : ℕ) → i ≤ k → k < i + n → k - i < n
    left k g lt = omega arith

-- what a callee left in a part that it was lent
pub part_placed : (l w : List ℕ) (at n : ℕ) → at + n ≤ length l → length w ≡ n → Placed l at w n (take at l ++ (w ++ drop n (drop at l)))
part_placed l w at n h e = record {
  long = whole;
  before = λ k lt. first_part at (take at l) rest short k lt ∙ get_or-take at l k 0 lt;
  inside = λ k lt. second_part at (take at l) rest short k ∙ first_part n w (drop n (drop at l)) e k lt;
  behind = λ k le.
      ap (λ (i : ℕ). get_or (take at l ++ rest) i 0) (sym (back k le))
      ∙ second_part at (take at l) rest short (n + (k - (at + n)))
      ∙ second_part n w (drop n (drop at l)) e (k - (at + n))
      ∙ get_or-drop n (drop at l) (k - (at + n)) 0
      ∙ get_or-drop at l (n + (k - (at + n))) 0
      ∙ ap (λ (i : ℕ). get_or l i 0) (back k le);
}
  where
    rest : List ℕ
    rest = w ++ drop n (drop at l)

    short : length (take at l) ≡ at
    short = length-take-le at l (omega arith)

    back : (k : ℕ) → at + n ≤ k → at + (n + (k - (at + n))) ≡ k
    back k le = omega arith

    whole : length (take at l ++ rest) ≡ length l
    whole =
        length-append (take at l) rest
        ∙ omega (arith, short, length-append w (drop n (drop at l)), length-drop n (drop at l), length-drop at l)

-- ---- bytes read from a place on

pub part_bytes : (src r : List ℕ) (at n : ℕ) → r ≡ between at (at + n) src → at + n ≤ length src → r ≡ tab n (λ k. get_or src (at + k) 0)
part_bytes src r at n e h =
    e ∙ is_tab n (between at (at + n) src) _
    (length-take-le (at + n - at) (drop at src) (omega (arith, length-drop at src)) ∙ (let long : at + n - at ≡ n = omega arith in long))
    (λ k lt. get_or-between src at (at + n) k 0 (omega arith))
