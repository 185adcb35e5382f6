-- What the crates above may cite of this one, besides its specs and its contracts: each promise is in the words of specs/, and its proof is a law of this
-- crate. Assumes nothing.
use mathlib.Core.Path.{◌≡◌}
use mathlib.Core.Bool.{false, true}
use mathlib.Core.List.{List, [], ◌∷◌, ◌++◌}
use Prim.Native.Nat.{ℕ, ◌+◌, ◌/◌, ◌%◌, ◌<◌, ◌≤◌, min}
use lib.ListN.{get_or, length, take}
use Rattle.lines.specs.Decimal.{decimal_of}
use Rattle.lines.specs.Lines.{Put, spread}
use Rattle.lines.specs.Names.{escape_of, is_plain, mark_of}
use Rattle.lines.proofs.Laws.Decimal as decimal
use Rattle.lines.proofs.Laws.Lines as texts
use Rattle.lines.proofs.Laws.Names as names
use Rattle.lines.proofs.Laws.Texts as lines

-- ---- texts put into a room

pub put_length : (room : List ℕ) (at : ℕ) (text after : List ℕ) (r : ℕ) → Put room at text after r → length after ≡ length room
put_length = texts.put_length

pub put_nothing : (room : List ℕ) (at r : ℕ) → r ≡ min at (length room) → Put room at [] room r
put_nothing = texts.put_nothing

-- one behind the other
pub put_join : (room : List ℕ) (at : ℕ) (xs mid : List ℕ) (i : ℕ) (ys after : List ℕ) (r : ℕ)
    → Put room at xs mid i → Put mid i ys after r → Put room at (xs ++ ys) after r
put_join = texts.put_join

-- what is put at the front of a room that is long enough stands there
pub put_stands : (room text after : List ℕ) (r : ℕ) → Put room 0 text after r → length text ≤ length room → take r after ≡ text
put_stands = texts.put_stands

-- ---- texts put into a line

-- one behind the other: what was cut off stays cut off
pub put_behind : (size : ℕ) (line text : List ℕ) → take size (take size line ++ text) ≡ take size (line ++ text)
put_behind = lines.put_behind

-- ---- what f makes of no byte, and of one in front

pub spread_nil : (f : ℕ → List ℕ) → spread f [] ≡ []
spread_nil = texts.spread_nil

pub spread_cons : (f : ℕ → List ℕ) (x : ℕ) (xs : List ℕ) → spread f (x ∷ xs) ≡ f x ++ spread f xs
spread_cons = texts.spread_cons

-- ---- numbers

pub three_digits : (n : ℕ) → 100 ≤ n → n < 1000 → decimal_of n ≡ (48 + n / 10 / 10 % 10) ∷ (48 + n / 10 % 10) ∷ (48 + n % 10) ∷ []
three_digits = decimal.three_digits

pub few_digits : (n : ℕ) → length (decimal_of n) ≤ 20
few_digits = decimal.few_digits

-- at least one, and each a digit
pub some_digit : (n : ℕ) → 1 ≤ length (decimal_of n)
some_digit = decimal.some_digit

pub decimal_digits : (n k : ℕ) → k < length (decimal_of n) → (48 ≤ get_or (decimal_of n) k 0) × (get_or (decimal_of n) k 0 ≤ 57)
decimal_digits = decimal.decimal_digits

-- ---- names

-- what holds of each byte and what escaping makes of it: three bytes become two each, and any other stays
pub escape_cases : (P : ℕ → List ℕ → Type 0) → P 10 (92 ∷ 110 ∷ []) → P 13 (92 ∷ 114 ∷ []) → P 92 (92 ∷ 92 ∷ [])
    → ((x : ℕ) → (x ≡ 10 → ⊥) → (x ≡ 13 → ⊥) → (x ≡ 92 → ⊥) → P x (x ∷ []))
    → (x : ℕ) → P x (escape_of x)
escape_cases = names.escape_cases

-- a name with nothing to escape stays, and has no mark
pub plain_stays : (name : List ℕ) → is_plain name ≡ true → spread escape_of name ≡ name
plain_stays = names.plain_stays

pub mark_none : (name : List ℕ) → is_plain name ≡ true → mark_of name ≡ []
mark_none = names.mark_none

pub mark_one : (name : List ℕ) → is_plain name ≡ false → mark_of name ≡ 92 ∷ []
mark_one = names.mark_one
