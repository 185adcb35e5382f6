-- A text put into a room. Assumes nothing.
use Rattle.std.specs.Prelude.{◌≡◌, List, [], ◌∷◌, ◌++◌, ℕ, suc, ◌+◌, ◌≤◌, min, length, set}

-- a room with the bytes of a text from a place on; those that find no place are dropped
unfoldable pub placed : List ℕ → ℕ → List ℕ → List ℕ
placed room at [] = room
placed room at (x ∷ xs) = placed (set room at x) (suc at) xs

-- the place behind a text, or the room's end where that comes first
abbrev pub behind : List ℕ → ℕ → List ℕ → ℕ
behind room at text = min (at + length text) (length room)

-- what a routine leaves in the room and what it answers, where it puts a text at a place. The last part follows from the others; it is
-- stated so that the proof that the checker makes of `&room[..r]` finds it.
pub record Put (room : List ℕ) (at : ℕ) (text after : List ℕ) (r : ℕ) : Type 0 where
  pub room_is : after ≡ placed room at text
  pub place_is : r ≡ behind room at text
  pub fits : r ≤ length after

-- what f makes of each byte, in order
unfoldable pub spread : (ℕ → List ℕ) → List ℕ → List ℕ
spread f [] = []
spread f (x ∷ xs) = f x ++ spread f xs
