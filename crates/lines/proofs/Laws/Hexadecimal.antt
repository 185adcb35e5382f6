-- A byte as two digits. Assumes nothing.
use mathlib.Core.Path.{◌≡◌}
use mathlib.Core.List.{List, [], ◌∷◌}
use Prim.Native.Nat.{ℕ, ◌+◌, ◌/◌, ◌%◌, ◌<◌}
use lib.ListN.{get_or, length, take}
use Rattle.lines.specs.Hexadecimal.{digit_of, digits_of}
use Rattle.lines.specs.Lines.{Put, spread}
use Rattle.lines.proofs.Laws.Lines.{put_join, spread_next}

pub digits_next : (room : List ℕ) (at : ℕ) (bytes : List ℕ) (i : ℕ) (mid : List ℕ) (end : ℕ) (half : List ℕ) (between : ℕ)
    (after : List ℕ) (r a b : ℕ) → i < length bytes → Put room at (spread digits_of (take i bytes)) mid end
    → a ≡ digit_of (get_or bytes i 0 / 16) → Put mid end (a ∷ []) half between
    → b ≡ digit_of (get_or bytes i 0 % 16) → Put half between (b ∷ []) after r
    → Put room at (spread digits_of (take (i + 1) bytes)) after r
digits_next room at bytes i mid end half between after r a b h p d q e s =
    spread_next digits_of room at bytes i mid end after r h p
    (rw (← d, ← e) (put_join mid end (a ∷ []) half between (b ∷ []) after r q s))
