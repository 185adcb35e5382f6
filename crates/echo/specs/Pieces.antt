-- A message in pieces: what they join to, and the session that is handed back when they were added one after the other. Assumes nothing.
use Rattle.std.specs.Prelude.{ℕ, List, [], ◌∷◌, ◌++◌}
use Rattle.echo.specs.declared.session.Session.{Session}
use Rattle.echo.specs.Session.{add_answer}

unfoldable pub joined : List (List ℕ) → List ℕ
joined [] = []
joined (piece ∷ pieces) = piece ++ joined pieces

unfoldable pub add_all : Session → List (List ℕ) → Session
add_all s [] = s
add_all s (piece ∷ pieces) = add_all (add_answer s piece).session pieces
