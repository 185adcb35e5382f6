-- A text in pieces: the tag session that is handed back when they were added one after the other. Assumes nothing.
use Rattle.std.specs.Prelude.{List, [], ◌∷◌, ℕ}
use Rattle.hmac.specs.declared.tag_session.TagSession.{TagSession}
use Rattle.hmac.specs.TagSession.{add_tag_answer}

unfoldable pub add_all_tag : TagSession → List (List ℕ) → TagSession
add_all_tag t [] = t
add_all_tag t (piece ∷ pieces) = add_all_tag (add_tag_answer t piece).session pieces
