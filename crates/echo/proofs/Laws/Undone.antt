-- What the routines of the rounds leave is undone by each other, refused or not, whatever their subkeys and their refusals. Assumes nothing.
use Rattle.std.proofs.Common.{◌≡◌, ℕ, zero, suc, List, length, sym, refl, ap, ◌∙◌, subst}
use Rattle.aes_round.specs.Bytes.{Bytes}
use Rattle.echo.specs.Refusals.{unless}
use Rattle.echo.specs.Square.{rounds, rounds_back}
use Rattle.echo.proofs.Laws.Refusals.{done}
use Rattle.echo.proofs.Laws.Square.{Keys, rounds_are_squares, rounds_back_are_squares, rounds_back_undone, rounds_undone}

-- the refusal of a square of so many bytes
module _ (refusal : ℕ → ℕ) (count : ℕ) (key : ℕ → List ℕ) (salt : List ℕ) where
  -- what the rounds f, forward or backward, leave of a square
  abbrev pub leaves : (ℕ → (ℕ → List ℕ) → List ℕ → List ℕ → List ℕ) → List ℕ → List ℕ
  leaves f s = unless (refusal (length s)) (f count key salt s) s

  module _ (K : Keys key) (square : List ℕ) (S : Bytes (length square) square) (L : Bytes (length salt) salt)
      (fit : refusal (length square) ≡ 0 → (length square ≡ 256) × (length salt ≡ 16)) where
    module _ (e : refusal (length square) ≡ 0) where
      S256 : Bytes 256 square
      S256 = subst (λ (n : ℕ). Bytes n square) (fit e).0 S

      L16 : Bytes 16 salt
      L16 = subst (λ (n : ℕ). Bytes n salt) (fit e).1 L

      -- a square is as long as the one given, and so it is not refused
      as_long : (t : List ℕ) → Bytes 256 t → refusal (length t) ≡ 0
      as_long t T = ap refusal (T.long ∙ sym (fit e).0) ∙ e

      forth_and_back : leaves rounds_back (leaves rounds square) ≡ square
      forth_and_back =
          let t = rounds count key salt square in
          ap (leaves rounds_back) (done (refusal (length square)) t square e)
          ∙ done (refusal (length t)) (rounds_back count key salt t) t (as_long t (rounds_are_squares key salt K L16 count square S256))
          ∙ rounds_undone key salt K L16 count square S256

      back_and_forth : leaves rounds (leaves rounds_back square) ≡ square
      back_and_forth =
          let t = rounds_back count key salt square in
          ap (leaves rounds) (done (refusal (length square)) t square e)
          ∙ done (refusal (length t)) (rounds count key salt t) t (as_long t (rounds_back_are_squares key salt K L16 count square S256))
          ∙ rounds_back_undone key salt K L16 count square S256

    pub undo_each_other : (leaves rounds_back (leaves rounds square) ≡ square) × (leaves rounds (leaves rounds_back square) ≡ square)
    undo_each_other = by (refusal (length square)) refl
      where
        by : (n : ℕ) → refusal (length square) ≡ n → (leaves rounds_back (leaves rounds square) ≡ square) × (leaves rounds (leaves rounds_back square) ≡ square)
        by zero e = (forth_and_back e, back_and_forth e)
        by (suc k) e = (rw (e, e) refl, rw (e, e) refl)
