-- `turn_rows` meets its contract, a row a turn. Assumes nothing.
use Rattle.std.proofs.Common.{ℕ, ◌+◌, ◌*◌, ◌%◌, ap, ◌∙◌, rules}
use Rattle.echo.specs.Square.{word}
use Rattle.echo.proofs.Laws.Rows.{next_row}
use Rattle.echo.proofs.shift_rows.turn_rows.Goals as goal

pub loop-i-preserved : goal.loop-i-preserved
loop-i-preserved g c =
    let L = c.loop-i in (
      search rules,
      search rules,
      λ p z acts.
          next_row p _ _ _ _ (L.invariant.2 p z acts)
          (λ j h. c.turn_row.ensures.turned j h ∙ ap (λ (k : ℕ). word L.s (L.i + 4 * ((j + k) % 4))) (acts _ _ c.places.ensures))
          c.turn_row.ensures.others (search rules),
    )
