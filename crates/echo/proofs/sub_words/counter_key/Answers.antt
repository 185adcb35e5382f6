-- `counter_key` meets its contract: std's bytes of the two halves. Assumes nothing.
use Rattle.std.proofs.Common.{refl, ◌∙◌, rules}
use Rattle.echo.proofs.Laws.Numbers.{wide_key_at}
use Rattle.echo.proofs.sub_words.counter_key.Goals as goal

pub returns : goal.returns
returns c =
    wide_key_at _ _ _ _ _ _ c.count_on-low.ensures (search rules) (c.copy_from_slice.ensures.after ∙ c.to_le_bytes.ensures)
    (c.copy_from_slice-2.ensures.after ∙ c.to_le_bytes-2.ensures) refl
