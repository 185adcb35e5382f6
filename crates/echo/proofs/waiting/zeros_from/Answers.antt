-- `zeros_from` meets its contract: the test of each byte from the place on. Assumes nothing.
use Rattle.std.proofs.Common.{rules, tests, eqb, length, ap, ◌∙◌, le_refl}
use Rattle.std.specs.List.{between}
use Rattle.std.proofs.lemmas.Iterator.{YieldsList-from_slice}
use Rattle.std.proofs.lemmas.Iterator.Search.{all_from_yields_List}
use Rattle.std.proofs.lemmas.Slice.{between_to_end}
use Rattle.echo.specs.Session.{all_zero}
use Rattle.echo.proofs.Laws.Zeros.{zeros_all}
use Rattle.echo.proofs.waiting.zeros_from.Goals as goal

pub returns : goal.returns
returns c =
    let rest = between c.args.at (length c.args.bytes.now) c.args.bytes.now in
    all_from_yields_List (λ x. eqb x 0) _ _ c.all.result c.all.ensures.ran (YieldsList-from_slice rest (search rules)) (λ x b q k. search (rules, tests))
    ∙ zeros_all rest
    ∙ ap all_zero (between_to_end c.args.bytes.now c.args.at _ (le_refl _))
