-- `fold_in` meets its contract, a part a turn. Assumes nothing.
use Rattle.std.proofs.Common.{refl, sym, ap, ◌∙◌, length-append}
use Rattle.std.specs.Slice.Iter.{chunks_exact_rest, chunks_exact_size}
use Rattle.echo.proofs.Laws.Compression.{parts_all, parts_more, parts_none}
use Rattle.echo.proofs.compression.fold_in.Goals as goal

pub loop-part-init : goal.loop-part-init
loop-part-init c =
    let e = c.into_iter-part-iterator.ensures.into_iter_gives in
    let s = c.chunks_exact-part-items.ensures in
    parts_none _ _ _ _ _ refl (ap chunks_exact_size e ∙ s.size) (ap chunks_exact_rest e ∙ s.rest)

pub xor_in-requires : goal.xor_in-requires
xor_in-requires c = c.in-Some.ensures.steps.1.1 ∙ c.loop-part.invariant.sized ∙ sym c.loop-part.auto.v

pub loop-part-preserved : goal.loop-part-preserved
loop-part-preserved c =
    parts_more _ _ _ _ _ _ _ c.loop-part.invariant c.loop-part.auto.v _ _ _ _ _ (length-append c.loop-part.yielded _)
    c.in-Some.ensures.steps c.xor_in.ensures

pub returns : goal.returns
returns c = parts_all _ _ _ _ _ _ _ c.loop-part.invariant c.requires c.in-None.ensures.steps.1.0
