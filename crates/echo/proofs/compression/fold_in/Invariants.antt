-- `fold_in` meets its contract, a part a turn. Assumes nothing.
use Rattle.std.proofs.Common.{length}
use Rattle.std.specs.Slice.Iter.{chunks_exact_rest, chunks_exact_size}
use Rattle.echo.proofs.Laws.Compression.{Parts}
use Rattle.echo.proofs.compression.fold_in.Given as goal

abbrev pub invariant-loop-part : goal.invariant-loop-part
invariant-loop-part l =
    Parts (length l.initial.v) l.initial.v l.fn.src (length l.yielded) (chunks_exact_size l.part-iterator) (chunks_exact_rest l.part-iterator) l.v
