-- `take_line` is safe: what a line says has its name within the line. Assumes nothing.
use Rattle.echosum.proofs.Laws.Listed.{name_ends, name_starts}
use Rattle.echosum.proofs.checking.Tally.take_line.Goals as goal

pub slice_bounds-put_listed-count : goal.slice_bounds-put_listed-count
slice_bounds-put_listed-count c = let said = c.in-Some.ensures in search name_starts

pub slice_bounds-put_listed-start : goal.slice_bounds-put_listed-start
slice_bounds-put_listed-start c = let said = c.in-Some.ensures in search name_starts

pub slice_bounds-put_listed-end : goal.slice_bounds-put_listed-end
slice_bounds-put_listed-end c = let said = c.in-Some.ensures in search name_ends
