-- `read_at` meets its contract: the record is that of the kind and the body that stand there. Assumes nothing.
use Rattle.steering.proofs.Laws.Reading.{body_count, body_last, body_ordered, body_read}
use Rattle.steering.proofs.reading.read_at.Goals as goal

pub slice_bounds-record_of-count : goal.slice_bounds-record_of-count
slice_bounds-record_of-count c =
    let e = rw c.in-Some.is at c.in_ok-kind.ensures in body_ordered _ _ _ _ e.kind e.reading

pub slice_bounds-record_of-start : goal.slice_bounds-record_of-start
slice_bounds-record_of-start c =
    let e = rw c.in-Some.is at c.in_ok-kind.ensures in body_ordered _ _ _ _ e.kind e.reading

pub slice_bounds-record_of-end : goal.slice_bounds-record_of-end
slice_bounds-record_of-end c =
    let e = rw c.in-Some.is at c.in_ok-kind.ensures in body_last _ _ _ _ e.kind e.reading

pub record_of-requires : goal.record_of-requires
record_of-requires c =
    let e = rw c.in-Some.is at c.in_ok-kind.ensures in body_count _ _ _ _ e.kind e.reading

pub returns-in-Some : goal.returns-in-Some
returns-in-Some c =
    let e = rw c.in-Some.is at c.in_ok-kind.ensures in body_read _ _ _ _ e.kind e.reading _ c.record_of.ensures
