-- `record_behind` meets its contract: the kind's byte and those of the body are one behind the other. Assumes nothing.
use Rattle.write_table.proofs.Laws.Line.{no_body, no_kind, whole_record}
use Rattle.write_table.proofs.line.record_behind.Goals as goal

pub returns-in_default : goal.returns-in_default
returns-in_default c = no_kind _ _ c.requires c.in_default.ensures

pub returns-in_default-pairs_in : goal.returns-in_default-pairs_in
returns-in_default-pairs_in c = no_body _ _ c.requires _ c.in-Some.ensures c.in_default-pairs_in.ensures

pub returns : goal.returns
returns c =
    whole_record _ _ c.requires _ c.in-Some.ensures _ c.in-Some-pairs_in.ensures _ _ c.copy_from_slice.ensures.after c.record_of.ensures
