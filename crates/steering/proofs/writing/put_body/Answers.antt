-- `put_body` meets its contract: the body fits its room. Assumes nothing.
use Rattle.steering.proofs.Laws.Numbers.{length_bytes}
use Rattle.steering.proofs.Laws.Writing.{body_fits, note_long}
use Rattle.steering.proofs.writing.put_body.Goals as goal

pub put-requires-clause-within : goal.put-requires-clause-within
put-requires-clause-within c = search (body_fits, length_bytes)

pub put-requires-in-Floor-clause-within : goal.put-requires-in-Floor-clause-within
put-requires-in-Floor-clause-within c = search (body_fits, length_bytes)

pub put-requires-in-Hold-clause-within : goal.put-requires-in-Hold-clause-within
put-requires-in-Hold-clause-within c = search (body_fits, length_bytes)

pub put_note-requires : goal.put_note-requires
put_note-requires c = search (body_fits, note_long)
