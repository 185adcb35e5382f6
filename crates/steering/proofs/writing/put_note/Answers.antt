-- `put_note` meets its contract: four numbers, one behind the other. Assumes nothing.
use Rattle.steering.proofs.Laws.Writing.{note_put}
use Rattle.steering.proofs.writing.put_note.Goals as goal

pub returns : goal.returns
returns c = search note_put
