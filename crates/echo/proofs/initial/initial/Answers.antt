-- `initial` meets its contract: the bytes in use, and zeros behind. Assumes nothing.
use Rattle.echo.proofs.Laws.Initial.{in_part, in_room, initial_made}
use Rattle.echo.proofs.initial.initial.Goals as goal

pub slice_bounds-v-end : goal.slice_bounds-v-end
slice_bounds-v-end c = search in_room

pub slice_bounds-repeat-end : goal.slice_bounds-repeat-end
slice_bounds-repeat-end c = search in_part

pub returns : goal.returns
returns c = initial_made c.args.mode c.args.bits _ c.chaining_size-c.ensures _ _ c.to_le_bytes.ensures c.repeat.ensures
