-- `key_block` meets its contract: a long key is digested, any other is copied. Assumes nothing.
use Rattle.echo.proofs.Promises.{handed_on}
use Rattle.std.proofs.Common.{sym}
use Rattle.hmac.proofs.Laws.KeyBlock.{copied_block, copied_number, digested_block, digested_number, key_within, room_for}
use Rattle.hmac.proofs.key_block.key_block.Goals as goal

pub returns-in_err-digest-clause-refusal_value : goal.returns-in_err-digest-clause-refusal_value
returns-in_err-digest-clause-refusal_value c =
    rw (handed_on c.from_residual.result _ c.from_residual.ensures)
    (digested_number _ _ _ c.requires.bits_value c.requires.salt_len _ c.block_size.ensures _ c.in_err-digest.ensures.refusal)

pub returns-then-block_size-n-clause-refusal_value : goal.returns-then-block_size-n-clause-refusal_value
returns-then-block_size-n-clause-refusal_value c = search (digested_number, c.in_ok-digest.ensures.refusal)

pub returns-then-block_size-n-clause-bytes_value : goal.returns-then-block_size-n-clause-bytes_value
returns-then-block_size-n-clause-bytes_value c = search (digested_block, c.in_ok-digest.ensures.refusal)

pub slice_bounds-block-end : goal.slice_bounds-block-end
slice_bounds-block-end c = search key_within

pub slice_bounds-copy_from_slice-end : goal.slice_bounds-copy_from_slice-end
slice_bounds-copy_from_slice-end c = room_for _ (search key_within)

pub copy_from_slice-requires : goal.copy_from_slice-requires
copy_from_slice-requires c = sym (room_for _ (search key_within))

pub returns-clause-refusal_value : goal.returns-clause-refusal_value
returns-clause-refusal_value c = search copied_number

pub returns-clause-bytes_value : goal.returns-clause-bytes_value
returns-clause-bytes_value c = search (copied_block, c.copy_from_slice.ensures.after)
