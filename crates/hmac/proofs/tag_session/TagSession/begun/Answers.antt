-- `begun` meets its contract, a case for each return. Assumes nothing.
use Rattle.echo.proofs.Promises.{handed_on}
use Rattle.hmac.proofs.Laws.Opening.{bits_pass, fresh_is_empty, fresh_is_session, key_number, opened_keyed, opening_refused, salt_passes}
use Rattle.hmac.proofs.tag_session.TagSession.begun.Goals as goal

pub returns-in_err-fresh-clause-refusal : goal.returns-in_err-fresh-clause-refusal
returns-in_err-fresh-clause-refusal c =
    rw (handed_on c.from_residual.result _ c.from_residual.ensures) (opening_refused _ _ _ _ c.in_err-fresh.ensures)

pub key_block-requires-clause-bits_value : goal.key_block-requires-clause-bits_value
key_block-requires-clause-bits_value c = bits_pass _ _ c.args.key.now _ c.in_ok-fresh.ensures

pub key_block-requires-clause-salt_len : goal.key_block-requires-clause-salt_len
key_block-requires-clause-salt_len c = salt_passes _ _ c.args.key.now _ c.in_ok-fresh.ensures

pub returns-in_err-block-clause-refusal : goal.returns-in_err-block-clause-refusal
returns-in_err-block-clause-refusal c =
    rw (handed_on c.from_residual-in_err-block.result _ c.from_residual-in_err-block.ensures)
    (key_number _ _ _ _ c.in_ok-fresh.ensures _ c.in_err-block.ensures.refusal_value)

pub keyed-requires-clause-fresh_value : goal.keyed-requires-clause-fresh_value
keyed-requires-clause-fresh_value c = fresh_is_session _ _ c.args.key.now _ c.in_ok-fresh.ensures

pub keyed-requires-clause-taken_value : goal.keyed-requires-clause-taken_value
keyed-requires-clause-taken_value c = fresh_is_empty _ _ c.args.key.now _ c.in_ok-fresh.ensures

pub keyed-requires-2-clause-fresh_value : goal.keyed-requires-2-clause-fresh_value
keyed-requires-2-clause-fresh_value c = fresh_is_session _ _ c.args.key.now _ c.in_ok-fresh.ensures

pub keyed-requires-2-clause-taken_value : goal.keyed-requires-2-clause-taken_value
keyed-requires-2-clause-taken_value c = fresh_is_empty _ _ c.args.key.now _ c.in_ok-fresh.ensures

pub returns-clause-refusal : goal.returns-clause-refusal
returns-clause-refusal c = key_number _ _ _ _ c.in_ok-fresh.ensures _ c.in_ok-block.ensures.refusal_value

pub returns-clause-session : goal.returns-clause-session
returns-clause-session c = search (opened_keyed, c.in_ok-fresh.ensures, c.in_ok-block.ensures.bytes_value)
