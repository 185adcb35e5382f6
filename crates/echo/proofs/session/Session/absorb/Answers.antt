-- `absorb` meets its contract: a whole byte a turn and the part byte at the end. Assumes nothing.
use Rattle.std.proofs.Common.{refl, sym, ◌∙◌, arith, rules}
use Rattle.echo.proofs.Laws.Waiting.{absorb_more, absorb_none, absorb_part, absorb_room, absorb_small, absorb_whole, part_inside, some_block}
use Rattle.echo.proofs.session.Session.absorb.Goals as goal

pub nonzero_rem-at : goal.nonzero_rem-at
nonzero_rem-at c = search some_block

pub loop-x-init : goal.loop-x-init
loop-x-init c = (search, search, search, search absorb_none)

pub put-at-requires-clause-taken_bound : goal.put-at-requires-clause-taken_bound
put-at-requires-clause-taken_bound c = search (rules, absorb_room)

pub loop-x-preserved : goal.loop-x-preserved
loop-x-preserved c = (
  search,
  c.loop-x.invariant.1 ∙ sym c.put-at.ensures.block_kept,
  c.put-at.ensures.kept ∙ (search rules),
  absorb_more _ _ _ _ _ _ c.loop-x.invariant.3 (omega arith) (search rules) _ _ _ refl c.put-at.ensures.after c.put-at.ensures.value,
)

pub bounds-piece-whole : goal.bounds-piece-whole
bounds-piece-whole c = search (rules, part_inside)

pub bounds-self-at : goal.bounds-self-at
bounds-self-at c = search absorb_small

pub returns-then-count-ne0 : goal.returns-then-count-ne0
returns-then-count-ne0 c =
    absorb_part _ _ _ _ _ _ c.loop-x.invariant.3 (search rules) _ refl c.requires.piece_len (search rules) _ (search rules)

pub returns-else-count-ne0 : goal.returns-else-count-ne0
returns-else-count-ne0 c =
    absorb_whole _ _ _ _ _ _ c.loop-x.invariant.3 (search rules) _ refl c.requires.piece_len (search rules) _ (search rules)
