-- `put` meets its contract: the byte waits, or fills the block. Assumes nothing.
use Rattle.std.proofs.Common.{◌+◌, ap, rules}
use Rattle.echo.specs.declared.session.Session.{Session}
use Rattle.echo.specs.Session.{made}
use Rattle.echo.proofs.Laws.Waiting.{first_place, next_place, place_small, put_full, put_more}
use Rattle.echo.proofs.session.Session.put.Goals as goal

pub bounds-self-at : goal.bounds-self-at
bounds-self-at c = search place_small

pub returns-then-at-block-clause-value : goal.returns-then-at-block-clause-value
returns-then-at-block-clause-value c =
    let s = c.args.self.now in
    next_place (made s.mode s.bits s.salt s.chaining c.args.taken s.waiting) _ _ c.requires.at_value c.requires.block_value (search rules)

pub returns-then-at-block-clause-after : goal.returns-then-at-block-clause-after
returns-then-at-block-clause-after c =
    let s = c.args.self.now in
    put_more (made s.mode s.bits s.salt s.chaining c.args.taken s.waiting) _ _ c.requires.at_value c.requires.block_value (search rules) c.args.x

pub returns-clause-value : goal.returns-clause-value
returns-clause-value c =
    let s = c.args.self.now in
    first_place (made s.mode s.bits s.salt s.chaining c.args.taken s.waiting) _ _ c.requires.at_value c.requires.block_value (search rules) c.args.x _
    (ap (λ (u : Session). made u.mode u.bits u.salt u.chaining (c.args.taken + 8) u.waiting) c.compress.ensures)

pub returns-clause-after : goal.returns-clause-after
returns-clause-after c =
    let s = c.args.self.now in
    put_full (made s.mode s.bits s.salt s.chaining c.args.taken s.waiting) _ _ c.requires.at_value c.requires.block_value (search rules) c.args.x _
    (ap (λ (u : Session). made u.mode u.bits u.salt u.chaining (c.args.taken + 8) u.waiting) c.compress.ensures)
