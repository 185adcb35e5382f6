-- `is_session` meets its contract, a case for each return. Assumes nothing.
use Rattle.std.proofs.Common.{not, refl, ap}
use Rattle.hmac.proofs.Laws.TagSessions.{another_mode, counts_decide, inner_other_mode, no_inner, no_outer, other_bits, other_salt, outer_other_mode}
use Rattle.hmac.proofs.tag_session.TagSession.is_session.Goals as goal

pub returns-then-not-is_session : goal.returns-then-not-is_session
returns-then-not-is_session c = search no_inner

pub returns-then-not-is_session-2 : goal.returns-then-not-is_session-2
returns-then-not-is_session-2 c = search no_outer

pub returns-then-ne : goal.returns-then-ne
returns-then-ne c =
    inner_other_mode _ _ c.is_session.ensures (ap not c.if-not-is_session.false) _ c.is_session-2.ensures (ap not c.if-not-is_session-2.false) _ refl
    (another_mode _ _ c.if-ne.ensures)

pub returns-then-ne-2 : goal.returns-then-ne-2
returns-then-ne-2 c =
    outer_other_mode _ _ c.is_session.ensures (ap not c.if-not-is_session.false) _ c.is_session-2.ensures (ap not c.if-not-is_session-2.false) _ refl
    (another_mode _ _ c.if-ne.ensures) _ refl (another_mode _ _ c.if-ne-2.ensures)

pub returns-then-self : goal.returns-then-self
returns-then-self c =
    other_bits _ _ c.is_session.ensures (ap not c.if-not-is_session.false) _ c.is_session-2.ensures (ap not c.if-not-is_session-2.false) _ refl
    (another_mode _ _ c.if-ne.ensures) _ refl (another_mode _ _ c.if-ne-2.ensures) c.if-self.true

pub returns-then-not-same : goal.returns-then-not-same
returns-then-not-same c =
    other_salt _ _ c.is_session.ensures (ap not c.if-not-is_session.false) _ c.is_session-2.ensures (ap not c.if-not-is_session-2.false) _ refl
    (another_mode _ _ c.if-ne.ensures) _ refl (another_mode _ _ c.if-ne-2.ensures) c.if-self.false _ c.same.ensures (ap not c.if-not-same.true)

pub returns : goal.returns
returns c =
    counts_decide _ _ c.is_session.ensures (ap not c.if-not-is_session.false) _ c.is_session-2.ensures (ap not c.if-not-is_session-2.false) _ refl
    (another_mode _ _ c.if-ne.ensures) _ refl (another_mode _ _ c.if-ne-2.ensures)
    c.if-self.false _ c.same.ensures (ap not c.if-not-same.false) _ c.counts_fit.ensures
