use Rattle.event_core.proofs.Words.{CoreParts, MayFinish, not, refl, state_of, subst}
use Rattle.std.proofs.Common.{◌↔◌, IsTrue}
use Rattle.event_core.proofs.EnablingLemmas.{finished-landed}
use Rattle.event_core.proofs.machine.Core.may_finish.Goals as goal

pub returns-then-may_end : goal.returns-then-may_end
returns-then-may_end c =
    subst (λ (parts : CoreParts). IsTrue (not c.is_on_some_roster.result) ↔ MayFinish c.args.slot (state_of parts)) c.self.view_is
    (finished-landed _ c.args.slot c.as_slice.result.now c.is_on_some_roster.result c.self.invariant.0 c.as_slice.ensures
    c.is_on_some_roster.ensures (c.if-may_end.ensures.0 refl))
