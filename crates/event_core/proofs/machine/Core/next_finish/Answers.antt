use Rattle.event_core.proofs.Words.{CoreParts, MayFinish, NoneMayCome, refl, state_of, subst}
use Rattle.event_core.specs.declared.choosing.EventKind.TheVariants as kind
use Rattle.event_core.proofs.ChoosingLemmas.{finish-offered, none-finished}
use Rattle.event_core.proofs.machine.Core.next_finish.Goals as goal

pub returns-in_err-slot-clause-none : goal.returns-in_err-slot-clause-none
returns-in_err-slot-clause-none c = λ none. subst (λ (parts : CoreParts). NoneMayCome kind.Finish (state_of parts)) c.self.view_is
    (none-finished _ c.as_slice.result.now c.self.invariant.0 c.as_slice.ensures (c.in_err-slot.ensures.none refl))

pub returns-clause-enabled : goal.returns-clause-enabled
returns-clause-enabled c = subst (λ (parts : CoreParts). MayFinish c.in_ok-slot.slot (state_of parts)) c.self.view_is
    (finish-offered _ c.in_ok-slot.slot c.as_slice.result.now c.self.invariant.0 c.as_slice.ensures c.in_ok-slot.ensures.some)
