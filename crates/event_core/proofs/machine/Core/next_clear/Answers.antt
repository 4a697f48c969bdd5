use Rattle.event_core.proofs.Words.{CoreParts, NoneMayCome, refl, state_of, subst}
use Rattle.event_core.specs.declared.choosing.EventKind.TheVariants as kind
use Rattle.event_core.proofs.ChoosingLemmas.{none-come}
use Rattle.event_core.proofs.machine.Core.next_clear.Goals as goal

pub returns-in_err-found-clause-none : goal.returns-in_err-found-clause-none
returns-in_err-found-clause-none c = λ none. subst (λ (parts : CoreParts). NoneMayCome kind.Clear (state_of parts)) c.self.view_is
    (none-come kind.Clear _ (c.in_err-found.ensures.none refl))
