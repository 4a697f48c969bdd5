use Rattle.event_core.proofs.Words.{◌∙◌, ap, CoreParts, refl}
use Rattle.event_core.proofs.ChoosingLemmas.{distribute-offered, none-distributed, numbers-apart}
use Rattle.event_core.proofs.machine.Core.next_distribute.Goals as goal

pub next_through-requires : goal.next_through-requires
next_through-requires c =
    record { apart = numbers-apart _ c.as_slice.result.now c.self.invariant.0 c.as_slice.ensures }

pub returns-in_err-batch-clause-none : goal.returns-in_err-batch-clause-none
returns-in_err-batch-clause-none c = λ none.
    none-distributed c.args.self.now c.self.inside.filters c.as_slice.result.now
    (ap (λ (parts : CoreParts). parts.filters) c.self.view_is)
    (c.as_slice.ensures ∙ ap (λ (parts : CoreParts). parts.flights) c.self.view_is) (c.in_err-batch.ensures.none refl)

pub returns-clause-enabled : goal.returns-clause-enabled
returns-clause-enabled c =
    distribute-offered c.args.self.now c.in_ok-batch.batch c.self.inside.filters c.as_slice.result.now
    (ap (λ (parts : CoreParts). parts.filters) c.self.view_is)
    (c.as_slice.ensures ∙ ap (λ (parts : CoreParts). parts.flights) c.self.view_is) c.in_ok-batch.ensures.some
