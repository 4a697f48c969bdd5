use Rattle.event_core.proofs.Words.{◌∙◌, ap, CoreParts}
use Rattle.event_core.proofs.ChoosingLemmas.{none-wanting, numbers-apart, take-offered}
use Rattle.event_core.proofs.machine.Core.next_take.Goals as goal

pub next_wanting-requires : goal.next_wanting-requires
next_wanting-requires c =
    record { apart = numbers-apart _ c.as_slice.result.now c.self.invariant.0 c.as_slice.ensures }

pub returns-clause-some : goal.returns-clause-some
returns-clause-some c =
    take-offered c.args.self.now c.next_wanting.result c.self.inside.filters c.as_slice.result.now
    (ap (λ (parts : CoreParts). parts.filters) c.self.view_is)
    (c.as_slice.ensures ∙ ap (λ (parts : CoreParts). parts.flights) c.self.view_is) c.next_wanting.ensures.some

pub returns-clause-none : goal.returns-clause-none
returns-clause-none c = λ none.
    none-wanting c.args.self.now c.self.inside.filters c.as_slice.result.now
    (ap (λ (parts : CoreParts). parts.filters) c.self.view_is)
    (c.as_slice.ensures ∙ ap (λ (parts : CoreParts). parts.flights) c.self.view_is) (c.next_wanting.ensures.none none)
