use Rattle.event_core.proofs.Words.{◌∙◌, ap, CoreParts, sym}
use Rattle.event_core.proofs.EnablingLemmas.{distributed-through, undistributed}
use Rattle.event_core.proofs.machine.Core.may_distribute.Goals as goal

pub returns-in-None : goal.returns-in-None
returns-in-None c =
    undistributed c.args.self.now c.args.batch c.as_slice-flights.result.now
    (c.as_slice-flights.ensures ∙ ap (λ (parts : CoreParts). parts.flights) c.self.view_is) (sym c.in-None.ensures.place)

pub returns-in-Some : goal.returns-in-Some
returns-in-Some c =
    distributed-through c.args.self.now c.args.batch c.self.inside.filters c.as_slice-flights.result.now c.in-Some.place
    c.index-flights-place.result c.is_through.result (ap (λ (parts : CoreParts). parts.filters) c.self.view_is)
    (c.as_slice-flights.ensures ∙ ap (λ (parts : CoreParts). parts.flights) c.self.view_is)
    (sym c.in-Some.ensures.place) c.index-flights-place.is c.is_through.ensures
