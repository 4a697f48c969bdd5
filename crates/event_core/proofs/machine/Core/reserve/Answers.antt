use Rattle.event_core.proofs.Words.{◌∙◌, ap, Lives, refl, the_view}
use Rattle.event_core.proofs.SlotEventLemmas.{reserve-becomes}
use Rattle.event_core.proofs.LetGoLemmas.{finished-on, on-reserved}
use Rattle.event_core.proofs.OutLemmas.{reserved-filters}
use Rattle.event_core.proofs.LentLemmas.{backed-by, beside-by}
use Rattle.event_core.proofs.machine.Core.reserve.Goals as goal

pub invariant_of-self : goal.invariant_of-self
invariant_of-self c = (
  (reserve-becomes c.slots_follow_the_core.ensures.reserve _ _ _ _ _ c.self.view_is c.self.invariant.0 c.requires c.reserve.ensures).core,
  c.self.invariant.1,
  finished-on c.self.inside.manager c.reserve.new.self c.self.inside.asked c.self.inside.asked
      (on-reserved _ c.args.slot c.reserve.new.self c.self.invariant.0 c.reserve.ensures) refl refl c.self.invariant.2,
  c.self.invariant.3,
  backed-by (the_view c.self.inside) c.self.inside.flights.items c.reserve.new.self c.self.inside.distributor.out refl
      (ap (λ (lives : Lives). lives.filters) c.reserve.ensures ∙ reserved-filters c.args.slot c.self.inside.manager) refl
      c.self.invariant.4,
  c.self.invariant.5,
)

pub returns-clause-after : goal.returns-clause-after
returns-clause-after c =
    (reserve-becomes c.slots_follow_the_core.ensures.reserve _ _ _ _ _ c.self.view_is c.self.invariant.0 c.requires c.reserve.ensures).state

pub returns-clause-beside : goal.returns-clause-beside
returns-clause-beside c =
    beside-by (the_view c.self.inside) c.args.self.now c.self.inside.flights.items c.reserve.new.self c.self.inside.distributor.out
    c.self.view_is refl
    (ap (λ (lives : Lives). lives.filters) c.reserve.ensures ∙ reserved-filters c.args.slot c.self.inside.manager) refl
