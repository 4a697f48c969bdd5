use Rattle.event_core.proofs.Words.{◌∙◌, ap, CoreParts, sym}
use Rattle.event_core.proofs.EnablingLemmas.{taken-wanting, untaken-batch, untaken-hand}
use Rattle.event_core.proofs.machine.Core.may_take.Goals as goal

pub returns-then-not-has_free_hand : goal.returns-then-not-has_free_hand
returns-then-not-has_free_hand c =
    untaken-hand c.args.self.now c.args.worker c.args.batch c.has_free_hand.result c.has_free_hand.ensures c.if-not-has_free_hand.true

pub returns-in-None : goal.returns-in-None
returns-in-None c =
    untaken-batch c.args.self.now c.args.worker c.args.batch c.as_slice-flights.result.now
    (c.as_slice-flights.ensures ∙ ap (λ (parts : CoreParts). parts.flights) c.self.view_is) (sym c.in-None.ensures.place)

pub returns-in-Some : goal.returns-in-Some
returns-in-Some c =
    taken-wanting c.args.self.now c.args.worker c.args.batch c.self.inside.filters c.as_slice-flights.result.now
    c.in-Some.place c.index-flights-place.result c.is_wanting.result (ap (λ (parts : CoreParts). parts.filters) c.self.view_is)
    (c.has_free_hand.ensures.0 c.if-not-has_free_hand.false)
    (c.as_slice-flights.ensures ∙ ap (λ (parts : CoreParts). parts.flights) c.self.view_is)
    (sym c.in-Some.ensures.place) c.index-flights-place.is c.is_wanting.ensures
