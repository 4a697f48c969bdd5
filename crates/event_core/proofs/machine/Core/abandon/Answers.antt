use Rattle.event_core.proofs.Words.{◌∙◌, Abandoned, ap, CanAbandon, CoreParts, length, Lives, refl, subst, sym, the_view}
use Rattle.event_core.proofs.AbandonEventLemmas.{abandon-becomes, abandon-seat, seat-rises, slot-attached, statements_in}
use Rattle.event_core.proofs.AskedKeptLemmas.{asked-rise}
use Rattle.core_parts.specs.Asked.{HasBegun}
use Rattle.event_core.proofs.LetGoLemmas.{finished-more, handed-more, has-left, on-abandoned, open-stands}
use Rattle.event_core.proofs.CoreAtLemmas.{becomes-out}
use Rattle.event_core.proofs.LentLemmas.{backed-by, beside-by}
use Rattle.event_core.proofs.machine.Core.abandon.Goals as goal

pub asked_of-requires-clause-rising : goal.asked_of-requires-clause-rising
asked_of-requires-clause-rising c = asked-rise _ c.self.invariant.0

pub asked_of-requires-clause-stands : goal.asked_of-requires-clause-stands
asked_of-requires-clause-stands c =
    open-stands c.self.inside.manager c.self.inside.asked.gone c.args.query c.self.invariant.2.over
    (subst (λ (parts : CoreParts). CanAbandon c.args.query parts.lives) (sym c.self.view_is) c.requires)

pub give_up-requires-clause-rising : goal.give_up-requires-clause-rising
give_up-requires-clause-rising c =
    seat-rises _ c.seat-seat.result c.self.invariant.0
    (abandon-seat c.abandoned_queries_follow_the_core.ensures.seat _ c.args.query c.seat-seat.result c.asked_of.result.now.asked c.self.inside.asked.items
    c.self.invariant.0 refl c.asked_of.ensures.asked c.seat-seat.ensures)

pub give_up-requires-2-clause-rising : goal.give_up-requires-2-clause-rising
give_up-requires-2-clause-rising c = asked-rise _ c.self.invariant.0

pub give_up-requires-2-clause-stands : goal.give_up-requires-2-clause-stands
give_up-requires-2-clause-stands c =
    open-stands c.self.inside.manager c.self.inside.asked.gone c.args.query c.self.invariant.2.over
    (subst (λ (parts : CoreParts). CanAbandon c.args.query parts.lives) (sym c.self.view_is) c.requires)

pub drop_at-requires : goal.drop_at-requires
drop_at-requires c = slot-attached _ c.slot_of-slot.result c.self.invariant.0 c.slot_of-slot.ensures.within

pub invariant_of-self : goal.invariant_of-self
invariant_of-self c =
    let becomes = abandon-becomes c.abandoned_queries_follow_the_core.ensures.done _ c.args.self.now c.args.query c.seat-seat.result
    c.asked_of.result.now.asked c.self.inside.asked.items c.settle.new.self.items c.slot_of-slot.result (statements_in c.give_up.new.seats)
    c.drop_at.new.distributor.attached c.stop_at.new.scan c.abandon.new.self c.self.view_is c.self.invariant.0 c.requires refl
    c.asked_of.ensures.asked c.seat-seat.ensures c.slot_of-slot.ensures.slot c.give_up.ensures.seat c.give_up.ensures.others
    (c.settle.ensures.items ∙ c.give_up-2.ensures.items) c.drop_at.ensures.attached c.stop_at.ensures c.abandon.ensures in (
      (becomes-out _ c.drop_at.new.distributor.out _ becomes).core,
      c.self.invariant.1,
      c.settle.ensures.finished (finished-more c.self.inside.manager c.abandon.new.self c.self.inside.asked c.give_up-2.new.self
          (on-abandoned _ c.args.self.now c.args.query c.abandon.new.self c.self.view_is c.requires c.abandon.ensures) c.give_up-2.ensures.gone
          (handed-more (HasBegun c.abandon.new.self) c.args.query c.self.inside.asked.handed c.give_up-2.new.self.handed c.give_up-2.ensures.handed
          (has-left _ c.args.self.now c.args.query c.abandon.new.self Abandoned c.self.view_is c.requires refl
          (ap (λ (lives : Lives). lives.queries) c.abandon.ensures)))
          c.self.invariant.2),
      c.self.invariant.3,
      backed-by (the_view c.self.inside) c.self.inside.flights.items c.abandon.new.self c.drop_at.new.distributor.out refl
          (ap (λ (lives : Lives). lives.filters) c.abandon.ensures) c.drop_at.ensures.out c.self.invariant.4,
      ap length c.drop_at.ensures.out ∙ c.self.invariant.5,
    )

pub returns-clause-after : goal.returns-clause-after
returns-clause-after c =
    let becomes = abandon-becomes c.abandoned_queries_follow_the_core.ensures.done _ c.args.self.now c.args.query c.seat-seat.result
    c.asked_of.result.now.asked c.self.inside.asked.items c.settle.new.self.items c.slot_of-slot.result (statements_in c.give_up.new.seats)
    c.drop_at.new.distributor.attached c.stop_at.new.scan c.abandon.new.self c.self.view_is c.self.invariant.0 c.requires refl
    c.asked_of.ensures.asked c.seat-seat.ensures c.slot_of-slot.ensures.slot c.give_up.ensures.seat c.give_up.ensures.others
    (c.settle.ensures.items ∙ c.give_up-2.ensures.items) c.drop_at.ensures.attached c.stop_at.ensures c.abandon.ensures in
    becomes.state

pub returns-clause-beside : goal.returns-clause-beside
returns-clause-beside c =
    beside-by (the_view c.self.inside) c.args.self.now c.self.inside.flights.items c.abandon.new.self c.drop_at.new.distributor.out
    c.self.view_is refl (ap (λ (lives : Lives). lives.filters) c.abandon.ensures) c.drop_at.ensures.out
