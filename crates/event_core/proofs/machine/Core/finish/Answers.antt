use Rattle.event_core.proofs.Words.{◌∙◌, ap, false, is_open, IsTrue, length, Life, Lives, Option, option_map_or, refl, subst, sym, the_view}
use Rattle.event_core.proofs.AskedKeptLemmas.{asked-rise}
use Rattle.event_core.proofs.SlotEventLemmas.{finish-becomes, held-attached}
use Rattle.event_core.proofs.LetGoLemmas.{finished-on, on-ended, open-stands}
use Rattle.event_core.proofs.OutLemmas.{ended-filters, finish-inside}
use Rattle.event_core.proofs.CoreAtLemmas.{becomes-out}
use Rattle.event_core.proofs.LentLemmas.{backed-by, beside-by}
use Rattle.event_core.proofs.machine.Core.finish.Goals as goal

pub detach-groups-requires-clause-inside : goal.detach-groups-requires-clause-inside
detach-groups-requires-clause-inside c =
    finish-inside (the_view c.self.inside) c.args.self.now c.args.slot c.self.view_is c.self.invariant.0 c.requires c.self.invariant.4

pub detach-groups-requires-clause-slot : goal.detach-groups-requires-clause-slot
detach-groups-requires-clause-slot c =
    held-attached _ c.args.slot c.in-Held.query c.in-Held.built c.self.invariant.0 (sym c.in-Held.ensures.state)

pub keep_ending-requires-clause-rising : goal.keep_ending-requires-clause-rising
keep_ending-requires-clause-rising c = asked-rise _ c.self.invariant.0

pub keep_ending-requires-clause-stands : goal.keep_ending-requires-clause-stands
keep_ending-requires-clause-stands c = λ ending.
    open-stands c.self.inside.manager c.self.inside.asked.gone c.in-Held.query c.self.invariant.2.over
    (subst (λ (o : Option Life). IsTrue (option_map_or is_open o false)) (sym (sym c.life-life.ensures.life ∙ ending)) refl)

pub invariant_of-self : goal.invariant_of-self
invariant_of-self c =
    let becomes = finish-becomes c.finishes_follow_the_core.ensures.answered c.finishes_follow_the_core.ensures.unanswered _ c.args.self.now
    c.args.slot c.in-Held.query c.in-Held.built c.life-life.result c.detach-groups.result c.self.inside.asked c.keep_ending.new.asked
    c.detach-groups.new.self.attached c.end.new.self c.self.view_is c.self.invariant.0 c.requires (sym c.in-Held.ensures.state)
    c.life-life.ensures.life c.detach-groups.ensures.groups refl
    (record { ending = c.keep_ending.ensures.ending; others = c.keep_ending.ensures.others }) c.detach-groups.ensures.left c.end.ensures in (
      (becomes-out _ c.detach-groups.new.self.out _ becomes).core,
      c.self.invariant.1,
      finished-on c.self.inside.manager c.end.new.self c.self.inside.asked c.keep_ending.new.asked
          (on-ended c.args.slot c.self.inside.manager c.end.new.self c.end.ensures) c.keep_ending.ensures.gone c.keep_ending.ensures.handed
          c.self.invariant.2,
      c.self.invariant.3,
      backed-by (the_view c.self.inside) c.self.inside.flights.items c.end.new.self c.detach-groups.new.self.out refl
          (ap (λ (lives : Lives). lives.filters) c.end.ensures ∙ ended-filters c.args.slot c.self.inside.manager)
          c.detach-groups.ensures.out c.self.invariant.4,
      ap length c.detach-groups.ensures.out ∙ c.self.invariant.5,
    )

pub returns-in-Held-clause-after : goal.returns-in-Held-clause-after
returns-in-Held-clause-after c =
    let becomes = finish-becomes c.finishes_follow_the_core.ensures.answered c.finishes_follow_the_core.ensures.unanswered _ c.args.self.now
    c.args.slot c.in-Held.query c.in-Held.built c.life-life.result c.detach-groups.result c.self.inside.asked c.keep_ending.new.asked
    c.detach-groups.new.self.attached c.end.new.self c.self.view_is c.self.invariant.0 c.requires (sym c.in-Held.ensures.state)
    c.life-life.ensures.life c.detach-groups.ensures.groups refl
    (record { ending = c.keep_ending.ensures.ending; others = c.keep_ending.ensures.others }) c.detach-groups.ensures.left c.end.ensures in
    becomes.state

pub returns-in-Held-clause-beside : goal.returns-in-Held-clause-beside
returns-in-Held-clause-beside c =
    beside-by (the_view c.self.inside) c.args.self.now c.self.inside.flights.items c.end.new.self c.detach-groups.new.self.out
    c.self.view_is refl
    (ap (λ (lives : Lives). lives.filters) c.end.ensures ∙ ended-filters c.args.slot c.self.inside.manager)
    c.detach-groups.ensures.out
