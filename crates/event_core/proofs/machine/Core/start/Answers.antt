use Rattle.event_core.proofs.Words.{◌∙◌, ◌≡◌, after_start, All, ap, AreAskedRising, asked_at, AskedQueries, AskedQuery, Becomes, IfSome, IsSome, KeyedStore, length, Lives, None, option_and_then, refl, state_of, subst, sym, the_view, with_kept_at}
use Rattle.std.specs.Arc.{arc_value}
use Rattle.event_core.proofs.AskedKeptLemmas.{asked-rise}
use Rattle.event_core.proofs.StartEventLemmas.{start-becomes, start-free, start-kept, start-open, start-scans, start-some, starting}
use Rattle.core_parts.specs.Asked.{HasBegun}
use Rattle.event_core.proofs.LetGoLemmas.{building-stands, finished-more, handed-more, has-begun, on-run}
use Rattle.event_core.proofs.OutLemmas.{start-inside}
use Rattle.event_core.proofs.CoreAtLemmas.{becomes-out}
use Rattle.event_core.proofs.LentLemmas.{backed-by, beside-by}
use Rattle.event_core.proofs.machine.Core.start.Goals as goal

pub extent-extent-requires : goal.extent-extent-requires
extent-extent-requires c = start-open _ c.args.self.now c.args.query c.self.view_is c.requires

pub asked_of-requires-clause-rising : goal.asked_of-requires-clause-rising
asked_of-requires-clause-rising c = asked-rise _ c.self.invariant.0

pub asked_of-requires-clause-stands : goal.asked_of-requires-clause-stands
asked_of-requires-clause-stands c =
    (building-stands _ c.args.self.now c.self.inside.asked c.args.query c.self.view_is c.self.invariant.2 c.requires.building).gone

pub hand_on-bound-requires-clause-stands : goal.hand_on-bound-requires-clause-stands
hand_on-bound-requires-clause-stands c =
    (building-stands _ c.args.self.now c.self.inside.asked c.args.query c.self.view_is c.self.invariant.2 c.requires.building).gone

pub hand_on-bound-requires-clause-can : goal.hand_on-bound-requires-clause-can
hand_on-bound-requires-clause-can c = record {
  rising = asked-rise _ c.self.invariant.0;
  there = subst (λ o. IsSome o) (sym c.asked_of.ensures.asked) refl;
  whole = (building-stands _ c.args.self.now c.self.inside.asked c.args.query c.self.view_is c.self.invariant.2 c.requires.building).handed;
}

pub start_scan-requires : goal.start_scan-requires
start_scan-requires c =
    let starts = starting _ c.args.self.now c.args.query c.unwrap-slot.result c.asked_of.result.now.asked c.slot_of.result c.self.inside.asked.items
    c.self.view_is c.self.invariant.0 c.requires c.slot_of.ensures.slot c.unwrap-slot.ensures refl c.asked_of.ensures.asked in
    start-scans c.starts_follow_the_core.ensures.may _ c.args.query c.unwrap-slot.result c.asked_of.result.now.asked c.extent-extent.result
    c.len-length.result starts c.extent-extent.ensures (c.len-length.ensures.count ∙ ap length
    (c.facts.ensures.versions ∙ ap (λ (store : KeyedStore). store.versions) c.store.ensures))

pub take_kept-requires : goal.take_kept-requires
take_kept-requires c = subst AreAskedRising (sym c.hand_on-bound.ensures.items) (asked-rise _ c.self.invariant.0)

pub unwrap-groups-requires : goal.unwrap-groups-requires
unwrap-groups-requires c =
    let starts = starting _ c.args.self.now c.args.query c.unwrap-slot.result c.asked_of.result.now.asked c.slot_of.result c.self.inside.asked.items
    c.self.view_is c.self.invariant.0 c.requires c.slot_of.ensures.slot c.unwrap-slot.ensures refl c.asked_of.ensures.asked in
    start-some c.starts_follow_the_core.ensures.kept _ c.args.query c.unwrap-slot.result c.asked_of.result.now.asked c.take_kept.result starts
    (c.take_kept.ensures.groups
    ∙ ap (λ items. option_and_then (λ (entry : AskedQuery). entry.kept) (asked_at items c.args.query)) c.hand_on-bound.ensures.items)

pub attach-requires-clause-inside : goal.attach-requires-clause-inside
attach-requires-clause-inside c =
    let starts = starting _ c.args.self.now c.args.query c.unwrap-slot.result c.asked_of.result.now.asked c.slot_of.result c.self.inside.asked.items
    c.self.view_is c.self.invariant.0 c.requires c.slot_of.ensures.slot c.unwrap-slot.ensures refl c.asked_of.ensures.asked in
    start-inside (the_view c.self.inside) c.args.query c.unwrap-slot.result c.asked_of.result.now.asked starts c.self.invariant.4

pub attach-requires-clause-free : goal.attach-requires-clause-free
attach-requires-clause-free c =
    let starts = starting _ c.args.self.now c.args.query c.unwrap-slot.result c.asked_of.result.now.asked c.slot_of.result c.self.inside.asked.items
    c.self.view_is c.self.invariant.0 c.requires c.slot_of.ensures.slot c.unwrap-slot.ensures refl c.asked_of.ensures.asked in
    start-free c.starts_follow_the_core.ensures.may _ c.args.query c.unwrap-slot.result c.asked_of.result.now.asked starts

-- the parts are those where it has begun its lap
becomes : (c : goal.After-run) → Becomes
    (record (the_view c.self.inside) {
      scan = c.start_scan.new.scan;
      asked = c.take_kept.new.self.items;
      attached = c.attach.new.self.attached;
      out = c.attach.new.self.out;
      lives = c.run.new.self;
    })
    (after_start c.args.query (state_of c.args.self.now))
becomes c =
    let starts = starting _ c.args.self.now c.args.query c.unwrap-slot.result c.asked_of.result.now.asked c.slot_of.result c.self.inside.asked.items
    c.self.view_is c.self.invariant.0 c.requires c.slot_of.ensures.slot c.unwrap-slot.ensures refl c.asked_of.ensures.asked in
    let kept = c.take_kept.ensures.groups
    ∙ ap (λ items. option_and_then (λ (entry : AskedQuery). entry.kept) (asked_at items c.args.query)) c.hand_on-bound.ensures.items in
    becomes-out _ c.attach.new.self.out _
    (start-becomes c.starts_follow_the_core.ensures.done _ c.args.self.now c.args.query c.unwrap-slot.result c.asked_of.result.now.asked
    c.unwrap-groups.result c.extent-extent.result c.len-length.result c.first_position-start.result c.snapshot-snapshot.result
    (arc_value c.hand_on-bound.result) c.start_scan.new.scan c.take_kept.new.self.items c.attach.new.self.attached
    c.run.new.self c.self.view_is starts
    (start-kept _ c.args.query c.unwrap-slot.result c.asked_of.result.now.asked c.take_kept.result starts kept ∙ c.unwrap-groups.ensures)
    c.extent-extent.ensures (c.len-length.ensures.count ∙ ap length
    (c.facts.ensures.versions ∙ ap (λ (store : KeyedStore). store.versions) c.store.ensures)) c.snapshot-snapshot.ensures
    (subst (λ o. IfSome o (λ (entry : AskedQuery). arc_value c.hand_on-bound.result ≡ entry.query)) c.asked_of.ensures.asked
    c.hand_on-bound.ensures.query)
    c.first_position-start.ensures (record { none = c.start_scan.ensures.none; some = c.start_scan.ensures.some })
    (ap (λ (r : AskedQueries). r.items) c.take_kept.ensures.left ∙ ap (with_kept_at c.args.query None) c.hand_on-bound.ensures.items)
    c.attach.ensures.attached c.run.ensures)

pub invariant_of-self : goal.invariant_of-self
invariant_of-self c = (
  (becomes c).core,
  c.self.invariant.1,
  finished-more c.self.inside.manager c.run.new.self c.self.inside.asked c.take_kept.new.self
      (on-run _ c.args.self.now c.args.query c.first_position-start.result c.run.new.self c.self.view_is c.requires c.run.ensures)
      (ap (λ (r : AskedQueries). r.gone) c.take_kept.ensures.left ∙ c.hand_on-bound.ensures.gone)
      (λ all. subst (All (HasBegun c.run.new.self)) (sym (ap (λ (r : AskedQueries). r.handed) c.take_kept.ensures.left))
      (handed-more (HasBegun c.run.new.self) c.args.query c.self.inside.asked.handed c.hand_on-bound.new.self.handed c.hand_on-bound.ensures.handed
      (has-begun _ c.args.self.now c.args.query c.first_position-start.result c.run.new.self c.self.view_is c.requires c.run.ensures) all))
      c.self.invariant.2,
  c.self.invariant.3,
  backed-by (the_view c.self.inside) c.self.inside.flights.items c.run.new.self c.attach.new.self.out refl
      (ap (λ (lives : Lives). lives.filters) c.run.ensures) c.attach.ensures.out c.self.invariant.4,
  ap length c.attach.ensures.out ∙ c.self.invariant.5,
)

pub returns-clause-after : goal.returns-clause-after
returns-clause-after c = (becomes c).state

pub returns-clause-beside : goal.returns-clause-beside
returns-clause-beside c =
    beside-by (the_view c.self.inside) c.args.self.now c.self.inside.flights.items c.run.new.self c.attach.new.self.out
    c.self.view_is refl (ap (λ (lives : Lives). lives.filters) c.run.ensures) c.attach.ensures.out
