use Rattle.event_core.proofs.Words.{◌∙◌, All, All-nil, ap, AskedQuery, Filters, length, None, parts_by, refl, subst, sym}
use Rattle.std.proofs.Math.ListN.{length-replicate}
use Rattle.event_core.proofs.NewCoreLemmas.{becomes-empty, room-made}
use Rattle.event_core.proofs.SparedLemmas.{spare-none}
use Rattle.core_parts.specs.Asked.{AreOver, HasBegun, IsQueryOver}
use Rattle.shared_distributor.specs.Shared.{SharedGroups}
use Rattle.event_core.specs.CoreParts.{first_marks}
use Rattle.event_core.proofs.OutLemmas.{backed-none, beside-first}
use Rattle.event_core.proofs.machine.Core.new.Goals as goal

pub invariant_of-result : goal.invariant_of-result
invariant_of-result c =
    let slots = c.in_ok-manager in
    let frames = c.in_ok-flights in
    let becomes = becomes-empty c.a_new_core_is_empty.ensures c.args.settings c.in_ok-tables.tables c.new.result c.in_ok-seats.seats
    c.new-2.result slots.manager c.new-3.result slots.scan slots.distributor frames.flights frames.pool c.requires c.in_ok-tables.ensures
    c.new.ensures c.in_ok-seats.ensures c.new-2.ensures.items slots.ensures.lives c.new-3.ensures slots.ensures.scan
    slots.ensures.groups frames.ensures.none frames.ensures.pool in (
      becomes.core,
      room-made c.args.settings frames.flights frames.ensures.room,
      record {
        over = subst (AreOver slots.manager) (sym c.new-2.ensures.gone) (All-nil (λ (entry : AskedQuery). IsQueryOver slots.manager entry.number));
        begun = subst (All (HasBegun slots.manager)) (sym c.new-2.ensures.handed) (All-nil (HasBegun slots.manager));
      },
      spare-none c.args.settings.seats c.new-3.result.versions frames.flights.items c.new-4.result
          (ap (λ (filters : Filters). filters.versions) c.new-3.ensures),
      backed-none (parts_by c.args.settings c.in_ok-tables.tables c.new.result c.in_ok-seats.seats c.new-2.result slots.manager c.new-3.result
          slots.scan slots.distributor frames.flights frames.pool 0 0 0 0 first_marks) c.args.settings.seats
          (ap (λ (groups : SharedGroups). groups.out) slots.ensures.groups),
      ap (λ (groups : SharedGroups). length groups.out) slots.ensures.groups ∙ length-replicate c.args.settings.seats None,
    )

pub returns-clause-state : goal.returns-clause-state
returns-clause-state c =
    let slots = c.in_ok-manager in
    let frames = c.in_ok-flights in
    let becomes = becomes-empty c.a_new_core_is_empty.ensures c.args.settings c.in_ok-tables.tables c.new.result c.in_ok-seats.seats
    c.new-2.result slots.manager c.new-3.result slots.scan slots.distributor frames.flights frames.pool c.requires c.in_ok-tables.ensures
    c.new.ensures c.in_ok-seats.ensures c.new-2.ensures.items slots.ensures.lives c.new-3.ensures slots.ensures.scan
    slots.ensures.groups frames.ensures.none frames.ensures.pool in
    becomes.state

pub returns-clause-beside : goal.returns-clause-beside
returns-clause-beside c =
    beside-first (parts_by c.args.settings c.in_ok-tables.tables c.new.result c.in_ok-seats.seats c.new-2.result c.in_ok-manager.manager
    c.new-3.result c.in_ok-manager.scan c.in_ok-manager.distributor c.in_ok-flights.flights c.in_ok-flights.pool 0 0 0 0 first_marks)
    c.args.settings.seats c.in_ok-flights.ensures.none (ap (λ (groups : SharedGroups). groups.out) c.in_ok-manager.ensures.groups) refl
