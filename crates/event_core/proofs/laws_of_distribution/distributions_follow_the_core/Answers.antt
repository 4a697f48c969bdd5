use Rattle.event_core.proofs.Words.{fed_in, state_of}
use Rattle.event_core.proofs.DistributedLemmas.{attached-seen, distributed-becomes, held-begun, seen, seen-there}
use Rattle.event_core.proofs.DistributedSlotLemmas.{held-are-fed}
use Rattle.event_core.proofs.laws_of_distribution.distributions_follow_the_core.Goals as goal

pub returns-clause-holders : goal.returns-clause-holders
returns-clause-holders c parts slots core attached = held-are-fed (state_of parts) slots (attached-seen parts slots core attached)

pub returns-clause-begun : goal.returns-clause-begun
returns-clause-begun c = held-begun

pub returns-clause-fed : goal.returns-clause-fed
returns-clause-fed c parts batch place slots flight core at is rows =
    c.spoiled_slots_are_spoiled_queries.ensures.fed (state_of parts) batch (seen parts flight) slots core.sound
    (seen-there parts batch place flight at is) rows

pub returns-clause-done : goal.returns-clause-done
returns-clause-done c parts batch place slots flight dims frame core may at is rows attached have long =
    let there = seen-there parts batch place flight at is in
    let fed = c.spoiled_slots_are_spoiled_queries.ensures.fed (state_of parts) batch (seen parts flight) slots core.sound there have in
    distributed-becomes parts batch place slots flight dims frame core at is
    (c.a_distributed_batch_keeps_a_core_sound.ensures batch (fed_in (state_of parts) slots) (state_of parts) may fed core.sound)
    (c.a_scan_stops_what_the_core_stops.ensures.distributing (state_of parts) parts.scan batch (fed_in (state_of parts) slots) core.sound may.there core.scanned)
    (c.spoiled_slots_are_spoiled_queries.ensures.groups (state_of parts) parts.tables dims batch (seen parts flight) slots core.sound
    (record { tables = core.tables; dimensions = rows }) there)
