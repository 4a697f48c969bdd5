use Rattle.event_core.proofs.AbandonedPartsLemmas.{abandon-becomes, abandon-seat, abandon-there}
use Rattle.event_core.proofs.laws_of_slots.abandoned_queries_follow_the_core.Goals as goal

pub returns-clause-there : goal.returns-clause-there
returns-clause-there c = abandon-there

pub returns-clause-seat : goal.returns-clause-seat
returns-clause-seat c = abandon-seat

pub returns-clause-done : goal.returns-clause-done
returns-clause-done c = abandon-becomes c.every_step_keeps_a_core_sound.ensures c.a_distributor_follows_the_core.ensures.abandon
    c.a_scan_stops_what_the_core_stops.ensures.abandoning
