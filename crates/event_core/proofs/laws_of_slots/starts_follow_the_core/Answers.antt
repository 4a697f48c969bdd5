use Rattle.event_core.proofs.AskedKeptLemmas.{accepted-of}
use Rattle.event_core.proofs.StartedLemmas.{start-becomes, start-nothing, start-some, start-there}
use Rattle.event_core.specs.Seen.{accepted_as, state_of}
use Rattle.event_core.proofs.laws_of_slots.starts_follow_the_core.Goals as goal

pub returns-clause-there : goal.returns-clause-there
returns-clause-there c = start-there

pub returns-clause-kept : goal.returns-clause-kept
returns-clause-kept c = start-some c.a_distributor_follows_the_core.ensures.start

pub returns-clause-may : goal.returns-clause-may
returns-clause-may c = λ parts query slot asked core can place found. (
  start-nothing c.a_distributor_follows_the_core.ensures.start parts query slot asked core can place found,
  c.a_scan_starts_what_the_core_starts.ensures.may (state_of parts) parts.scan parts.tables query slot
      (accepted_as parts.lives parts.attached asked) core.sound can core.scanned core.tables place
      (accepted-of parts.lives parts.attached parts.asked query asked found),
)

pub returns-clause-done : goal.returns-clause-done
returns-clause-done c = start-becomes c.every_step_keeps_a_core_sound.ensures c.a_distributor_follows_the_core.ensures.start
    c.a_scan_starts_what_the_core_starts.ensures.some c.a_scan_starts_what_the_core_starts.ensures.none
