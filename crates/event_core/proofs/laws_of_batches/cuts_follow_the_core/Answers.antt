use Rattle.std.specs.Prelude.{length}
use Rattle.event_core.specs.Seen.{state_of}
use Rattle.event_core.proofs.CutIntoLemmas.{becomes-cut}
use Rattle.event_core.proofs.CutNextLemmas.{can-cut-next}
use Rattle.event_core.proofs.laws_of_batches.cuts_follow_the_core.Goals as goal

pub returns-clause-may : goal.returns-clause-may
returns-clause-may c = λ parts core may.
    let can = c.a_scan_may_cut_where_the_core_may.ensures.may (state_of parts) parts.scan parts.tables core.sound core.scanned core.tables in
    let runs = c.a_scan_may_cut_where_the_core_may.ensures.runs (state_of parts) parts.scan may core.sound core.scanned in
    can-cut-next c.a_cut_takes_no_more_than_is_left.ensures parts core may can
    (c.a_scan_may_cut_where_the_core_may.ensures.tests (state_of parts) parts.scan parts.tables core.sound core.scanned core.tables)
    (c.a_scan_may_cut_where_the_core_may.ensures.room (state_of parts))
    runs
    (c.a_cut_ends_at_its_nearest_bound.ensures parts.scan (length parts.tables.versions) parts.settings.batch can.0 can.1 runs)

pub returns-clause-done : goal.returns-clause-done
returns-clause-done c = λ parts holders frame inside core may is long held.
    becomes-cut
    (λ one of_one. c.a_scan_cuts_what_the_core_cuts.ensures.batch (state_of one) one.scan one.tables of_one.sound of_one.scanned of_one.tables)
    c.bits_are_those_of_slots.ensures.roster
    c.other_events_leave_a_distributor.ensures.event
    parts holders frame inside core may is long held
    (c.a_scan_may_cut_where_the_core_may.ensures.runs (state_of parts) parts.scan may core.sound core.scanned)
    (c.a_scan_cuts_what_the_core_cuts.ensures.range (state_of parts) parts.scan parts.tables core.sound core.scanned core.tables)
    (c.a_cut_keeps_a_core_sound.ensures (state_of parts) may core.sound)
    (c.a_scan_cuts_what_the_core_cuts.ensures.after (state_of parts) parts.scan parts.tables may core.sound core.scanned core.tables)
