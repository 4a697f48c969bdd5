use Rattle.event_core.proofs.QuietLemmas.{core-quiet}
use Rattle.event_core.proofs.laws_of_core.quiet_events_leave_a_core.Goals as goal

pub returns : goal.returns
returns c = core-quiet
    c.every_step_keeps_a_core_sound.ensures
    c.other_events_leave_a_scan.ensures.event
    c.other_events_leave_a_distributor.ensures.event
