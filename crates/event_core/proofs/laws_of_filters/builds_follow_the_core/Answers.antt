use Rattle.event_core.proofs.BuiltLemmas.{becomes-built, build-may, build-there}
use Rattle.event_core.proofs.UnbuiltLemmas.{becomes-unbuilt}
use Rattle.event_core.proofs.laws_of_filters.builds_follow_the_core.Goals as goal

pub returns-clause-there : goal.returns-clause-there
returns-clause-there c = build-there

pub returns-clause-may : goal.returns-clause-may
returns-clause-may c = build-may c.accepted_histories_are_settled.ensures.all c.rows_fit_by_their_kinds.ensures

pub returns-clause-done : goal.returns-clause-done
returns-clause-done c = becomes-built c.quiet_events_leave_a_core.ensures

pub returns-clause-wants : goal.returns-clause-wants
returns-clause-wants c = becomes-unbuilt
    c.every_step_keeps_a_core_sound.ensures
    c.other_events_leave_a_scan.ensures.wants
    c.other_events_leave_a_distributor.ensures.wants
