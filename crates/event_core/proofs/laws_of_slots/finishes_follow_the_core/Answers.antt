use Rattle.event_core.proofs.FinishedLemmas.{finish-answered, finish-unanswered}
use Rattle.event_core.proofs.laws_of_slots.finishes_follow_the_core.Goals as goal

pub returns-clause-answered : goal.returns-clause-answered
returns-clause-answered c = finish-answered c.every_step_keeps_a_core_sound.ensures c.other_events_leave_a_scan.ensures.event
    c.a_distributor_follows_the_core.ensures.finish c.a_distributor_follows_the_core.ensures.answer

pub returns-clause-unanswered : goal.returns-clause-unanswered
returns-clause-unanswered c = finish-unanswered c.every_step_keeps_a_core_sound.ensures c.other_events_leave_a_scan.ensures.event
    c.a_distributor_follows_the_core.ensures.finish
