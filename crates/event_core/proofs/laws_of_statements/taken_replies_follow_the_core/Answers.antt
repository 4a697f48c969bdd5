use Rattle.event_core.proofs.TakenReplyLemmas.{taking-becomes}
use Rattle.event_core.proofs.laws_of_statements.taken_replies_follow_the_core.Goals as goal

pub returns : goal.returns
returns c = taking-becomes c.every_step_keeps_a_core_sound.ensures c.other_events_leave_a_distributor.ensures.taken
    c.other_events_leave_a_scan.ensures.taken
