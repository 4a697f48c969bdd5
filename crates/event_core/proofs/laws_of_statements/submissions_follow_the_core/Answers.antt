use Rattle.event_core.proofs.AskedAnewLemmas.{becomes-accepted}
use Rattle.event_core.proofs.ChangedLemmas.{becomes-changed}
use Rattle.event_core.proofs.SubmittedCoreLemmas.{becomes-replied, new-number}
use Rattle.event_core.proofs.laws_of_statements.submissions_follow_the_core.Goals as goal

pub returns-clause-tables : goal.returns-clause-tables
returns-clause-tables c = λ parts core. core.tables.same

pub returns-clause-replied : goal.returns-clause-replied
returns-clause-replied c = becomes-replied (record {
  step = c.every_step_keeps_a_core_sound.ensures;
  scan = c.other_events_leave_a_scan.ensures.event;
  attached = c.other_events_leave_a_distributor.ensures.event;
})

pub returns-clause-changed : goal.returns-clause-changed
returns-clause-changed c = λ parts seat statement reply change tables core there tells after keyed.
    becomes-changed (record {
      step = c.every_step_keeps_a_core_sound.ensures;
      scan = c.other_events_leave_a_scan.ensures.event;
      attached = c.other_events_leave_a_distributor.ensures.event;
    }) (record {
      follow = c.changes_follow_from_the_tables.ensures;
      ascending = c.deletes_name_ascending_positions.ensures;
      fit = c.outcomes_fit_the_tables.ensures;
      settled = c.accepted_histories_are_settled.ensures.all;
    }) parts seat statement reply change tables (record { core = core; there = there; tells = tells; after = after; keyed = keyed })

pub returns-clause-accepted : goal.returns-clause-accepted
returns-clause-accepted c = becomes-accepted (record {
  step = c.every_step_keeps_a_core_sound.ensures;
  scan = c.other_events_leave_a_scan.ensures.event;
  attached = c.other_events_leave_a_distributor.ensures.event;
})

pub returns-clause-new : goal.returns-clause-new
returns-clause-new c = λ parts core. new-number parts core.sound
