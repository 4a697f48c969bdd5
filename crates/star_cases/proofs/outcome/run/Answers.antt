use Rattle.star_cases.proofs.outcome.run.Goals as goal

pub returns-in-Shared : goal.returns-in-Shared
returns-in-Shared g c = rw c.end_of.ensures c.run_on_one_thread.ensures.answers.0

pub returns-in-Worked : goal.returns-in-Worked
returns-in-Worked g c = rw c.end_of-in-Worked.ensures c.run_script.ensures.answers.0

pub run_script-requires-clause-settings : goal.run_script-requires-clause-settings
run_script-requires-clause-settings g c κs within =
    let is = rw c.in-Worked.is at c.requires in record { within = is.0; seats = is.1 }
