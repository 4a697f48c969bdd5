-- The statement was submitted. The core has seat 0, so the statement may come.
use Rattle.script_run.proofs.Words.{ap, arith, Err, state_of}
use Rattle.script_run.proofs.FrontPlayLemmas.{took-given}
use Rattle.script_run.proofs.front.submit.Goals as goal

pub step-requires : goal.step-requires
step-requires c = record { home = λ _. c.idle_cores_lend_nothing.ensures c.requires }

pub returns-in-Ok-clause-gives : goal.returns-in-Ok-clause-gives
returns-in-Ok-clause-gives c =
    took-given c.args.statement (state_of c.args.core.now) (state_of c.step.new.self) c.every_core_is_sound.ensures c.in-Ok.ensures.taken

pub unreachable-requires : goal.unreachable-requires
unreachable-requires c =
    let sound = c.every_core_is_sound.ensures in
    c.in-Err-NotEnabled.ensures.disabled.0 (ap Err c.in-Err-NotEnabled.field-0-is)
    (let low = sound.settings.seats in let count = sound.seats.count in omega arith)
