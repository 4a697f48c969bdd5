use Rattle.script_run.proofs.Words.{◌∙◌, refl}
use Rattle.script_run.proofs.RunAloneLemmas.{answered_run, ended_halted, ended_run, fault_run, fed_run, halted_run, limit_run, starts_run, unfed_run}
use Rattle.script_run.proofs.RunLemmas.{counts_all, counts_halted}
use Rattle.script_run.proofs.run.answer_script.Goals as goal

pub pieces-init : goal.pieces-init
pieces-init g c = record {
  run = starts_run _ _ _ _ c.requires.store c.requires.reader;
  ended = refl;
  unread = refl;
  unwritten = refl;
}

pub returns-in-Err-clause-answers : goal.returns-in-Err-clause-answers
returns-in-Err-clause-answers g c =
    rw c.end_of_halt.ensures (halted_run c.in-Err.halt _ _ _ _ _ _ _ _ c.pieces.invariant.run c.in-Err.ensures.answers
    c.pieces.invariant.ended c.pieces.invariant.unread)

pub returns-in-Err-clause-faults : goal.returns-in-Err-clause-faults
returns-in-Err-clause-faults g c =
    rw c.end_of_halt.ensures (counts_halted c.in-Err.halt _ _ _ _ _ c.pieces.invariant.unread c.pieces.invariant.unwritten
    c.in-Err.ensures.faults)

pub pieces-preserved : goal.pieces-preserved
pieces-preserved g c =
    let run = answered_run _ _ _ _ _ _ _ _ _ _ _ c.pieces.invariant.run c.in-Ok.ensures.answers in
    let takes = c.in-Fed.ensures.takes in
    record {
      run = fed_run _ _ _ _ _ _ _ _ _ takes.0 run takes.1 takes.2.0 takes.2.2;
      ended = c.in-Fed.ensures.end ∙ c.pieces.invariant.ended;
      unread = c.in-Fed.ensures.faults ∙ c.pieces.invariant.unread;
      unwritten = c.in-Ok.ensures.faults ∙ c.pieces.invariant.unwritten;
    }

pub returns-in-Fault-clause-answers : goal.returns-in-Fault-clause-answers
returns-in-Fault-clause-answers g c =
    let answers = c.in-Ok.ensures.answers in
    let run = answered_run _ _ _ _ _ _ _ _ _ _ _ c.pieces.invariant.run answers in
    let takes = c.in-Fault.ensures.takes in
    fault_run _ _ _ _ _ _ _ _ takes.0 run answers.1 takes.1 takes.2.1

pub returns-in-Limit-clause-answers : goal.returns-in-Limit-clause-answers
returns-in-Limit-clause-answers g c =
    let answers = c.in-Ok.ensures.answers in
    let run = answered_run _ _ _ _ _ _ _ _ _ _ _ c.pieces.invariant.run answers in
    let takes = c.in-Limit.ensures.takes in
    limit_run _ _ _ _ _ _ _ _ takes.0 run answers.1 takes.1 takes.2.1 takes.2.2

pub returns-in-NoMemory-clause-answers : goal.returns-in-NoMemory-clause-answers
returns-in-NoMemory-clause-answers g c =
    let run = answered_run _ _ _ _ _ _ _ _ _ _ _ c.pieces.invariant.run c.in-Ok.ensures.answers in
    let takes = c.in-NoMemory.ensures.takes in
    unfed_run _ _ _ _ _ _ _ _ takes.0 run takes.1 takes.2.1 (c.in-NoMemory.ensures.end ∙ c.pieces.invariant.ended)
    (c.in-NoMemory.ensures.faults ∙ c.pieces.invariant.unread)

pub returns-in-Ok-answer_whole-clause-answers : goal.returns-in-Ok-answer_whole-clause-answers
returns-in-Ok-answer_whole-clause-answers g c =
    let run = answered_run _ _ _ _ _ _ _ _ _ _ _ c.pieces.invariant.run c.in-Ok.ensures.answers in
    let takes = c.in-Ended.ensures.takes in
    let answers = rw (c.finish.ensures, takes.2.0) at c.in-Ok-answer_whole.ensures.answers in
    rw c.end_of_all.ensures (ended_run _ _ _ _ _ _ _ _ _ _ _ _ takes.0 run takes.1 takes.2.1 c.in-Ended.ensures.end answers)

pub returns-in-Ok-answer_whole-clause-faults : goal.returns-in-Ok-answer_whole-clause-faults
returns-in-Ok-answer_whole-clause-faults g c =
    rw c.end_of_all.ensures (counts_all _ _ _ _ _ _ (c.in-Ended.ensures.faults ∙ c.pieces.invariant.unread)
    (c.in-Ok.ensures.faults ∙ c.pieces.invariant.unwritten) c.in-Ok-answer_whole.ensures.faults)

pub returns-in-Err-answer_whole-clause-answers : goal.returns-in-Err-answer_whole-clause-answers
returns-in-Err-answer_whole-clause-answers g c =
    let run = answered_run _ _ _ _ _ _ _ _ _ _ _ c.pieces.invariant.run c.in-Ok.ensures.answers in
    let takes = c.in-Ended.ensures.takes in
    let answers = rw (c.finish.ensures, takes.2.0) at c.in-Err-answer_whole.ensures.answers in
    rw c.end_of_halt-in-Err-answer_whole.ensures (ended_halted c.in-Err-answer_whole.halt _ _ _ _ _ _ _ _ _ takes.0 run takes.1 takes.2.1
    c.in-Ended.ensures.end answers)

pub returns-in-Err-answer_whole-clause-faults : goal.returns-in-Err-answer_whole-clause-faults
returns-in-Err-answer_whole-clause-faults g c =
    rw c.end_of_halt-in-Err-answer_whole.ensures (counts_halted c.in-Err-answer_whole.halt _ _ _ _ _
    (c.in-Ended.ensures.faults ∙ c.pieces.invariant.unread) (c.in-Ok.ensures.faults ∙ c.pieces.invariant.unwritten)
    c.in-Err-answer_whole.ensures.faults)
