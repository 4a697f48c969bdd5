use Rattle.script_run.proofs.Words.{◌≡◌, plain, Replies}
use Rattle.script_run.proofs.SharedWholeLemmas.{statements_left}
use Rattle.script_run.proofs.answer.answer_whole.Given as goal

-- the statements so far were replied to, all of that was written, and no write failed
abbrev pub invariant-statements : goal.invariant-statements
invariant-statements g l = record {
  way : Replies (plain l.initial.store) l.initial.reader (plain l.store) l.reader l.refused
      (g.K.Sink.writing l.initial.sink).taken (g.K.Sink.writing l.sink).taken;
  unfailed : (g.K.Sink.writing l.sink).faults ≡ (g.K.Sink.writing l.initial.sink).faults;
}

abbrev pub decreases-statements : goal.decreases-statements
decreases-statements g l = statements_left l.reader
