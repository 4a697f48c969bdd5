use Rattle.script_run.proofs.Words.{◌-◌, ◌≡◌, plain, SCRIPT_LIMIT}
use Rattle.script_run.proofs.RunAloneLemmas.{IsRunning}
use Rattle.script_run.proofs.run.answer_script.Given as goal

-- every read and write so far was as the run tells it, and none failed
abbrev pub invariant-pieces : goal.invariant-pieces
invariant-pieces g l = record {
  run : IsRunning (plain l.store) l.reader l.refused (g.S.Source.reading l.fn.source).left (g.S.Source.reading l.source).left
      (g.K.Sink.writing l.fn.sink).taken (g.K.Sink.writing l.sink).taken;
  ended : (g.S.Source.reading l.source).ended ≡ (g.S.Source.reading l.fn.source).ended;
  unread : (g.S.Source.reading l.source).faults ≡ (g.S.Source.reading l.fn.source).faults;
  unwritten : (g.K.Sink.writing l.sink).faults ≡ (g.K.Sink.writing l.fn.sink).faults;
}

abbrev pub decreases-pieces : goal.decreases-pieces
decreases-pieces g l = SCRIPT_LIMIT - l.reader.fed
