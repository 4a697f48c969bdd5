use Rattle.script_run.proofs.Words.{◌-◌, ◌≡◌, IsRun, SCRIPT_LIMIT, State, state_of}
use Rattle.script_run.specs.Counted.{HasFreeSlot}
use Rattle.script_run.proofs.SharedRunLemmas.{IsShared}
use Rattle.script_run.proofs.SharedScriptLemmas.{IsAlone}
use Rattle.script_run.proofs.shared.play_script.Given as goal

-- every read, step and write so far was as the run tells it, the front counted what it gave, and no read or write failed
abbrev pub invariant-pieces : goal.invariant-pieces
invariant-pieces g l = record {
  run : IsShared (state_of l.fn.front.core).settings (state_of l.front.core) l.reader l.refused (g.S.Source.reading l.fn.source).left (g.S.Source.reading l.source).left (g.K.Sink.writing l.fn.sink).taken (g.K.Sink.writing l.sink).taken;
  steps : IsRun (state_of l.fn.front.core) (state_of l.front.core);
  alone : (new : State) → IsRun (state_of l.fn.front.core) new → IsAlone new;
  room : HasFreeSlot l.front;
  ended : (g.S.Source.reading l.source).ended ≡ (g.S.Source.reading l.fn.source).ended;
  unread : (g.S.Source.reading l.source).faults ≡ (g.S.Source.reading l.fn.source).faults;
  unwritten : (g.K.Sink.writing l.sink).faults ≡ (g.K.Sink.writing l.fn.sink).faults;
  apart : g.K.Sink.reading_side l.sink ≡ g.K.Sink.reading_side l.fn.sink;
}

abbrev pub decreases-pieces : goal.decreases-pieces
decreases-pieces g l = SCRIPT_LIMIT - l.reader.fed
