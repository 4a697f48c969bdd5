use Rattle.script_run.proofs.Words.{◌≡◌, IsRun, List, state_of, StaysFed}
use Rattle.core_state.specs.Fronts.{IsDue}
use Rattle.core_state.specs.Rows.{sight_of}
use Rattle.core_state.specs.Sent.{Sent}
use Rattle.script_run.specs.Counted.{HasFreeSlot}
use Rattle.script_run.proofs.SharedWholeLemmas.{IsPlaying, statements_left}
use Rattle.script_run.proofs.shared.play_whole.Given as goal

-- the statements so far were given to the core, the replies that were there were written, and no write failed
abbrev pub invariant-statements : goal.invariant-statements
invariant-statements g l = record {
  way : (due : List Sent) → IsDue 0 (sight_of (state_of l.initial.front.core) 0) due
      → IsPlaying (state_of l.initial.front.core) due (state_of l.front.core) l.initial.reader l.reader l.refused
      (g.K.Sink.writing l.initial.sink).taken (g.K.Sink.writing l.sink).taken;
  stays : StaysFed l.initial.reader l.reader;
  run : IsRun (state_of l.initial.front.core) (state_of l.front.core);
  room : HasFreeSlot l.front;
  unfailed : (g.K.Sink.writing l.sink).faults ≡ (g.K.Sink.writing l.initial.sink).faults;
  apart : g.K.Sink.reading_side l.sink ≡ g.K.Sink.reading_side l.initial.sink;
}

abbrev pub decreases-statements : goal.decreases-statements
decreases-statements g l = statements_left l.reader
