use Rattle.script_run.proofs.Words.{◌≡◌, length, seat_at, state_of}
use Rattle.script_run.proofs.FrontReadyLemmas.{IsWriting}
use Rattle.script_run.proofs.front.write_ready.Given as goal

-- the replies so far were written, and no write failed
abbrev pub invariant-replies : goal.invariant-replies
invariant-replies g l = record {
  writing : IsWriting (state_of l.initial.core) (state_of l.core) l.refused (g.K.Sink.writing l.initial.sink).taken (g.K.Sink.writing l.sink).taken;
  unfailed : (g.K.Sink.writing l.sink).faults ≡ (g.K.Sink.writing l.initial.sink).faults;
  apart : g.K.Sink.reading_side l.sink ≡ g.K.Sink.reading_side l.initial.sink;
}

abbrev pub decreases-replies : goal.decreases-replies
decreases-replies g l = length (seat_at (state_of l.core) 0).pending
