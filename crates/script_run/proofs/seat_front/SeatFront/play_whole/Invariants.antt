-- The statements so far were sent by turns of the seat, and the replies that were there were written.
use Rattle.script_run.proofs.Words.{◌≡◌}
use Rattle.script_run.proofs.SeatWholeLemmas.{PlaysRead}
use Rattle.script_run.proofs.SharedWholeLemmas.{statements_left}
use Rattle.script_run.proofs.seat_front.SeatFront.play_whole.Given as goal

abbrev pub invariant-runs : goal.invariant-runs
invariant-runs g l = record {
  way : PlaysRead l.board l.refused l.initial.self.seat l.self.seat l.initial.reader l.reader (g.K.Sink.writing l.initial.sink)
      (g.K.Sink.writing l.sink);
  apart : g.K.Sink.reading_side l.sink ≡ g.K.Sink.reading_side l.initial.sink;
}

abbrev pub decreases-runs : goal.decreases-runs
decreases-runs g l = statements_left l.reader
