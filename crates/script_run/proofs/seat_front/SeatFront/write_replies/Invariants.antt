-- The replies that the seat took were written, and it may take another turn.
use Rattle.script_run.proofs.Words.{◌≡◌, [], Ok}
use Rattle.script_run.specs.SeatFront.{PlaysAt}
use Rattle.script_run.proofs.seat_front.SeatFront.write_replies.Given as goal

abbrev pub invariant-replies : goal.invariant-replies
invariant-replies g l = record {
  plays : PlaysAt l.board (Ok l.refused) l.fn.self.seat l.self.seat [] (g.K.Sink.writing l.fn.sink) (g.K.Sink.writing l.sink);
  apart : g.K.Sink.reading_side l.sink ≡ g.K.Sink.reading_side l.fn.sink;
}
