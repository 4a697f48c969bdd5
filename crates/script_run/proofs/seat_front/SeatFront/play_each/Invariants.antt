-- The statements so far were sent, and the seat may take another turn.
use Rattle.std.specs.Vec.Iter.{into_iter_items}
use Rattle.script_run.proofs.Words.{◌≡◌, Ok}
use Rattle.script_run.specs.SeatFront.{PlaysFirst}
use Rattle.script_run.proofs.seat_front.SeatFront.play_each.Given as goal

abbrev pub invariant-statements : goal.invariant-statements
invariant-statements g l = record {
  plays : PlaysFirst l.board (Ok l.refused) l.fn.self.seat l.self.seat l.fn.statements.items (into_iter_items l.statement-iterator)
      (g.K.Sink.writing l.fn.sink) (g.K.Sink.writing l.sink);
  apart : g.K.Sink.reading_side l.sink ≡ g.K.Sink.reading_side l.fn.sink;
}
