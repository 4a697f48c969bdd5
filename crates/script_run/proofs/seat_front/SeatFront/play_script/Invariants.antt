-- The seat may take another turn, every read and write so far was as the run tells it, and none failed.
use Rattle.script_run.proofs.Words.{◌-◌, ◌≡◌, SCRIPT_LIMIT}
use Rattle.board_lock.specs.Seats.{view_of}
use Rattle.worker_gate.specs.Turns.{sight_in}
use Rattle.script_run.specs.SeatTurns.{StaysReady}
use Rattle.script_run.proofs.SeatRunLemmas.{IsRunBy}
use Rattle.script_run.proofs.seat_front.SeatFront.play_script.Given as goal

abbrev pub invariant-pieces : goal.invariant-pieces
invariant-pieces g l = record {
  seat : StaysReady l.board l.fn.self.seat l.self.seat;
  number : (view_of l.self.seat).number ≡ 0;
  run : IsRunBy (sight_in (view_of l.self.seat)) l.reader l.refused (g.S.Source.reading l.fn.source).left (g.S.Source.reading l.source).left
      (g.K.Sink.writing l.fn.sink).taken (g.K.Sink.writing l.sink).taken;
  ended : (g.S.Source.reading l.source).ended ≡ (g.S.Source.reading l.fn.source).ended;
  unread : (g.S.Source.reading l.source).faults ≡ (g.S.Source.reading l.fn.source).faults;
  unwritten : (g.K.Sink.writing l.sink).faults ≡ (g.K.Sink.writing l.fn.sink).faults;
  apart : g.K.Sink.reading_side l.sink ≡ g.K.Sink.reading_side l.fn.sink;
}

abbrev pub decreases-pieces : goal.decreases-pieces
decreases-pieces g l = SCRIPT_LIMIT - l.reader.fed
