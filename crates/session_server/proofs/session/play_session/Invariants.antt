use Rattle.std.proofs.Common.{◌≡◌, ◌-◌}
use Rattle.board_lock.specs.Seats.{IsSameSeat, view_of}
use Rattle.script_reader.specs.declared.reader.TheConstants.{SCRIPT_LIMIT}
use Rattle.worker_gate.specs.Turns.{sight_in}
use Rattle.script_run.specs.Answer.{HasNoStatement}
use Rattle.script_run.specs.Home.{IsAtRest}
use Rattle.session_server.proofs.SessionLemmas.{IsServing}
use Rattle.session_server.proofs.session.play_session.Given as goal

-- every statement that was whole was replied to, the seat is at rest and the same, and no read or write failed
abbrev pub invariant-pieces : goal.invariant-pieces
invariant-pieces g l = record {
  serving : IsServing (view_of l.fn.front.seat).number (sight_in (view_of l.fn.front.seat)) (sight_in (view_of l.front.seat)) l.reader
      (g.K.Source.reading l.fn.link).left (g.K.Source.reading l.link).left
      (g.K.Sink.writing l.fn.link).taken (g.K.Sink.writing l.link).taken;
  none : HasNoStatement l.reader;
  rest : IsAtRest l.board l.front.seat;
  same : IsSameSeat l.fn.front.seat l.front.seat;
  ended : (g.K.Source.reading l.link).ended ≡ (g.K.Source.reading l.fn.link).ended;
  unread : (g.K.Source.reading l.link).faults ≡ (g.K.Source.reading l.fn.link).faults;
  unwritten : (g.K.Sink.writing l.link).faults ≡ (g.K.Sink.writing l.fn.link).faults;
}

abbrev pub decreases-pieces : goal.decreases-pieces
decreases-pieces g l = SCRIPT_LIMIT - l.reader.fed
