-- What was written before, and then `memory`.
use Rattle.script_run.proofs.Words.{◌∷◌, [], err_from_is_err_and, refl}
use Rattle.board_lock.specs.Seats.{view_of}
use Rattle.worker_gate.specs.Turns.{sight_in}
use Rattle.script_run.proofs.SeatFrontLemmas.{seat-loses}
use Rattle.script_run.proofs.RunLemmas.{counts-behind}
use Rattle.script_run.proofs.SeatPlaysLemmas.{played-short}
use Rattle.script_run.proofs.seat_front.SeatFront.lose.Goals as goal

pub returns-in_err-write_replies-clause-plays : goal.returns-in_err-write_replies-clause-plays
returns-in_err-write_replies-clause-plays g c statement =
    let failed = err_from_is_err_and c.from_residual.result c.from_residual.ensures.1 in
    rw (failed.1, failed.2) (played-short c.args.board.now _ c.args.self.now.seat c.write_replies.new.self.seat [] (statement ∷ []) _ _
    c.in_err-write_replies.ensures.plays)

pub returns-clause-plays : goal.returns-clause-plays
returns-clause-plays g c statement =
    let old = view_of c.args.self.now.seat in
    let new = view_of c.write_replies.new.self.seat in
    let before = c.in_ok-write_replies.ensures in
    let reply = c.write_reply.ensures in
    record {
      seat = before.plays.seat;
      plays = seat-loses c.write_reply.result c.in_ok-write_replies.field-0 old.number statement (sight_in old) (sight_in new) _ _ _
          before.plays.plays (before.all refl) reply.refused reply.ok reply.err;
      faults = counts-behind c.write_reply.result (g.K.Sink.writing c.args.sink.now) (g.K.Sink.writing c.write_replies.new.sink)
          (g.K.Sink.writing c.write_reply.new.sink) before.plays.faults reply.faults;
    }
