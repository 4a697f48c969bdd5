-- All statements that are whole were given, and behind them the replies were written or halted.
use Rattle.script_run.proofs.Words.{◌∙◌, [], err_from_is_err_and, refl, subst, sym, ℕ}
use Rattle.board_lock.specs.Seats.{view_of}
use Rattle.core_state.specs.Fronts.{IsDue}
use Rattle.worker_gate.specs.Turns.{sight_in}
use Rattle.worker_gate.proofs.TurnLemmas.{same-then}
use Rattle.script_run.proofs.SeatFrontLemmas.{same-number}
use Rattle.script_run.proofs.SeatRestLemmas.{replied-due, replies-halted, replies-stopped, replies-whole, stopped-at}
use Rattle.script_run.proofs.seat_front.SeatFront.reply_whole.Goals as goal

pub returns-in_err-play_whole-clause-replies : goal.returns-in_err-play_whole-clause-replies
returns-in_err-play_whole-clause-replies g c =
    let old = view_of c.args.self.now.seat in
    let failed = err_from_is_err_and c.from_residual.result c.from_residual.ensures.1 in
    rw (failed.1, failed.2) (stopped-at c.args.board.now _ c.args.self.now.seat c.play_whole.new.self.seat c.args.reader.now c.play_whole.new.reader
    (g.K.Sink.writing c.args.sink.now) (g.K.Sink.writing c.args.sink.now) (g.K.Sink.writing c.play_whole.new.sink)
    c.play_whole.ensures.plays.seat.out c.play_whole.ensures.plays.seat.same
    (replies-halted _ old.number (sight_in old) (sight_in (view_of c.play_whole.new.self.seat)) c.args.reader.now
    c.play_whole.new.reader _ _ c.requires.due c.in_err-play_whole.ensures.plays.plays) refl c.in_err-play_whole.ensures.plays.faults)

pub returns-in_err-write_replies-clause-replies : goal.returns-in_err-write_replies-clause-replies
returns-in_err-write_replies-clause-replies g c =
    let old = view_of c.args.self.now.seat in
    let mid = view_of c.play_whole.new.self.seat in
    let failed = err_from_is_err_and c.from_residual-in_err-write_replies.result c.from_residual-in_err-write_replies.ensures.1 in
    rw (failed.1, failed.2) (stopped-at c.args.board.now _ c.args.self.now.seat c.write_replies.new.self.seat c.args.reader.now
    c.play_whole.new.reader (g.K.Sink.writing c.args.sink.now) (g.K.Sink.writing c.play_whole.new.sink)
    (g.K.Sink.writing c.write_replies.new.sink) c.write_replies.ensures.plays.seat.out
    (same-then c.args.self.now.seat c.play_whole.new.self.seat c.write_replies.new.self.seat c.play_whole.ensures.plays.seat.same
    c.write_replies.ensures.plays.seat.same)
    (replies-stopped _ _ old.number mid.number (sight_in old) (sight_in mid)
    (sight_in (view_of c.write_replies.new.self.seat)) c.args.reader.now c.play_whole.new.reader _ _ _
    (same-number c.args.self.now.seat c.play_whole.new.self.seat c.play_whole.ensures.plays.seat.same) c.requires.due
    c.in_ok-play_whole.ensures.plays.plays c.in_err-write_replies.ensures.plays.plays)
    c.in_ok-play_whole.ensures.plays.faults c.in_err-write_replies.ensures.plays.faults)

pub returns-clause-replies : goal.returns-clause-replies
returns-clause-replies g c =
    let old = view_of c.args.self.now.seat in
    let mid = view_of c.play_whole.new.self.seat in
    let new = view_of c.write_replies.new.self.seat in
    let same = same-then c.args.self.now.seat c.play_whole.new.self.seat c.write_replies.new.self.seat c.play_whole.ensures.plays.seat.same
    c.write_replies.ensures.plays.seat.same in
    let replies = replies-whole _ _ old.number mid.number (sight_in old) (sight_in mid) (sight_in new)
    c.args.reader.now c.play_whole.new.reader _ _ _
    (same-number c.args.self.now.seat c.play_whole.new.self.seat c.play_whole.ensures.plays.seat.same) c.requires.due
    c.in_ok-play_whole.ensures.plays.plays c.in_ok-write_replies.ensures.plays.plays (c.in_ok-write_replies.ensures.all refl) in
    record {
      ready = c.write_replies.ensures.plays.seat.out;
      same = same;
      replies = replies;
      rest = record {
        ready = c.write_replies.ensures.plays.seat.out;
        due = subst (λ (number : ℕ). IsDue number (sight_in new) [])
            (sym (same-number c.args.self.now.seat c.write_replies.new.self.seat same))
            (replied-due old.number (sight_in old) (sight_in new) c.args.reader.now c.play_whole.new.reader _ _ replies);
      };
      faults = c.in_ok-write_replies.ensures.plays.faults ∙ c.in_ok-play_whole.ensures.plays.faults;
    }
