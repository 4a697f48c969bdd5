-- Every read and write was as the run tells it, whatever other seats did meanwhile.
use Rattle.script_run.proofs.Words.{◌∙◌, Err, None, Ok, refl}
use Rattle.board_lock.specs.Seats.{view_of}
use Rattle.worker_gate.specs.Hands.{HasDoneIf}
use Rattle.worker_gate.specs.Turns.{sight_in}
use Rattle.script_run.proofs.SeatDoneLemmas.{ended-sent, fault-sent, limit-sent}
use Rattle.script_run.proofs.SeatEndLemmas.{halted-sent, last-sent, unfed-sent}
use Rattle.script_run.proofs.SeatFrontLemmas.{same-number}
use Rattle.script_run.proofs.SeatRunLemmas.{fed-by, none-by, rest-zero, starts-by, waits-by, waits-rest, waits-whole, whole-by, whole-zero}
use Rattle.script_run.proofs.SeatTurnLemmas.{out-none, out-then}
use Rattle.script_run.proofs.seat_front.SeatFront.play_script.Goals as goal

pub pieces-init : goal.pieces-init
pieces-init g c = record {
  seat = out-none c.args.board.now (HasDoneIf None) c.args.self.now.seat c.requires.ready;
  number = c.requires.first;
  run = starts-by _ _ _ _ c.requires.sight c.new-reader.ensures;
  ended = refl;
  unread = refl;
  unwritten = refl;
  apart = refl;
}

pub returns-in-Err-clause-seat : goal.returns-in-Err-clause-seat
returns-in-Err-clause-seat g c =
    out-then c.args.board.now (HasDoneIf None) (HasDoneIf None) c.args.self.now.seat c.pieces.self.seat c.play_whole.new.self.seat
    c.pieces.invariant.seat c.play_whole.ensures.plays.seat

pub returns-in-Err-clause-answers : goal.returns-in-Err-clause-answers
returns-in-Err-clause-answers g c =
    let plays = whole-zero (Err c.in-Err.halt) _ _ _ _ _ _ _ c.pieces.invariant.number c.in-Err.ensures.plays.plays in
    rw c.end_of_halt.ensures (halted-sent (sight_in (view_of c.play_whole.new.self.seat)) _ _ _ _ c.in-Err.halt _ _
    c.play_whole.new.reader _ _ c.pieces.invariant.run plays c.pieces.invariant.ended c.pieces.invariant.unread)

pub returns-in-Err-clause-due : goal.returns-in-Err-clause-due
returns-in-Err-clause-due g c =
    let plays = whole-zero (Err c.in-Err.halt) _ _ _ _ _ _ _ c.pieces.invariant.number c.in-Err.ensures.plays.plays in
    waits-whole (Err c.in-Err.halt) _ _ _ c.play_whole.new.reader _ _ (waits-by _ _ _ _ _ _ _ c.pieces.invariant.run) plays

pub pieces-preserved : goal.pieces-preserved
pieces-preserved g c =
    let plays = whole-zero (Ok c.in-Ok.some) _ _ _ _ _ _ _ c.pieces.invariant.number c.in-Ok.ensures.plays.plays in
    let run = whole-by _ _ _ _ _ _ _ _ _ _ _ c.pieces.invariant.run plays c.in-Ok.ensures.plays.stays in
    let takes = c.in-Fed.ensures.takes in
    record {
      seat = out-then c.args.board.now (HasDoneIf None) (HasDoneIf None) c.args.self.now.seat c.pieces.self.seat c.play_whole.new.self.seat
          c.pieces.invariant.seat c.play_whole.ensures.plays.seat;
      number = same-number c.pieces.self.seat c.play_whole.new.self.seat c.play_whole.ensures.plays.seat.same ∙ c.pieces.invariant.number;
      run = fed-by _ _ _ _ _ _ _ _ _ takes.0 run takes.1 takes.2.0 takes.2.2;
      ended = c.in-Fed.ensures.end ∙ c.pieces.invariant.ended;
      unread = c.in-Fed.ensures.faults ∙ c.pieces.invariant.unread;
      unwritten = c.in-Ok.ensures.plays.faults ∙ c.pieces.invariant.unwritten;
      apart = c.play_whole.ensures.apart ∙ c.pieces.invariant.apart;
    }

pub returns-in-Fault-clause-seat : goal.returns-in-Fault-clause-seat
returns-in-Fault-clause-seat g c =
    out-then c.args.board.now (HasDoneIf None) (HasDoneIf None) c.args.self.now.seat c.play_whole.new.self.seat c.write_replies-written.new.self.seat
    (out-then c.args.board.now (HasDoneIf None) (HasDoneIf None) c.args.self.now.seat c.pieces.self.seat c.play_whole.new.self.seat
    c.pieces.invariant.seat c.play_whole.ensures.plays.seat)
    c.write_replies-written.ensures.plays.seat

pub returns-in-Fault-clause-answers : goal.returns-in-Fault-clause-answers
returns-in-Fault-clause-answers g c =
    let zero = same-number c.pieces.self.seat c.play_whole.new.self.seat c.play_whole.ensures.plays.seat.same ∙ c.pieces.invariant.number in
    let plays = whole-zero (Ok c.in-Ok.some) _ _ _ _ _ _ _ c.pieces.invariant.number c.in-Ok.ensures.plays.plays in
    let rest = rest-zero c.write_replies-written.result _ _ _ _ _ zero c.write_replies-written.ensures.plays.plays in
    let run = whole-by _ _ _ _ _ _ _ _ _ _ _ c.pieces.invariant.run plays c.in-Ok.ensures.plays.stays in
    let none = none-by _ _ _ _ _ _ _ _ _ _ _ c.pieces.invariant.run plays in
    let takes = c.in-Fault.ensures.takes in
    rw c.end_behind.ensures (fault-sent _ (sight_in (view_of c.write_replies-written.new.self.seat)) _
    c.write_replies-written.result _ _ _ _ _ _ _ takes.0 run none takes.1 takes.2.1 rest (c.write_replies-written.ensures.all refl))

pub returns-in-Fault-clause-due : goal.returns-in-Fault-clause-due
returns-in-Fault-clause-due g c =
    let zero = same-number c.pieces.self.seat c.play_whole.new.self.seat c.play_whole.ensures.plays.seat.same ∙ c.pieces.invariant.number in
    let plays = whole-zero (Ok c.in-Ok.some) _ _ _ _ _ _ _ c.pieces.invariant.number c.in-Ok.ensures.plays.plays in
    let rest = rest-zero c.write_replies-written.result _ _ _ _ _ zero c.write_replies-written.ensures.plays.plays in
    waits-rest c.write_replies-written.result _ _ _ _
    (waits-by _ _ _ _ _ _ _ (whole-by _ _ _ _ _ _ _ _ _ _ _ c.pieces.invariant.run plays c.in-Ok.ensures.plays.stays)) rest

pub returns-in-Limit-clause-seat : goal.returns-in-Limit-clause-seat
returns-in-Limit-clause-seat g c =
    out-then c.args.board.now (HasDoneIf None) (HasDoneIf None) c.args.self.now.seat c.play_whole.new.self.seat c.write_replies-written-in-Limit.new.self.seat
    (out-then c.args.board.now (HasDoneIf None) (HasDoneIf None) c.args.self.now.seat c.pieces.self.seat c.play_whole.new.self.seat
    c.pieces.invariant.seat c.play_whole.ensures.plays.seat)
    c.write_replies-written-in-Limit.ensures.plays.seat

pub returns-in-Limit-clause-answers : goal.returns-in-Limit-clause-answers
returns-in-Limit-clause-answers g c =
    let zero = same-number c.pieces.self.seat c.play_whole.new.self.seat c.play_whole.ensures.plays.seat.same ∙ c.pieces.invariant.number in
    let plays = whole-zero (Ok c.in-Ok.some) _ _ _ _ _ _ _ c.pieces.invariant.number c.in-Ok.ensures.plays.plays in
    let rest = rest-zero c.write_replies-written-in-Limit.result _ _ _ _ _ zero c.write_replies-written-in-Limit.ensures.plays.plays in
    let run = whole-by _ _ _ _ _ _ _ _ _ _ _ c.pieces.invariant.run plays c.in-Ok.ensures.plays.stays in
    let none = none-by _ _ _ _ _ _ _ _ _ _ _ c.pieces.invariant.run plays in
    let takes = c.in-Limit.ensures.takes in
    rw c.end_behind-in-Limit.ensures (limit-sent _ (sight_in (view_of c.write_replies-written-in-Limit.new.self.seat)) _
    c.write_replies-written-in-Limit.result _ _ _ _ _ _ _ takes.0 run none takes.1 takes.2.1 takes.2.2 rest
    (c.write_replies-written-in-Limit.ensures.all refl))

pub returns-in-Limit-clause-due : goal.returns-in-Limit-clause-due
returns-in-Limit-clause-due g c =
    let zero = same-number c.pieces.self.seat c.play_whole.new.self.seat c.play_whole.ensures.plays.seat.same ∙ c.pieces.invariant.number in
    let plays = whole-zero (Ok c.in-Ok.some) _ _ _ _ _ _ _ c.pieces.invariant.number c.in-Ok.ensures.plays.plays in
    let rest = rest-zero c.write_replies-written-in-Limit.result _ _ _ _ _ zero c.write_replies-written-in-Limit.ensures.plays.plays in
    waits-rest c.write_replies-written-in-Limit.result _ _ _ _
    (waits-by _ _ _ _ _ _ _ (whole-by _ _ _ _ _ _ _ _ _ _ _ c.pieces.invariant.run plays c.in-Ok.ensures.plays.stays)) rest

pub returns-in-NoMemory-clause-seat : goal.returns-in-NoMemory-clause-seat
returns-in-NoMemory-clause-seat g c =
    out-then c.args.board.now (HasDoneIf None) (HasDoneIf None) c.args.self.now.seat c.pieces.self.seat c.play_whole.new.self.seat
    c.pieces.invariant.seat c.play_whole.ensures.plays.seat

pub returns-in-NoMemory-clause-answers : goal.returns-in-NoMemory-clause-answers
returns-in-NoMemory-clause-answers g c =
    let plays = whole-zero (Ok c.in-Ok.some) _ _ _ _ _ _ _ c.pieces.invariant.number c.in-Ok.ensures.plays.plays in
    let run = whole-by _ _ _ _ _ _ _ _ _ _ _ c.pieces.invariant.run plays c.in-Ok.ensures.plays.stays in
    let takes = c.in-NoMemory.ensures.takes in
    unfed-sent (sight_in (view_of c.play_whole.new.self.seat)) _ _ _ _ _ _ _ takes.0 run takes.1 takes.2.1
    (c.in-NoMemory.ensures.end ∙ c.pieces.invariant.ended) (c.in-NoMemory.ensures.faults ∙ c.pieces.invariant.unread)

pub returns-in-NoMemory-clause-due : goal.returns-in-NoMemory-clause-due
returns-in-NoMemory-clause-due g c =
    let plays = whole-zero (Ok c.in-Ok.some) _ _ _ _ _ _ _ c.pieces.invariant.number c.in-Ok.ensures.plays.plays in
    waits-by _ _ _ _ _ _ _ (whole-by _ _ _ _ _ _ _ _ _ _ _ c.pieces.invariant.run plays c.in-Ok.ensures.plays.stays)

pub returns-in-Ok-play_whole-clause-seat : goal.returns-in-Ok-play_whole-clause-seat
returns-in-Ok-play_whole-clause-seat g c =
    out-then c.args.board.now (HasDoneIf None) (HasDoneIf None) c.args.self.now.seat c.play_whole-2.new.self.seat c.write_replies-written-in-Ok-play_whole.new.self.seat
    (out-then c.args.board.now (HasDoneIf None) (HasDoneIf None) c.args.self.now.seat c.play_whole.new.self.seat c.play_whole-2.new.self.seat
    (out-then c.args.board.now (HasDoneIf None) (HasDoneIf None) c.args.self.now.seat c.pieces.self.seat c.play_whole.new.self.seat
    c.pieces.invariant.seat c.play_whole.ensures.plays.seat)
    c.play_whole-2.ensures.plays.seat)
    c.write_replies-written-in-Ok-play_whole.ensures.plays.seat

pub returns-in-Ok-play_whole-clause-answers : goal.returns-in-Ok-play_whole-clause-answers
returns-in-Ok-play_whole-clause-answers g c =
    let zero = same-number c.pieces.self.seat c.play_whole.new.self.seat c.play_whole.ensures.plays.seat.same ∙ c.pieces.invariant.number in
    let zero' = same-number c.play_whole.new.self.seat c.play_whole-2.new.self.seat c.play_whole-2.ensures.plays.seat.same ∙ zero in
    let plays = whole-zero (Ok c.in-Ok.some) _ _ _ _ _ _ _ c.pieces.invariant.number c.in-Ok.ensures.plays.plays in
    let run = whole-by _ _ _ _ _ _ _ _ _ _ _ c.pieces.invariant.run plays c.in-Ok.ensures.plays.stays in
    let takes = c.in-Ended.ensures.takes in
    let last = whole-zero (Ok c.in-Ok-play_whole.some) _ _ _ _ _ _ _ zero
    (rw (c.finish.ensures, takes.2.0) at c.in-Ok-play_whole.ensures.plays.plays) in
    let stays = rw (c.finish.ensures, takes.2.0) at c.in-Ok-play_whole.ensures.plays.stays in
    let rest = rest-zero c.write_replies-written-in-Ok-play_whole.result _ _ _ _ _ zero'
    c.write_replies-written-in-Ok-play_whole.ensures.plays.plays in
    rw c.end_of_rest.ensures (ended-sent _ (sight_in (view_of c.play_whole-2.new.self.seat))
    (sight_in (view_of c.write_replies-written-in-Ok-play_whole.new.self.seat)) _ _ c.write_replies-written-in-Ok-play_whole.result
    _ _ _ _ _ _ _ _ _ takes.0 run takes.1 takes.2.1 c.in-Ended.ensures.end last stays rest
    (c.write_replies-written-in-Ok-play_whole.ensures.all refl))

pub returns-in-Ok-play_whole-clause-due : goal.returns-in-Ok-play_whole-clause-due
returns-in-Ok-play_whole-clause-due g c =
    let zero = same-number c.pieces.self.seat c.play_whole.new.self.seat c.play_whole.ensures.plays.seat.same ∙ c.pieces.invariant.number in
    let zero' = same-number c.play_whole.new.self.seat c.play_whole-2.new.self.seat c.play_whole-2.ensures.plays.seat.same ∙ zero in
    let plays = whole-zero (Ok c.in-Ok.some) _ _ _ _ _ _ _ c.pieces.invariant.number c.in-Ok.ensures.plays.plays in
    let run = whole-by _ _ _ _ _ _ _ _ _ _ _ c.pieces.invariant.run plays c.in-Ok.ensures.plays.stays in
    let last = whole-zero (Ok c.in-Ok-play_whole.some) _ _ _ _ _ _ _ zero c.in-Ok-play_whole.ensures.plays.plays in
    let rest = rest-zero c.write_replies-written-in-Ok-play_whole.result _ _ _ _ _ zero'
    c.write_replies-written-in-Ok-play_whole.ensures.plays.plays in
    waits-rest c.write_replies-written-in-Ok-play_whole.result _ _ _ _
    (waits-whole (Ok c.in-Ok-play_whole.some) _ _ _ _ _ _ (waits-by _ _ _ _ _ _ _ run) last) rest

pub returns-clause-seat : goal.returns-clause-seat
returns-clause-seat g c =
    out-then c.args.board.now (HasDoneIf None) (HasDoneIf None) c.args.self.now.seat c.play_whole.new.self.seat c.play_whole-2.new.self.seat
    (out-then c.args.board.now (HasDoneIf None) (HasDoneIf None) c.args.self.now.seat c.pieces.self.seat c.play_whole.new.self.seat
    c.pieces.invariant.seat c.play_whole.ensures.plays.seat)
    c.play_whole-2.ensures.plays.seat

pub returns-clause-answers : goal.returns-clause-answers
returns-clause-answers g c =
    let zero = same-number c.pieces.self.seat c.play_whole.new.self.seat c.play_whole.ensures.plays.seat.same ∙ c.pieces.invariant.number in
    let plays = whole-zero (Ok c.in-Ok.some) _ _ _ _ _ _ _ c.pieces.invariant.number c.in-Ok.ensures.plays.plays in
    let run = whole-by _ _ _ _ _ _ _ _ _ _ _ c.pieces.invariant.run plays c.in-Ok.ensures.plays.stays in
    let takes = c.in-Ended.ensures.takes in
    let last = whole-zero (Err c.in-Err-play_whole.halt) _ _ _ _ _ _ _ zero
    (rw (c.finish.ensures, takes.2.0) at c.in-Err-play_whole.ensures.plays.plays) in
    rw c.end_of_halt-in-Err-play_whole.ensures (last-sent (sight_in (view_of c.play_whole-2.new.self.seat)) _ _ _ _ c.in-Err-play_whole.halt
    _ _ c.play_whole-2.new.reader _ _ _ takes.0 run takes.1 takes.2.1 c.in-Ended.ensures.end last)

pub returns-clause-due : goal.returns-clause-due
returns-clause-due g c =
    let zero = same-number c.pieces.self.seat c.play_whole.new.self.seat c.play_whole.ensures.plays.seat.same ∙ c.pieces.invariant.number in
    let plays = whole-zero (Ok c.in-Ok.some) _ _ _ _ _ _ _ c.pieces.invariant.number c.in-Ok.ensures.plays.plays in
    let run = whole-by _ _ _ _ _ _ _ _ _ _ _ c.pieces.invariant.run plays c.in-Ok.ensures.plays.stays in
    let last = whole-zero (Err c.in-Err-play_whole.halt) _ _ _ _ _ _ _ zero c.in-Err-play_whole.ensures.plays.plays in
    waits-whole (Err c.in-Err-play_whole.halt) _ _ _ _ _ _ (waits-by _ _ _ _ _ _ _ run) last
