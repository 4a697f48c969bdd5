-- One turn behind another.
use Rattle.script_run.proofs.Words.{ap, None, ℕ}
use Rattle.board_lock.specs.Seats.{view_of}
use Rattle.worker_gate.specs.Hands.{HasDoneIf}
use Rattle.worker_gate.specs.Turns.{sight_in}
use Rattle.script_run.specs.SeatFront.{TellsWaited}
use Rattle.script_run.specs.SeatTurns.{SitsStill}
use Rattle.script_run.specs.declared.seat_front.AfterAsking.TheVariants.{Ends}
use Rattle.script_run.proofs.SeatFrontLemmas.{by-number, waited-behind}
use Rattle.script_run.proofs.SeatTurnLemmas.{out-none, out-then, stays-none, stays-then}
use Rattle.script_run.proofs.seat_front.SeatFront.next_reply.Goals as goal

pub turns-init : goal.turns-init
turns-init g c = record {
  seat = out-none c.args.board.now (HasDoneIf None) c.args.self.now.seat c.requires;
  stays = stays-none (view_of c.args.self.now.seat).number (sight_in (view_of c.args.self.now.seat));
}

pub turns-preserved : goal.turns-preserved
turns-preserved g c =
    let old = view_of c.args.self.now.seat in
    let mid = view_of c.turns.self.seat in
    let new = view_of c.ask_and_work.new.seat in
    record {
      seat = out-then c.args.board.now (HasDoneIf c.turns.done) (HasDoneIf c.in-Goes.next) c.args.self.now.seat c.turns.self.seat
          c.ask_and_work.new.seat c.turns.invariant.seat c.in-Goes.ensures.seat;
      stays = stays-then old.number (sight_in old) (sight_in mid) (sight_in new) c.turns.invariant.stays
          (by-number (λ (number : ℕ). SitsStill number (sight_in mid) (sight_in new)) c.args.self.now.seat c.turns.self.seat
          c.turns.invariant.seat.same c.in-Goes.ensures.tells);
    }

pub returns-in-Ends-clause-seat : goal.returns-in-Ends-clause-seat
returns-in-Ends-clause-seat g c =
    out-then c.args.board.now (HasDoneIf c.turns.done) (HasDoneIf None) c.args.self.now.seat c.turns.self.seat c.ask_and_work.new.seat
    c.turns.invariant.seat c.in-Ends.ensures.seat

pub returns-in-Ends-clause-tells : goal.returns-in-Ends-clause-tells
returns-in-Ends-clause-tells g c =
    let old = view_of c.args.self.now.seat in
    let mid = view_of c.turns.self.seat in
    let new = view_of c.ask_and_work.new.seat in
    waited-behind c.in-Ends.waited old.number (sight_in old) (sight_in mid) (sight_in new) c.turns.invariant.stays
    (by-number (λ (number : ℕ). TellsWaited c.in-Ends.waited number (sight_in mid) (sight_in new)) c.args.self.now.seat c.turns.self.seat
    c.turns.invariant.seat.same c.in-Ends.ensures.tells)

pub returns-in-Ends-clause-patient : goal.returns-in-Ends-clause-patient
returns-in-Ends-clause-patient g c is same = c.in-Ends.ensures.patient is (ap Ends same)
