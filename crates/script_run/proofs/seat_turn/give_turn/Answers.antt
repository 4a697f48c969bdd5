-- One try behind another, of the same statement.
use Rattle.script_run.proofs.Words.{◌∙◌, false, None, refl, ℕ, subst, true}
use Rattle.board_lock.specs.Seats.{view_of}
use Rattle.script_reader.specs.declared.statement.Statement.{Statement}
use Rattle.worker_gate.specs.Hands.{HasDoneIf}
use Rattle.worker_gate.specs.Turns.{sight_in}
use Rattle.script_run.specs.SeatTurns.{SitsStill, SendsOne}
use Rattle.script_run.proofs.SeatFrontLemmas.{by-number, tried-behind}
use Rattle.script_run.proofs.SeatTurnLemmas.{out-none, out-then, stays-none, stays-then}
use Rattle.script_run.proofs.seat_turn.give_turn.Goals as goal

pub tries-init : goal.tries-init
tries-init g c = record {
  seat = out-none c.args.board.now (HasDoneIf None) c.args.seat.now c.requires;
  stays = stays-none (view_of c.args.seat.now).number (sight_in (view_of c.args.seat.now));
  statement = refl;
}

pub tries-preserved : goal.tries-preserved
tries-preserved g c =
    let old = view_of c.args.seat.now in
    let mid = view_of c.tries.seat in
    let new = view_of c.try_turn.new.seat in
    record {
      seat = out-then c.args.board.now (HasDoneIf None) (HasDoneIf None) c.args.seat.now c.tries.seat c.try_turn.new.seat
          c.tries.invariant.seat c.in-Waits.ensures.seat;
      stays = stays-then old.number (sight_in old) (sight_in mid) (sight_in new) c.tries.invariant.stays
          (by-number (λ (number : ℕ). SitsStill number (sight_in mid) (sight_in new)) c.args.seat.now c.tries.seat
          c.tries.invariant.seat.same c.in-Waits.ensures.tells);
      statement = c.in-Waits.ensures.statement ∙ c.tries.invariant.statement;
    }

pub returns-in-Taken-clause-seat : goal.returns-in-Taken-clause-seat
returns-in-Taken-clause-seat g c =
    out-then c.args.board.now (HasDoneIf None) (HasDoneIf None) c.args.seat.now c.tries.seat c.try_turn.new.seat c.tries.invariant.seat
    c.in-Taken.ensures.seat

pub returns-in-Taken-clause-tells : goal.returns-in-Taken-clause-tells
returns-in-Taken-clause-tells g c =
    let mid = view_of c.tries.seat in
    let new = view_of c.try_turn.new.seat in
    tried-behind true c.args.statement.now c.args.seat.now c.tries.seat c.try_turn.new.seat c.tries.invariant.seat.same
    c.tries.invariant.stays
    (subst (λ (statement : Statement). SendsOne mid.number statement (sight_in mid) (sight_in new)) c.tries.invariant.statement
    c.in-Taken.ensures.tells)

pub returns-in-Lost-clause-seat : goal.returns-in-Lost-clause-seat
returns-in-Lost-clause-seat g c =
    out-then c.args.board.now (HasDoneIf None) (HasDoneIf None) c.args.seat.now c.tries.seat c.try_turn.new.seat c.tries.invariant.seat
    c.in-Lost.ensures.seat

pub returns-in-Lost-clause-tells : goal.returns-in-Lost-clause-tells
returns-in-Lost-clause-tells g c =
    tried-behind false c.args.statement.now c.args.seat.now c.tries.seat c.try_turn.new.seat c.tries.invariant.seat.same
    c.tries.invariant.stays (c.in-Lost.ensures.tells, c.in-Lost.ensures.unmarked refl)
