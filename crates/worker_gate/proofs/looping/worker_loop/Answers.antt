-- One turn behind another.
use Rattle.board_lock.specs.Seats.{view_of}
use Rattle.worker_gate.specs.Turns.{sight_in}
use Rattle.worker_gate.proofs.TurnLemmas.{passes-none, passes-then, same-seat, same-then}
use Rattle.worker_gate.proofs.looping.worker_loop.Goals as goal

pub turns-init : goal.turns-init
turns-init g c = record {
  ready = c.requires;
  same = same-seat c.args.seat.now;
  passes = passes-none (sight_in (view_of c.args.seat.now));
}

pub turns-preserved : goal.turns-preserved
turns-preserved g c = record {
  ready = c.in-Goes.ensures.on;
  same = same-then c.args.seat.now c.turns.seat c.turn_and_work.new.seat c.turns.invariant.same c.turn_and_work.ensures.same;
  passes = passes-then (sight_in (view_of c.args.seat.now)) (sight_in (view_of c.turns.seat)) (sight_in (view_of c.turn_and_work.new.seat))
      c.turns.invariant.passes c.turn_and_work.ensures.passes;
}

pub returns-in-Ends-clause-ready : goal.returns-in-Ends-clause-ready
returns-in-Ends-clause-ready g c = c.in-Ends.ensures.on.0

pub returns-in-Ends-clause-same : goal.returns-in-Ends-clause-same
returns-in-Ends-clause-same g c =
    same-then c.args.seat.now c.turns.seat c.turn_and_work.new.seat c.turns.invariant.same c.turn_and_work.ensures.same

pub returns-in-Ends-clause-passes : goal.returns-in-Ends-clause-passes
returns-in-Ends-clause-passes g c =
    passes-then (sight_in (view_of c.args.seat.now)) (sight_in (view_of c.turns.seat)) (sight_in (view_of c.turn_and_work.new.seat))
    c.turns.invariant.passes c.turn_and_work.ensures.passes

pub returns-in-Ends-clause-end : goal.returns-in-Ends-clause-end
returns-in-Ends-clause-end g c = c.in-Ends.ensures.on.1
