-- A look leaves all but the hand, and without one nothing has changed.
use Rattle.script_run.proofs.Words.{refl, state_of}
use Rattle.core_state.specs.Rows.{sight_of}
use Rattle.core_state.proofs.MoverLemmas.{mindful-none}
use Rattle.worker_gate.proofs.LeftLemmas.{moves-mindful}
use Rattle.script_run.proofs.SeatTurnLemmas.{stays-moved, stays-none, waits-moved}
use Rattle.script_run.proofs.seat_turn.look_if_patient.Goals as goal

pub returns-then-not-patient-clause-asks : goal.returns-then-not-patient-clause-asks
returns-then-not-patient-clause-asks c = record {
  tells = stays-none c.args.seat (sight_of (state_of c.args.core.now) c.args.seat);
  mindful = mindful-none c.args.seat (state_of c.args.core.now);
  others = λ other apart. refl;
  hand = c.requires.empty;
}

pub returns-clause-asks : goal.returns-clause-asks
returns-clause-asks c =
    let old = state_of c.args.core.now in
    let new = state_of c.worker_look.new.core in
    record {
      tells = (
        stays-moved c.args.seat old new c.worker_look.ensures.moves,
        waits-moved c.args.seat old new c.worker_look.ensures.moves c.requires.waits,
      );
      mindful = moves-mindful c.args.seat old new c.worker_look.ensures.moves;
      others = c.worker_look.ensures.others;
      hand = c.worker_look.ensures.hand;
    }
