-- A seat that waits for no open query waits for nothing; one that waits for one waits for something.
use Rattle.script_run.proofs.Words.{refl, seat_at, state_of, sym}
use Rattle.core_state.proofs.MoverLemmas.{mindful-none}
use Rattle.script_run.proofs.SeatTurnLemmas.{asks-nothing, open-waits}
use Rattle.script_run.proofs.seat_turn.wait_or_look.Goals as goal

pub look_if_patient-requires : goal.look_if_patient-requires
look_if_patient-requires c = record {
  seat = c.requires.seat;
  empty = c.requires.empty;
  waits = open-waits (state_of c.args.core.now).lives (seat_at (state_of c.args.core.now) c.args.seat) _ c.in-Some.ensures;
}

pub returns-in-None-clause-asks : goal.returns-in-None-clause-asks
returns-in-None-clause-asks c = record {
  tells = asks-nothing c.a_reply_that_may_be_taken_is_right.ensures.waits c.args.seat (state_of c.args.core.now)
      c.every_core_is_sound.ensures (sym c.in-None.ensures) c.requires.none;
  mindful = mindful-none c.args.seat (state_of c.args.core.now);
  others = λ other apart. refl;
  hand = c.requires.empty;
}
