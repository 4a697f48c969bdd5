-- The reply that was taken is that to the first statement; where none may be taken nothing has changed so far.
use Rattle.script_run.proofs.Words.{◌<◌, ◌∙◌, ap, next_ready, refl, state_of, subst, sym}
use Rattle.event_core.specs.Board.{core_row}
use Rattle.event_core.specs.CoreParts.{CoreParts}
use Rattle.worker_gate.specs.Hands.{HasNothing}
use Rattle.script_run.specs.SeatTurns.{AsksCore}
use Rattle.script_run.proofs.SeatTurnLemmas.{hand-taken, loans-but, mindful-taken, nothing-stays, takes-next}
use Rattle.script_run.proofs.seat_turn.ask.Goals as goal

pub wait_or_look-requires : goal.wait_or_look-requires
wait_or_look-requires c = record {
  seat = subst (λ (parts : CoreParts). c.args.seat < (state_of parts).settings.seats) (sym (c.in-None.ensures.none refl)) c.requires.seat;
  empty = subst (λ (parts : CoreParts). HasNothing (core_row parts c.args.seat)) (sym (c.in-None.ensures.none refl)) c.requires.empty;
  none = ap (λ (parts : CoreParts). next_ready (state_of parts) c.args.seat) (c.in-None.ensures.none refl) ∙ sym c.in-None.ensures.ready;
}

pub returns-in-Some-clause-asks : goal.returns-in-Some-clause-asks
returns-in-Some-clause-asks c =
    let old = state_of c.args.core.now in
    let new = state_of c.take_reply.new.self in
    let loans = c.what_is_beside_stays_lent.ensures c.args.core.now c.take_reply.new.self c.in-Some.ensures.beside in
    record {
      tells = takes-next c.a_row_tells_the_reply.ensures c.args.seat old new c.in-Some.ready c.every_core_is_sound.ensures
          c.in-Some.ensures.ready (c.in-Some.ensures.taken refl) c.in-Some.ensures.right;
      mindful = mindful-taken c.args.seat old new (c.in-Some.ensures.taken refl);
      others = loans-but c.args.seat c.args.core.now c.take_reply.new.self loans;
      hand = nothing-stays c.args.seat c.args.core.now c.take_reply.new.self c.requires.empty
          (hand-taken c.args.seat old new (c.in-Some.ensures.taken refl)) (loans c.args.seat);
    }

pub returns-in-None-clause-asks : goal.returns-in-None-clause-asks
returns-in-None-clause-asks c =
    subst (λ (parts : CoreParts). AsksCore c.wait_or_look.result c.args.seat parts c.wait_or_look.new.core) (c.in-None.ensures.none refl)
    c.wait_or_look.ensures.asks
