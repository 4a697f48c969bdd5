-- What the seat finds is what it knew, and what it did to the core it did behind what it knew.
use Rattle.board_lock.specs.Seats.{view_of}
use Rattle.worker_gate.specs.Hands.{HasDoneIf}
use Rattle.worker_gate.proofs.TurnLemmas.{hand-found, seated-found, view-left}
use Rattle.script_run.specs.SeatTurns.{HasAsked, TellsAsked}
use Rattle.script_run.proofs.SeatTurnLemmas.{asked-behind, turn-keeps, turn-stays, turn-tells}
use Rattle.script_run.proofs.seat_turn.ask_turn.Goals as goal

pub give_and_ask-asked-requires : goal.give_and_ask-asked-requires
give_and_ask-asked-requires g c = record {
  seat = seated-found (view_of c.args.seat.now) c.enter-core.result c.number-own.result c.requires.seated c.enter-core.ensures.finds
      c.number-own.ensures;
  hand = hand-found (HasDoneIf c.args.done) (view_of c.args.seat.now) c.enter-core.result c.number-own.result c.requires.hand
      c.enter-core.ensures.finds c.number-own.ensures;
}

pub leave-requires-clause-keeps : goal.leave-requires-clause-keeps
leave-requires-clause-keeps g c =
    turn-keeps c.own_steps_keep_a_board.ensures (view_of c.args.seat.now) (view_of c.enter-core.new.seat) c.enter-core.result
    c.give_and_ask-asked.new.core c.number-own.result c.enter-core.ensures.inside.1 c.number-own.ensures
    c.give_and_ask-asked.ensures.asks.mindful c.give_and_ask-asked.ensures.asks.others

pub returns-clause-seat : goal.returns-clause-seat
returns-clause-seat g c =
    turn-stays c.args.board.now (HasDoneIf c.args.done) (HasAsked c.give_and_ask-asked.result) c.args.seat.now c.enter-core.new.seat
    c.leave.new.seat c.enter-core.result c.give_and_ask-asked.new.core c.number-own.result c.requires c.enter-core.ensures.inside.1
    c.leave.ensures.outside.1 c.enter-core.ensures.same c.leave.ensures.same c.leave.ensures.outside.0 c.enter-core.ensures.finds
    c.give_and_ask-asked.ensures.asks.mindful c.number-own.ensures c.give_and_ask-asked.ensures.asks.hand

pub returns-clause-asks : goal.returns-clause-asks
returns-clause-asks g c =
    turn-tells (TellsAsked c.give_and_ask-asked.result) (asked-behind c.give_and_ask-asked.result) c.args.seat.now c.leave.new.seat
    c.enter-core.result c.give_and_ask-asked.new.core c.number-own.result
    (view-left (view_of c.args.seat.now) (view_of c.enter-core.new.seat) (view_of c.leave.new.seat) c.enter-core.result
    c.give_and_ask-asked.new.core c.enter-core.ensures.inside.1 c.leave.ensures.outside.1)
    c.enter-core.ensures.finds c.number-own.ensures c.give_and_ask-asked.ensures.asks.tells
