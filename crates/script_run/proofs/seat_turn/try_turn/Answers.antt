-- What the seat finds is what it knew, and what it leaves has the statement, or nothing but the marks has changed.
use Rattle.script_run.proofs.Words.{state_of, subst, sym}
use Rattle.board_lock.specs.Seats.{view_of}
use Rattle.core_state.specs.Rows.{sight_of}
use Rattle.core_state.specs.State.{State}
use Rattle.worker_gate.proofs.TurnLemmas.{seated-found, view-left}
use Rattle.script_run.specs.SeatTurns.{LeftUnmarked, TellsGiven}
use Rattle.script_run.proofs.SeatTurnLemmas.{given-behind, keeps-marked, turn-keeps-hand, turn-stays-ready, turn-tells}
use Rattle.script_run.proofs.seat_turn.try_turn.Goals as goal

pub submit-given-requires : goal.submit-given-requires
submit-given-requires g c =
    seated-found (view_of c.args.seat.now) c.enter-core.result c.number-own.result c.requires.seated c.enter-core.ensures.finds
    c.number-own.ensures

pub leave-requires-clause-keeps : goal.leave-requires-clause-keeps
leave-requires-clause-keeps g c =
    turn-keeps-hand c.own_steps_keep_a_board.ensures (view_of c.args.seat.now) (view_of c.enter-core.new.seat) c.enter-core.result
    c.mark.new.core c.number-own.result c.enter-core.ensures.inside.1 c.number-own.ensures
    (keeps-marked c.number-own.result c.enter-core.result c.submit-given.new.core c.mark.new.core c.submit-given.ensures.keeps
    c.mark.ensures.state c.mark.ensures.loans)

pub returns-clause-seat : goal.returns-clause-seat
returns-clause-seat g c =
    turn-stays-ready c.args.board.now c.args.seat.now c.enter-core.new.seat c.leave.new.seat c.enter-core.result c.mark.new.core
    c.number-own.result c.requires c.enter-core.ensures.inside.1 c.leave.ensures.outside.1 c.enter-core.ensures.same c.leave.ensures.same
    c.leave.ensures.outside.0 c.enter-core.ensures.finds
    (keeps-marked c.number-own.result c.enter-core.result c.submit-given.new.core c.mark.new.core c.submit-given.ensures.keeps
    c.mark.ensures.state c.mark.ensures.loans) c.number-own.ensures

pub returns-clause-tells : goal.returns-clause-tells
returns-clause-tells g c =
    turn-tells (λ seat old new. TellsGiven c.submit-given.result seat c.args.statement.now old new)
    (given-behind c.submit-given.result c.args.statement.now) c.args.seat.now c.leave.new.seat c.enter-core.result c.mark.new.core
    c.number-own.result
    (view-left (view_of c.args.seat.now) (view_of c.enter-core.new.seat) (view_of c.leave.new.seat) c.enter-core.result
    c.mark.new.core c.enter-core.ensures.inside.1 c.leave.ensures.outside.1)
    c.enter-core.ensures.finds c.number-own.ensures
    (subst (λ (state : State). TellsGiven c.submit-given.result c.number-own.result c.args.statement.now
    (sight_of (state_of c.enter-core.result) c.number-own.result) (sight_of state c.number-own.result))
    (sym c.mark.ensures.state) c.submit-given.ensures.tells)

pub returns-clause-unmarked : goal.returns-clause-unmarked
returns-clause-unmarked g c = λ lost.
    subst LeftUnmarked
    (sym (view-left (view_of c.args.seat.now) (view_of c.enter-core.new.seat) (view_of c.leave.new.seat) c.enter-core.result
    c.mark.new.core c.enter-core.ensures.inside.1 c.leave.ensures.outside.1)) (c.mark.ensures.lost lost)
