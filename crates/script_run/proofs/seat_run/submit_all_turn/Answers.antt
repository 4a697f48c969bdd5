-- What the seat finds is what it knew, and what it leaves has the statements that were taken.
use Rattle.script_run.proofs.Words.{state_of, subst, sym, take}
use Rattle.board_lock.specs.Seats.{view_of}
use Rattle.core_state.specs.Rows.{sight_of}
use Rattle.core_state.specs.State.{State}
use Rattle.worker_gate.proofs.TurnLemmas.{seated-found, view-left}
use Rattle.script_run.specs.SeatTurns.{SendsAll}
use Rattle.script_run.proofs.SeatManyLemmas.{many-behind}
use Rattle.script_run.proofs.SeatTurnLemmas.{keeps-marked, turn-keeps-hand, turn-stays-ready, turn-tells}
use Rattle.script_run.proofs.seat_run.submit_all_turn.Goals as goal

pub submit_all-given-requires : goal.submit_all-given-requires
submit_all-given-requires g c =
    seated-found (view_of c.args.seat.now) c.enter-core.result c.number-own.result c.requires.seated c.enter-core.ensures.finds
    c.number-own.ensures

pub leave-requires-clause-keeps : goal.leave-requires-clause-keeps
leave-requires-clause-keeps g c =
    turn-keeps-hand c.own_steps_keep_a_board.ensures (view_of c.args.seat.now) (view_of c.enter-core.new.seat) c.enter-core.result
    c.unmark_if_home.new.core c.number-own.result c.enter-core.ensures.inside.1 c.number-own.ensures
    (keeps-marked c.number-own.result c.enter-core.result c.submit_all-given.new.core c.unmark_if_home.new.core
    c.submit_all-given.ensures.keeps c.unmark_if_home.ensures.state c.unmark_if_home.ensures.loans)

pub returns-clause-seat : goal.returns-clause-seat
returns-clause-seat g c =
    turn-stays-ready c.args.board.now c.args.seat.now c.enter-core.new.seat c.leave.new.seat c.enter-core.result c.unmark_if_home.new.core
    c.number-own.result c.requires c.enter-core.ensures.inside.1 c.leave.ensures.outside.1 c.enter-core.ensures.same c.leave.ensures.same
    c.leave.ensures.outside.0 c.enter-core.ensures.finds
    (keeps-marked c.number-own.result c.enter-core.result c.submit_all-given.new.core c.unmark_if_home.new.core
    c.submit_all-given.ensures.keeps c.unmark_if_home.ensures.state c.unmark_if_home.ensures.loans) c.number-own.ensures

pub returns-clause-submits : goal.returns-clause-submits
returns-clause-submits g c =
    let statements = take c.submit_all-given.result c.args.statements.now in
    turn-tells (λ seat old new. SendsAll seat statements old new)
    (λ seat old between new. many-behind seat statements old between new) c.args.seat.now c.leave.new.seat c.enter-core.result
    c.unmark_if_home.new.core c.number-own.result
    (view-left (view_of c.args.seat.now) (view_of c.enter-core.new.seat) (view_of c.leave.new.seat) c.enter-core.result
    c.unmark_if_home.new.core c.enter-core.ensures.inside.1 c.leave.ensures.outside.1)
    c.enter-core.ensures.finds c.number-own.ensures
    (subst (λ (state : State). SendsAll c.number-own.result statements
    (sight_of (state_of c.enter-core.result) c.number-own.result) (sight_of state c.number-own.result))
    (sym c.unmark_if_home.ensures.state) c.submit_all-given.ensures.submits)
