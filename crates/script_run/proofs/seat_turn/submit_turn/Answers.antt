-- The block is read behind a turn that changes nothing, and the statement is given behind both.
use Rattle.script_run.proofs.Words.{None, subst}
use Rattle.script_reader.specs.declared.statement.Statement.{Statement}
use Rattle.worker_gate.specs.Hands.{HasDoneIf}
use Rattle.script_run.specs.SeatTurns.{TellsTried}
use Rattle.script_run.proofs.SeatFrontLemmas.{tried-behind}
use Rattle.script_run.proofs.SeatTurnLemmas.{out-then}
use Rattle.script_run.proofs.seat_turn.submit_turn.Goals as goal

pub returns-clause-seat : goal.returns-clause-seat
returns-clause-seat g c =
    out-then c.args.board.now (HasDoneIf None) (HasDoneIf None) c.args.seat.now c.read_ahead-ahead.new.seat c.give_turn.new.seat
    c.read_ahead-ahead.ensures.seat c.give_turn.ensures.seat

pub returns-clause-tells : goal.returns-clause-tells
returns-clause-tells g c =
    tried-behind c.give_turn.result c.args.statement c.args.seat.now c.read_ahead-ahead.new.seat c.give_turn.new.seat
    c.read_ahead-ahead.ensures.seat.same c.read_ahead-ahead.ensures.stays
    (subst (λ (statement : Statement). TellsTried c.give_turn.result statement c.read_ahead-ahead.new.seat c.give_turn.new.seat)
    c.read_ahead-ahead.ensures.statement c.give_turn.ensures.tells)
