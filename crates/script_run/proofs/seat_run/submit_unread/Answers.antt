-- What is read of no block is the statement itself.
use Rattle.script_run.proofs.Words.{state_of, Statement, subst}
use Rattle.core_state.specs.Rows.{sight_of}
use Rattle.script_run.specs.SeatTurns.{SendsOne}
use Rattle.script_run.proofs.seat_run.submit_unread.Goals as goal

pub returns-in-Taken-clause-submits : goal.returns-in-Taken-clause-submits
returns-in-Taken-clause-submits c = λ taken.
    subst (λ (statement : Statement). SendsOne c.args.seat statement (sight_of (state_of c.args.core.now) c.args.seat)
    (sight_of (state_of c.submit.new.core) c.args.seat)) c.unread-unread.ensures c.in-Taken.ensures.tells
