-- The replies are dropped behind the queries that are abandoned, so that nothing is waited for.
use Rattle.script_run.proofs.Words.{state_of}
use Rattle.core_state.specs.Rows.{sight_of}
use Rattle.script_run.proofs.SeatTurnLemmas.{keeps-then, lets-abandoned, lets-then}
use Rattle.script_run.proofs.seat_turn.drop_pending.Goals as goal

pub returns-clause-keeps : goal.returns-clause-keeps
returns-clause-keeps c =
    keeps-then c.args.seat c.args.core.now c.abandon_pending.new.core c.drop_ready.new.core c.abandon_pending.ensures.keeps
    c.drop_ready.ensures.keeps

pub returns-clause-lets_go : goal.returns-clause-lets_go
returns-clause-lets_go c =
    lets-then c.args.seat (sight_of (state_of c.args.core.now) c.args.seat) (sight_of (state_of c.abandon_pending.new.core) c.args.seat)
    (sight_of (state_of c.drop_ready.new.core) c.args.seat)
    (lets-abandoned c.args.seat (state_of c.args.core.now) (state_of c.abandon_pending.new.core) c.abandon_pending.ensures.abandons)
    c.drop_ready.ensures.lets_go

pub returns-clause-idle : goal.returns-clause-idle
returns-clause-idle c = c.drop_ready.ensures.all c.abandon_pending.ensures.closed
