-- The statement was submitted, or nothing has changed. The core has the seat, so the statement may come.
use Rattle.script_run.proofs.Words.{ap, arith, Err, state_of}
use Rattle.script_run.proofs.SeatTurnLemmas.{keeps-same, mindful-submitted, row-submitted, stays-same, submitted-took}
use Rattle.script_run.proofs.seat_turn.submit.Goals as goal

pub returns-in-Ok-clause-keeps : goal.returns-in-Ok-clause-keeps
returns-in-Ok-clause-keeps c =
    let old = state_of c.args.core.now in
    let new = state_of c.submit_read.new.self in
    record {
      mindful = mindful-submitted c.args.seat c.args.statement.now old new c.in-Ok.ensures.submits.taken;
      hand = (row-submitted c.args.seat c.args.statement.now old new c.in-Ok.ensures.submits.taken).hand;
      loans = c.what_is_beside_stays_lent.ensures c.args.core.now c.submit_read.new.self c.in-Ok.ensures.submits.beside;
    }

pub returns-in-Ok-clause-tells : goal.returns-in-Ok-clause-tells
returns-in-Ok-clause-tells c =
    submitted-took c.args.seat c.args.statement.now (state_of c.args.core.now) (state_of c.submit_read.new.self)
    c.in-Ok.ensures.submits.taken

pub returns-in-Err-Busy-clause-keeps : goal.returns-in-Err-Busy-clause-keeps
returns-in-Err-Busy-clause-keeps c = keeps-same c.args.seat c.args.core.now c.submit_read.new.self c.in-Err-Busy.ensures.submits.err

pub returns-in-Err-Busy-clause-tells : goal.returns-in-Err-Busy-clause-tells
returns-in-Err-Busy-clause-tells c =
    stays-same c.args.seat (state_of c.args.core.now) (state_of c.submit_read.new.self) (ap state_of c.in-Err-Busy.ensures.submits.err)

pub returns-in-Err-Memory-clause-keeps : goal.returns-in-Err-Memory-clause-keeps
returns-in-Err-Memory-clause-keeps c = keeps-same c.args.seat c.args.core.now c.submit_read.new.self c.in-Err-Memory.ensures.submits.err

pub returns-in-Err-Memory-clause-tells : goal.returns-in-Err-Memory-clause-tells
returns-in-Err-Memory-clause-tells c =
    stays-same c.args.seat (state_of c.args.core.now) (state_of c.submit_read.new.self) (ap state_of c.in-Err-Memory.ensures.submits.err)

pub unreachable-requires : goal.unreachable-requires
unreachable-requires c =
    c.in-Err-NotEnabled.ensures.submits.disabled.0 (ap Err c.in-Err-NotEnabled.field-0-is)
    (let low = c.requires in let count = c.every_core_is_sound.ensures.seats.count in omega arith)
