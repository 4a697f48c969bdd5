use Rattle.std.proofs.Common.{◌∙◌, ap, Err}
use Rattle.event_core.proofs.StepsLemmas.{submits-busy, submits-refused, submits-taken, submits-wanting}
use Rattle.event_core.proofs.machine.Core.submit_read.Goals as goal

pub returns-then-not-has_seat-clause-submits : goal.returns-then-not-has_seat-clause-submits
returns-then-not-has_seat-clause-submits c =
    submits-refused c.args.seat c.args.statement.now c.args.self.now c.has_seat.result c.has_seat.ensures c.if-not-has_seat.true
    c.every_core_is_sound.ensures

pub returns-in-Ok-clause-submits : goal.returns-in-Ok-clause-submits
returns-in-Ok-clause-submits c =
    submits-taken c.args.seat c.args.statement.now c.args.self.now c.submit.new.self (c.has_seat.ensures.0 c.if-not-has_seat.false)
    c.in-Ok.ensures.ok c.submit.ensures.beside c.every_core_is_sound-in-Ok.ensures

pub returns-in-Err-Busy-clause-submits : goal.returns-in-Err-Busy-clause-submits
returns-in-Err-Busy-clause-submits c =
    submits-busy c.args.seat c.args.statement.now c.args.self.now c.submit.new.self (c.has_seat.ensures.0 c.if-not-has_seat.false)
    c.in-Err-Busy.ensures.err c.every_core_is_sound.ensures (c.submit.ensures.busy (c.in-Err-Busy.is ∙ ap Err c.in-Err-Busy.field-0-is))

pub returns-in-Err-Memory-clause-submits : goal.returns-in-Err-Memory-clause-submits
returns-in-Err-Memory-clause-submits c =
    submits-wanting c.args.seat c.args.statement.now c.args.self.now c.submit.new.self (c.has_seat.ensures.0 c.if-not-has_seat.false)
    c.in-Err-Memory.ensures.err c.every_core_is_sound.ensures
