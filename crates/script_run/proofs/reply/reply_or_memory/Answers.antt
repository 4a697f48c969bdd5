-- The effect of the statement, or nothing has changed.
use Rattle.script_run.proofs.Words.{inl, inr, refl}
use Rattle.script_run.proofs.reply.reply_or_memory.Goals as goal

pub returns-in-Ok : goal.returns-in-Ok
returns-in-Ok c = inl (c.in-Ok.ensures.reply, c.in-Ok.ensures.tables)

pub returns-in-Err : goal.returns-in-Err
returns-in-Err c = inr (refl, c.in-Err.ensures.wanted)
