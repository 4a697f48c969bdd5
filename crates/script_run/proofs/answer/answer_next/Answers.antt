use Rattle.script_run.proofs.Words.{err_from_is_err_and, refl}
use Rattle.script_run.proofs.NextLemmas.{leaves-first}
use Rattle.script_run.proofs.SharedReadLemmas.{leaves-wanting, reads-done}
use Rattle.script_run.proofs.answer.answer_next.Goals as goal

pub returns-in_err-statement-clause-gives : goal.returns-in_err-statement-clause-gives
returns-in_err-statement-clause-gives c =
    let failed = err_from_is_err_and c.from_residual.result c.from_residual.ensures.1 in
    rw failed.1 (leaves-wanting c.args.reader.now c.next_statement.new.self c.in_err-statement.ensures.wanted)

pub returns-in_default-clause-gives : goal.returns-in_default-clause-gives
returns-in_default-clause-gives c =
    let done = reads-done c.args.reader.now c.next_statement.new.self _ c.in_default.not-Got c.in_ok-statement.ensures.answers
    c.in_ok-statement.ensures.stays in
    (refl, done.1, done.0)

pub returns-in_err-text-clause-gives : goal.returns-in_err-text-clause-gives
returns-in_err-text-clause-gives c =
    let first = rw c.in-Got.is at c.in_ok-statement.ensures.answers in
    let failed = err_from_is_err_and c.from_residual-in_err-text.result c.from_residual-in_err-text.ensures.1 in
    rw failed.1 (leaves-first c.args.reader.now c.next_statement.new.self c.in-Got.statement first)

pub returns-clause-gives : goal.returns-clause-gives
returns-clause-gives c = record {
  statement = c.in-Got.statement;
  first = rw c.in-Got.is at c.in_ok-statement.ensures.answers;
  reply = c.reply_or_memory-reply.result;
  is = c.reply_or_memory-reply.ensures;
  text = c.in_ok-text.ensures;
  refused = c.is_refusal-refused.ensures;
}
