use Rattle.script_run.proofs.Words.{◌∙◌, err_from_is_err_and, refl}
use Rattle.script_run.proofs.WholeLemmas.{ends_whole, goes_on, halts_wanting, halts_writing, starts}
use Rattle.script_run.proofs.answer.answer_whole.Goals as goal

pub statements-init : goal.statements-init
statements-init g c = record { way = starts _ _ _; unfailed = refl }

pub returns-in_err-answered-clause-answers : goal.returns-in_err-answered-clause-answers
returns-in_err-answered-clause-answers g c =
    let failed = err_from_is_err_and c.from_residual.result c.from_residual.ensures.1 in
    rw (failed.1, failed.2) (halts_wanting _ _ _ _ _ _ _ c.statements.invariant.way c.in_err-answered.ensures.gives)

pub returns-in_default-clause-answers : goal.returns-in_default-clause-answers
returns-in_default-clause-answers g c =
    let gives = rw c.in_default.is at c.in_ok-answered.ensures.gives in
    (ends_whole _ _ _ _ _ _ _ _ _ c.statements.invariant.way c.in_ok-answered.ensures.stays gives.0 gives.2, gives.1)

pub returns-in_err-write_all-clause-answers : goal.returns-in_err-write_all-clause-answers
returns-in_err-write_all-clause-answers g c =
    let first = rw c.in-Some.is at c.in_ok-answered.ensures.gives in
    let took = rw c.as_bytes.ensures at c.in_err-write_all.ensures.err in
    let failed = err_from_is_err_and c.from_residual-in_err-write_all.result c.from_residual-in_err-write_all.ensures.1 in
    rw (failed.1, failed.2) (halts_writing _ _ _ _ _ _ _ _ _ _ _ c.statements.invariant.way first c.in_ok-answered.ensures.stays took)

pub statements-preserved : goal.statements-preserved
statements-preserved g c =
    let first = rw c.in-Some.is at c.in_ok-answered.ensures.gives in
    let took = rw c.as_bytes.ensures at c.in_ok-write_all.ensures.ok in
    record {
      way = goes_on _ _ _ _ _ _ _ _ _ _ _ c.statements.invariant.way first c.in_ok-answered.ensures.stays took;
      unfailed = c.in_ok-write_all.ensures.faults ∙ c.statements.invariant.unfailed;
    }
