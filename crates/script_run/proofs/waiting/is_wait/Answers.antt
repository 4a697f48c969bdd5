use Rattle.script_run.proofs.Words.{◌∙◌, ◌≡◌, Bool, IfOk, subst}
use Rattle.script_run.proofs.FrontWaitingLemmas.{wait-not_utf8, wait-utf8}
use Rattle.script_run.proofs.waiting.is_wait.Goals as goal

pub returns-in-Ok : goal.returns-in-Ok
returns-in-Ok c =
    let statement = c.args.statement.now in
    let utf8 = rw c.as_bytes.ensures at c.in-Ok.ensures.cases.1 in
    let line = c.in-Ok.ensures.cases.0 ∙ c.as_bytes.ensures in
    subst (λ (told : Bool). IfOk c.is_wait_line.result (λ waits. waits ≡ told)) (wait-utf8 statement utf8)
    (rw line at (c.is_wait_line.ensures statement.block))

pub returns-in-Err : goal.returns-in-Err
returns-in-Err c = wait-not_utf8 c.args.statement.now (rw c.as_bytes.ensures at c.in-Err.ensures.cases.0)
