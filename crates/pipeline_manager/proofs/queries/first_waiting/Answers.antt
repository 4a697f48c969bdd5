use Rattle.std.proofs.Common.{sym, ◌∙◌, false, ◌≡◌, arith}
use Rattle.std.proofs.lemmas.List.Elements.{All-more}
use Rattle.pipeline_manager.specs.Lives.{is_waiting}
use Rattle.pipeline_manager.proofs.QueryLemmas.{find-first_waiting, find-none_waits, none_waits-all}
use Rattle.pipeline_manager.proofs.queries.first_waiting.Goals as goal

pub returns-then-is_waiting-clause-waits : goal.returns-then-is_waiting-clause-waits
returns-then-is_waiting-clause-waits c =
    find-first_waiting c.args.queries.now c.loop-place.place _ c.loop-place.invariant (omega arith)
    (sym c.is_waiting.ensures ∙ c.if-is_waiting.true)

pub loop-place-preserved : goal.loop-place-preserved
loop-place-preserved c =
    All-more (λ entry. is_waiting entry.life ≡ false) c.args.queries.now c.loop-place.place _ (omega arith)
    c.loop-place.invariant (sym c.is_waiting.ensures ∙ c.if-is_waiting.false)

pub returns-clause-waits : goal.returns-clause-waits
returns-clause-waits c =
    find-none_waits c.args.queries.now
    (none_waits-all c.args.queries.now c.loop-place.place (omega arith) c.loop-place.invariant)
