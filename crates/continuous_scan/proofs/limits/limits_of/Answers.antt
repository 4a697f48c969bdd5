use Rattle.std.proofs.Common.{subst}
use Rattle.std.specs.Prelude.{All}
use Rattle.std.proofs.lemmas.List.{take_all}
use Rattle.continuous_scan.specs.ByValue.{IsConditionInside}
use Rattle.continuous_scan.proofs.LimitLemmas.{conditions-more}
use Rattle.continuous_scan.proofs.limits.limits_of.Goals as goal

pub loop-condition-preserved : goal.loop-condition-preserved
loop-condition-preserved c =
    conditions-more c.args.column c.loop-condition.limits c.with_condition-limits.result c.args.conditions.now c.loop-condition.condition-index
    c.condition-item.result c.loop-condition-test.true c.condition-item.is c.with_condition-limits.ensures.wider
    c.with_condition-limits.ensures.inside c.loop-condition.invariant

pub returns : goal.returns
returns c =
    subst (All (IsConditionInside c.args.column c.loop-condition.limits))
    (take_all c.loop-condition.condition-index c.args.conditions.now c.loop-condition-test.false) c.loop-condition.invariant
