use Rattle.std.proofs.Common.{subst, sym}
use Rattle.std.specs.Prelude.{All}
use Rattle.continuous_scan.specs.ByValue.{IsConditionInside, IsTestInside}
use Rattle.continuous_scan.proofs.LimitLemmas.{wider-same}
use Rattle.continuous_scan.proofs.limits.with_condition.Goals as goal

pub returns-in-Always-clause-wider : goal.returns-in-Always-clause-wider
returns-in-Always-clause-wider c = wider-same c.args.limits

pub returns-in-Always-clause-inside : goal.returns-in-Always-clause-inside
returns-in-Always-clause-inside c = subst (IsConditionInside c.args.column c.args.limits) (sym c.in-Always.is) tt

pub returns-in-Ranges-clause-wider : goal.returns-in-Ranges-clause-wider
returns-in-Ranges-clause-wider c = c.with_tests.ensures.wider

pub returns-in-Ranges-clause-inside : goal.returns-in-Ranges-clause-inside
returns-in-Ranges-clause-inside c =
    subst (IsConditionInside c.args.column c.with_tests.result) (sym c.in-Ranges.is)
    (subst (All (IsTestInside c.args.column c.with_tests.result)) c.as_slice.ensures c.with_tests.ensures.inside)

pub returns-in-Tree-clause-wider : goal.returns-in-Tree-clause-wider
returns-in-Tree-clause-wider c = wider-same c.args.limits

pub returns-in-Tree-clause-inside : goal.returns-in-Tree-clause-inside
returns-in-Tree-clause-inside c = subst (IsConditionInside c.args.column c.args.limits) (sym c.in-Tree.is) tt
