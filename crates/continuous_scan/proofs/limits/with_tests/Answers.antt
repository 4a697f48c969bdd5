use Rattle.std.proofs.Common.{subst}
use Rattle.std.specs.Prelude.{All}
use Rattle.std.proofs.lemmas.List.{take_all}
use Rattle.std.proofs.lemmas.List.Elements.{All-nil}
use Rattle.continuous_scan.specs.ByValue.{IsTestInside}
use Rattle.continuous_scan.proofs.LimitLemmas.{tests-more, wider-both, wider-same}
use Rattle.continuous_scan.proofs.limits.with_tests.Goals as goal

pub loop-test-init : goal.loop-test-init
loop-test-init c = record { grown = wider-same c.args.limits; inside = All-nil (IsTestInside c.args.column c.args.limits) }

pub loop-test-preserved : goal.loop-test-preserved
loop-test-preserved c = record {
  grown = wider-both c.args.limits c.loop-test.wider c.with_test-wider.result c.loop-test.invariant.grown c.with_test-wider.ensures.wider;
  inside = tests-more c.args.column c.loop-test.wider c.with_test-wider.result c.args.tests.now c.loop-test.test-index _ c.loop-test-test.true
      c.with_test-wider.ensures.wider c.with_test-wider.ensures.inside c.loop-test.invariant.inside;
}

pub returns-clause-wider : goal.returns-clause-wider
returns-clause-wider c = c.loop-test.invariant.grown

pub returns-clause-inside : goal.returns-clause-inside
returns-clause-inside c =
    subst (All (IsTestInside c.args.column c.loop-test.wider)) (take_all c.loop-test.test-index c.args.tests.now c.loop-test-test.false)
    c.loop-test.invariant.inside
