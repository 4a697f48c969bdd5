use Rattle.std.proofs.Common.{take}
use Rattle.std.specs.Prelude.{All}
use Rattle.continuous_scan.specs.ByValue.{IsTestInside, IsWider}
use Rattle.continuous_scan.proofs.limits.with_tests.Given as goal

abbrev pub invariant-loop-test : goal.invariant-loop-test
invariant-loop-test l = record {
  grown : IsWider l.fn.limits l.wider;
  inside : All (IsTestInside l.column l.wider) (take l.test-index l.tests);
}
