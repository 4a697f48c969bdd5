use Rattle.std.proofs.Common.{take}
use Rattle.star_plan.specs.Flat.{AreRangesOf}
use Rattle.star_plan.proofs.condition.range_tests_of.Given as goal

abbrev pub invariant-loop-member : goal.invariant-loop-member
invariant-loop-member l = AreRangesOf (take l.member-index l.members) l.tests
