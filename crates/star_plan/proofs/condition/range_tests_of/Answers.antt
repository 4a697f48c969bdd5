use Rattle.star_plan.proofs.FlatLemmas.{ranges-more}
use Rattle.star_plan.proofs.condition.range_tests_of.Goals as goal

pub loop-member-preserved : goal.loop-member-preserved
loop-member-preserved c =
    rw c.push.ensures
    (ranges-more c.args.members.now c.loop-member.member-index c.member-item.result c.loop-member.tests c.in-Some.test
    c.loop-member-test.true c.member-item.is c.loop-member.invariant c.in-Some.ensures)
