use Rattle.std.proofs.Common.{map}
use Rattle.star_parser.specs.Condition.{condition_of}
use Rattle.star_plan.specs.Test.{selection_of}
use Rattle.star_binder.specs.Bound.{selection_on}
use Rattle.star_binder.proofs.ListLemmas.{made_more}
use Rattle.star_binder.proofs.bound.choices.Goals as goal

pub dimensions-preserved : goal.dimensions-preserved
dimensions-preserved c =
    made_more selection_of (selection_on c.args.scope.now (map condition_of c.args.conjuncts.now))
    c.dimensions.choices.items c.push.new.self.items c.in_ok-choice_on.field-0 c.dimensions.dimension
    c.in_ok-push.ensures.items c.in_ok-choice_on.ensures c.dimensions.invariant
