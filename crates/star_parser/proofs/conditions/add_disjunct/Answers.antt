use Rattle.star_parser.specs.Condition.{condition_of}
use Rattle.star_parser.proofs.TreeLemmas.{added-disjunct, added-disjuncts, either_by}
use Rattle.star_parser.proofs.conditions.add_disjunct.Goals as goal

pub returns-in_ok-append-in-Either : goal.returns-in_ok-append-in-Either
returns-in_ok-append-in-Either c =
    added-disjuncts condition_of c.args.members.now.items c.append.new.self.items c.in-Either.list.members.items (condition_of c.args.tree) c.in_ok-append-in-Either.ensures.items
    (either_by c.args.tree c.in-Either.list c.in-Either.is)

pub returns-in_ok-push-in_default : goal.returns-in_ok-push-in_default
returns-in_ok-push-in_default c =
    added-disjunct c.args.members.now.items c.push.new.self.items c.args.tree c.in_ok-push-in_default.ensures.items c.in_default.not-Either
