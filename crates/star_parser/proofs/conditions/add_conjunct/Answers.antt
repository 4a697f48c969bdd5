use Rattle.star_parser.specs.Condition.{condition_of}
use Rattle.star_parser.proofs.TreeLemmas.{added-conjunct, added-conjuncts, both_by}
use Rattle.star_parser.proofs.conditions.add_conjunct.Goals as goal

pub returns-in_ok-append-in-Both : goal.returns-in_ok-append-in-Both
returns-in_ok-append-in-Both c =
    added-conjuncts condition_of c.args.members.now.items c.append.new.self.items c.in-Both.list.members.items (condition_of c.args.tree) c.in_ok-append-in-Both.ensures.items
    (both_by c.args.tree c.in-Both.list c.in-Both.is)

pub returns-in_ok-push-in_default : goal.returns-in_ok-push-in_default
returns-in_ok-push-in_default c =
    added-conjunct c.args.members.now.items c.push.new.self.items c.args.tree c.in_ok-push-in_default.ensures.items c.in_default.not-Both
