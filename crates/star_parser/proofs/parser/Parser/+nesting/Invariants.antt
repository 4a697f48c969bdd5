use Rattle.std.proofs.Common.{◌≡◌, ◌+◌, ◌*◌, length, map}
use Rattle.star_parser.specs.Reader.{with_front}
use Rattle.star_parser.specs.Condition.{condition_of}
use Rattle.star_parser.specs.Reading.{conjuncts_at, disjuncts_at}
use Rattle.star_parser.proofs.parser.Parser.+nesting.Given as goal

abbrev pub decreases-one : goal.decreases-one
decreases-one l = 8 * l.depth + 0

abbrev pub decreases-conjuncts : goal.decreases-conjuncts
decreases-conjuncts l = 8 * l.depth + 1

abbrev pub decreases-negated : goal.decreases-negated
decreases-negated l = 8 * l.depth + 1

abbrev pub decreases-all : goal.decreases-all
decreases-all l = 8 * l.depth + 2

abbrev pub decreases-disjuncts : goal.decreases-disjuncts
decreases-disjuncts l = 8 * l.depth + 3

abbrev pub decreases-any : goal.decreases-any
decreases-any l = 8 * l.depth + 4

abbrev pub decreases-closed : goal.decreases-closed
decreases-closed l = 8 * l.depth + 5

abbrev pub decreases-not_negated : goal.decreases-not_negated
decreases-not_negated l = 8 * l.depth + 6

-- the members so far and those of the rest are those of all
abbrev pub invariant-conjuncts-members : goal.invariant-conjuncts-members
invariant-conjuncts-members l = with_front (map condition_of l.trees.items) (conjuncts_at l.depth l.self.rest.now) ≡ conjuncts_at l.depth l.initial.self.rest.now

abbrev pub decreases-conjuncts-members : goal.decreases-conjuncts-members
decreases-conjuncts-members l = length l.self.rest.now

-- the members so far and those of the rest are those of all
abbrev pub invariant-disjuncts-members : goal.invariant-disjuncts-members
invariant-disjuncts-members l = with_front (map condition_of l.trees.items) (disjuncts_at l.depth l.self.rest.now) ≡ disjuncts_at l.depth l.initial.self.rest.now

abbrev pub decreases-disjuncts-members : goal.decreases-disjuncts-members
decreases-disjuncts-members l = length l.self.rest.now
