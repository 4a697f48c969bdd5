-- The members of a list of predicates.
use Rattle.std.specs.Prelude.{List}
use Rattle.star_plan.specs.declared.predicate.Predicate.{Predicate}
use Rattle.star_plan.specs.declared.predicate.PredicateList.{PredicateList}

-- the predicates of a list, in order
abbrev pub members_of : PredicateList → List Predicate
members_of list = list.members.items
