use Rattle.std.proofs.Common.{◌≡◌, ◌++◌, map, drop}
use Rattle.star_parser.specs.Condition.{condition_of, conditions}
use Rattle.star_binder.specs.Literals.{literal_of}
use Rattle.star_binder.specs.Named.{literals_in_all}
use Rattle.star_binder.proofs.named.+literals.Given as goal

-- the literals so far, and those of the trees that are left, are all
abbrev pub invariant-add_literals_of_all-trees : goal.invariant-add_literals_of_all-trees
invariant-add_literals_of_all-trees l =
    map literal_of l.literals.items ++ literals_in_all (conditions (map condition_of (drop l.tree-index l.trees)))
    ≡ map literal_of l.initial.literals.items ++ literals_in_all (conditions (map condition_of l.trees))
