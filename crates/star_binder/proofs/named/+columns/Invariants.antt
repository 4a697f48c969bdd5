use Rattle.std.proofs.Common.{◌≡◌, ◌++◌, map, drop}
use Rattle.star_parser.specs.Condition.{condition_of, conditions}
use Rattle.star_binder.specs.Named.{columns_in_all}
use Rattle.star_binder.proofs.named.+columns.Given as goal

-- the columns so far, and those of the trees that are left, are all
abbrev pub invariant-add_columns_of_all-trees : goal.invariant-add_columns_of_all-trees
invariant-add_columns_of_all-trees l =
    map (λ c. c.now) l.columns.items ++ columns_in_all (conditions (map condition_of (drop l.tree-index l.trees)))
    ≡ map (λ c. c.now) l.initial.columns.items ++ columns_in_all (conditions (map condition_of l.trees))
