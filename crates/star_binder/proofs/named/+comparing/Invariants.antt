use Rattle.std.proofs.Common.{◌≡◌, map, drop}
use Rattle.star_parser.specs.Condition.{condition_of, conditions}
use Rattle.star_binder.specs.Named.{some_compares_columns}
use Rattle.star_binder.proofs.named.+comparing.Given as goal

-- some tree compares columns where one of those that are left does
abbrev pub invariant-some_compares_columns-trees : goal.invariant-some_compares_columns-trees
invariant-some_compares_columns-trees l =
    some_compares_columns (conditions (map condition_of (drop l.tree-index l.trees))) ≡ some_compares_columns (conditions (map condition_of l.trees))
