use Rattle.std.proofs.Common.{◌≡◌, drop, map}
use Rattle.std.specs.List.{list_any}
use Rattle.star_parser.specs.Condition.{condition_of}
use Rattle.star_binder.specs.Conjuncts.{is_mixed}
use Rattle.star_binder.proofs.joined.has_mixed_conjunct.Given as goal

-- some conjunct is mixed where one of those that are left is
abbrev pub invariant-conjuncts : goal.invariant-conjuncts
invariant-conjuncts l =
    list_any (is_mixed l.scope) (map condition_of (drop l.conjunct-index l.conjuncts))
    ≡ list_any (is_mixed l.scope) (map condition_of l.conjuncts)
