use Rattle.std.proofs.Common.{◌≡◌, drop, map}
use Rattle.std.specs.List.{list_any}
use Rattle.star_parser.specs.Condition.{condition_of}
use Rattle.star_binder.specs.Conjuncts.{joins}
use Rattle.star_binder.proofs.joined.is_joined.Given as goal

-- some conjunct joins the dimension where one of those that are left does
abbrev pub invariant-conjuncts : goal.invariant-conjuncts
invariant-conjuncts l =
    list_any (joins l.scope l.dimension) (map condition_of (drop l.conjunct-index l.conjuncts))
    ≡ list_any (joins l.scope l.dimension) (map condition_of l.conjuncts)
