use Rattle.std.proofs.Common.{◌≡◌, drop, map}
use Rattle.std.specs.List.{list_any}
use Rattle.star_binder.specs.Literals.{literal_of}
use Rattle.star_binder.specs.Refused.{is_of_another_kind}
use Rattle.star_binder.proofs.kinds.has_literal_of_another_kind.Given as goal

-- some literal has another kind where one of those that are left has
abbrev pub invariant-literals : goal.invariant-literals
invariant-literals l =
    list_any (is_of_another_kind l.scope) (map literal_of (drop l.literal-index l.literals))
    ≡ list_any (is_of_another_kind l.scope) (map literal_of l.literals)
