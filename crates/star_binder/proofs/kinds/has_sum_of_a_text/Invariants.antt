use Rattle.std.proofs.Common.{◌≡◌, drop}
use Rattle.std.specs.List.{list_any}
use Rattle.star_binder.specs.Refused.{sums_a_text}
use Rattle.star_binder.proofs.kinds.has_sum_of_a_text.Given as goal

-- some item sums a text where one of those that are left does
abbrev pub invariant-items : goal.invariant-items
invariant-items l =
    list_any (sums_a_text l.scope) (drop l.item-index l.items)
    ≡ list_any (sums_a_text l.scope) l.items
