use Rattle.std.proofs.Common.{◌≡◌, drop}
use Rattle.std.specs.List.{list_any}
use Rattle.star_binder.specs.Refused.{is_not_grouped}
use Rattle.star_binder.proofs.grouped.has_item_that_is_not_grouped.Given as goal

-- some item is not grouped where one of those that are left is not
abbrev pub invariant-items : goal.invariant-items
invariant-items l =
    list_any (is_not_grouped l.scope l.groups) (drop l.item-index l.items)
    ≡ list_any (is_not_grouped l.scope l.groups) l.items
