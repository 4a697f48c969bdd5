use Rattle.std.proofs.Common.{◌≡◌, ◌++◌, drop, filter_map, map}
use Rattle.star_binder.specs.Named.{column_of_item}
use Rattle.star_binder.proofs.select.add_item_columns.Given as goal

-- the columns so far, and those of the items that are left, are all
abbrev pub invariant-items : goal.invariant-items
invariant-items l =
    map (λ c. c.now) l.columns.items ++ filter_map column_of_item (drop l.item-index l.items)
    ≡ map (λ c. c.now) l.initial.columns.items ++ filter_map column_of_item l.items
