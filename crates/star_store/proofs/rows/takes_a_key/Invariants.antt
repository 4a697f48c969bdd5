use Rattle.std.proofs.Common.{◌≡◌, drop}
use Rattle.std.specs.List.{list_any}
use Rattle.star_store.specs.Loads.{is_taken}
use Rattle.star_store.proofs.rows.takes_a_key.Given as goal

-- a key is taken where one of those that are left is
abbrev pub invariant-rows : goal.invariant-rows
invariant-rows l =
    list_any (is_taken l.dimension.items) (drop l.row-index l.rows) ≡ list_any (is_taken l.dimension.items) l.rows
