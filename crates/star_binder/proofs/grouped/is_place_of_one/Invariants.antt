use Rattle.std.proofs.Common.{◌≡◌, drop, map}
use Rattle.std.specs.List.{list_any}
use Rattle.star_plan.specs.Answer.{same_place}
use Rattle.star_binder.specs.Places.{place_of}
use Rattle.star_binder.proofs.grouped.is_place_of_one.Given as goal

-- the place is that of one of the columns where it is that of one that is left
abbrev pub invariant-columns : goal.invariant-columns
invariant-columns l =
    list_any (same_place l.place) (map (place_of l.scope) (drop l.column-index l.columns))
    ≡ list_any (same_place l.place) (map (place_of l.scope) l.columns)
