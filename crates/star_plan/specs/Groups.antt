-- Rows with equal group values form a group.
use Rattle.std.specs.Prelude.{List, [], ◌∷◌, filter, fold, map}
use Rattle.std.specs.Ordering.{is_eq}
use Rattle.std.specs.declared.cmp.Ordering.{Ordering}
use Rattle.std.specs.BTreeSet.{insert_key}
use Rattle.star_values.specs.declared.value.Value.{Value}
use Rattle.star_values.specs.Value.{row_cmp}
use Rattle.star_plan.specs.declared.place.Place.{Place}
use Rattle.star_plan.specs.Joined.{Joined, value_at}

-- the key of a row: its values at the places of GROUP BY, in their order
abbrev pub key_of : List Place → Joined → List Value
key_of places row = map (λ place. value_at place row) places

-- keys are ordered as rows are: by the first of their values that differ
abbrev pub key_cmp : List Value → List Value → Ordering
key_cmp = row_cmp

-- the distinct keys of rows, ascending: each goes to its place in the order, if it is not there
abbrev pub keys_of : List Place → List Joined → List (List Value)
keys_of places rows = fold (insert_key key_cmp) [] (map (key_of places) rows)

-- the keys of the groups, ascending; without GROUP BY there is one group, also over no rows
abbrev pub groups_of : List Place → List Joined → List (List Value)
groups_of [] rows = [] ∷ []
groups_of (place ∷ places) rows = keys_of (place ∷ places) rows

-- the rows of the group with a key
abbrev pub rows_of : List Place → List Value → List Joined → List Joined
rows_of places key rows = filter (λ row. is_eq (key_cmp (key_of places row) key)) rows
