-- Literals in ascending order beside those of a list.
use Rattle.std.specs.Prelude.{◌≡◌, ◌⊎◌, Bool, List, [], IsPermutation}
use Rattle.std.specs.List.Sorted.{IsSorted}
use Rattle.std.specs.Ordering.{is_eq}
use Rattle.star_values.specs.declared.value.Value.{Value}
use Rattle.star_values.specs.Value.{value_cmp}

-- whether a literal is a value
abbrev pub is_same : Value → Value → Bool
is_same value literal = is_eq (value_cmp value literal)

-- the same literals in ascending order
pub record AreSorted (values sorted : List Value) : Type 0 where
  pub same : IsPermutation values sorted
  pub sorted_up : IsSorted value_cmp sorted

-- none are beside, or the same in ascending order
abbrev pub AreSortedBeside : List Value → List Value → Type 0
AreSortedBeside values sorted = (sorted ≡ []) ⊎ AreSorted values sorted
