use Rattle.std.proofs.Common.{◌≡◌, drop}
use Rattle.std.specs.List.{list_any}
use Rattle.star_values.specs.Literals.{is_same}
use Rattle.star_values.proofs.literal_list.has.Given as goal

-- one of all is the value where one of those that are left is
abbrev pub invariant-literals : goal.invariant-literals
invariant-literals l = list_any (is_same l.value) (drop l.literal-index l.literals) ≡ list_any (is_same l.value) l.literals
