use Rattle.std.proofs.Common.{◌≡◌, length}
use Rattle.star_plan.specs.Declaration.{same_name}
use Rattle.star_plan.specs.Repeats.{repeats}
use Rattle.star_plan.proofs.names.has_pair_of_one_name.Given as goal

-- a name of all columns is repeated where one of those that are left is
abbrev pub invariant-columns : goal.invariant-columns
invariant-columns l = repeats same_name l.rest ≡ repeats same_name l.columns

abbrev pub decreases-columns : goal.decreases-columns
decreases-columns l = length l.rest
