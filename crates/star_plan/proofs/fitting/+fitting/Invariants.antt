use Rattle.std.proofs.Common.{◌≡◌, drop, map}
use Rattle.std.specs.List.{list_all}
use Rattle.star_values.specs.Value.{kind_of}
use Rattle.star_plan.specs.Fits.{test_fits}
use Rattle.star_plan.specs.Test.{test_of}
use Rattle.star_plan.proofs.fitting.+fitting.Given as goal

-- all members fit where those that are left do
abbrev pub invariant-all_fit-loop-member : goal.invariant-all_fit-loop-member
invariant-all_fit-loop-member l =
    list_all (λ member. test_fits (map kind_of l.row) (test_of member)) (drop l.member-index l.members) ≡ list_all (λ member. test_fits (map kind_of l.row) (test_of member)) l.members
