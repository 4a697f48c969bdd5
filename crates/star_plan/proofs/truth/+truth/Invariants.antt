use Rattle.std.proofs.Common.{◌≡◌, true, drop, map}
use Rattle.std.specs.List.{list_all, list_any}
use Rattle.star_values.specs.Value.{kind_of}
use Rattle.star_plan.specs.Test.{test_of}
use Rattle.star_plan.specs.Truth.{test_holds}
use Rattle.star_plan.specs.Fits.{test_fits}
use Rattle.star_plan.proofs.truth.+truth.Given as goal

-- the members that are left fit, and all members hold where they do
abbrev pub invariant-all_hold-loop-member : goal.invariant-all_hold-loop-member
invariant-all_hold-loop-member l =
    (list_all (λ member. test_fits (map kind_of l.row) (test_of member)) (drop l.member-index l.members) ≡ true) ×
    (list_all (λ member. test_holds l.row (test_of member)) (drop l.member-index l.members) ≡ list_all (λ member. test_holds l.row (test_of member)) l.members)

-- the members that are left fit, and some member holds where one of them does
abbrev pub invariant-some_holds-loop-member : goal.invariant-some_holds-loop-member
invariant-some_holds-loop-member l =
    (list_all (λ member. test_fits (map kind_of l.row) (test_of member)) (drop l.member-index l.members) ≡ true) ×
    (list_any (λ member. test_holds l.row (test_of member)) (drop l.member-index l.members) ≡ list_any (λ member. test_holds l.row (test_of member)) l.members)
