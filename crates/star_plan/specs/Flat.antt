-- Conditions on rows that are made of ranges of integers.
use Rattle.std.specs.Prelude.{◌≡◌, ℤ, Bool, true, false, not, ◌||◌, int_lt, List, Option, Some, None, IsTrue}
use Rattle.std.specs.List.{list_all}
use Rattle.star_values.specs.declared.value.Value.{Value}
use Rattle.star_values.specs.Value.{kinds_in}
use Rattle.star_plan.specs.declared.predicate.Predicate.{Predicate}
use Rattle.star_plan.specs.Row.{value_in}
use Rattle.star_plan.specs.Answer.{integer_of}
use Rattle.star_plan.specs.Test.{Test, test_of}
use Rattle.star_plan.specs.Truth.{passes, test_holds}
use Rattle.star_plan.specs.Fits.{some_test_fits, test_fits}
use Rattle.star_plan.specs.declared.bounds.Bounds.{Bounds}
use Rattle.star_plan.specs.declared.range_test.RangeTest.{RangeTest}
use Rattle.star_plan.specs.declared.condition.Condition.{Condition}
use Rattle.star_plan.specs.declared.condition.Condition.TheVariants.{Always, Ranges, Tree}

-- whether an integer is below the least, if there is a least
abbrev pub is_below : Option ℤ → ℤ → Bool
is_below None n = false
is_below (Some least) n = int_lt n least

-- whether an integer is above the greatest, if there is a greatest
abbrev pub is_above : Option ℤ → ℤ → Bool
is_above None n = false
is_above (Some greatest) n = int_lt greatest n

-- whether an integer is within bounds
abbrev pub is_within : Bounds → ℤ → Bool
is_within bounds n = not (is_below bounds.least n || is_above bounds.greatest n)

-- whether a range test lets a row pass: the integer in its column is within its bounds
abbrev pub lets : List Value → RangeTest → Bool
lets row test = is_within test.bounds (integer_of (value_in row test.column))

-- a range test lets the rows pass on which a test holds, of those that the test fits
abbrev pub IsRangeOf : Test → RangeTest → Type 0
IsRangeOf test range =
    (row : List Value) → IsTrue (test_fits (kinds_in row) test)
    → test_holds row test ≡ lets row range

-- the same of several range tests, and of several predicates that all have to hold
abbrev pub AreRangesOf : List Predicate → List RangeTest → Type 0
AreRangesOf members ranges = (row : List Value)
    → IsTrue (list_all (λ member. test_fits (kinds_in row) (test_of member)) members)
    → list_all (λ member. test_holds row (test_of member)) members ≡ list_all (lets row) ranges

-- whether a condition lets a row pass, which is that of a test if it has no form of its own
abbrev pub lets_pass : Condition → Option Test → List Value → Bool
lets_pass Always test row = true
lets_pass (Ranges ranges) test row = list_all (lets row) ranges
lets_pass Tree test row = passes test row

-- a condition lets the rows pass that pass a test, of those that the test fits
abbrev pub Means : Condition → Option Test → Type 0
Means condition test = (row : List Value)
    → IsTrue (some_test_fits (kinds_in row) test) → passes test row ≡ lets_pass condition test row
