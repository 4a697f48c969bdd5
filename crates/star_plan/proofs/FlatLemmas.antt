-- Range tests let pass what the tests let pass that they come from.
use Rattle.std.proofs.Common.{◌≡◌, ℕ, zero, suc, ◌+◌, ◌<◌, ℤ, Bool, true, false, ◌&&◌, List, [], ◌∷◌, ◌++◌, length, get_or, take, map, refl, ap, sym, ◌∙◌}
use Rattle.std.specs.List.{list_all}
use Rattle.std.specs.Ordering.{int_cmp}
use Rattle.std.proofs.lemmas.List.Folds.{list_all_more, list_all-append}
use Rattle.star_values.specs.declared.value.Kind.{Kind}
use Rattle.star_values.specs.declared.value.Value.{Value}
use Rattle.star_values.specs.declared.value.Value.TheVariants.{Int, Str}
use Rattle.star_values.specs.Value.{kind_of, kinds_in}
use Rattle.star_plan.specs.declared.predicate.How.{How}
use Rattle.star_plan.specs.declared.predicate.How.TheVariants.{Ge, Le}
use Rattle.star_plan.specs.declared.predicate.Predicate.{Predicate}
use Rattle.star_plan.specs.Row.{value_in}
use Rattle.star_plan.specs.Answer.{integer_of}
use Rattle.star_plan.specs.Test.{Test, Compare, Between, Both, test_of, tests}
use Rattle.star_plan.specs.Truth.{is_asked, compares, test_holds, all_hold}
use Rattle.star_plan.specs.Fits.{fits_column, test_fits, all_fit}
use Rattle.star_plan.specs.declared.bounds.Bounds.{Bounds}
use Rattle.star_plan.specs.declared.range_test.RangeTest.{RangeTest}
use Rattle.star_plan.specs.Flat.{is_within, lets, IsRangeOf, AreRangesOf}

-- a column that takes an integer has one
int_there : (row : List Value) (column : ℕ) (n : ℤ) → fits_column (map kind_of row) column (Int n) ≡ true
    → value_in row column ≡ Int (integer_of (value_in row column))
int_there [] column n fits = refl
int_there (Int m ∷ row) zero n fits = refl
int_there (Str t ∷ row) zero n fits = absurd (cc)
int_there (value ∷ row) (suc column) n fits = int_there row column n fits

pub compared-range : (column : ℕ) (how : How) (integer : ℤ) (bounds : Bounds)
    → ((n : ℤ) → is_asked how (int_cmp n integer) ≡ is_within bounds n)
    → IsRangeOf (Compare column how (Int integer)) (record { column = column; bounds = bounds })
compared-range column how integer bounds same row fits =
    ap (λ value. compares how value (Int integer)) (int_there row column integer fits)
    ∙ same (integer_of (value_in row column))

first_holds : (a b : Bool) → (a && b) ≡ true → a ≡ true
first_holds true b both = refl
first_holds false b both = both

second_holds : (a b : Bool) → (a && b) ≡ true → b ≡ true
second_holds true b both = both
second_holds false b both = absurd (cc)

pub between-range : (column : ℕ) (low high : ℤ) (bounds : Bounds)
    → ((n : ℤ) → (is_asked Ge (int_cmp n low) && is_asked Le (int_cmp n high)) ≡ is_within bounds n)
    → IsRangeOf (Between column (Int low) (Int high)) (record { column = column; bounds = bounds })
between-range column low high bounds same row fits =
    ap (λ value. compares Ge value (Int low) && compares Le value (Int high))
    (int_there row column low (first_holds _ _ fits))
    ∙ same (integer_of (value_in row column))

-- one predicate more, and its range
pub ranges-more : (members : List Predicate) (i : ℕ) (member : Predicate) (ranges : List RangeTest) (range : RangeTest)
    → i < length members → member ≡ get_or members i member
    → AreRangesOf (take i members) ranges → IsRangeOf (test_of member) range
    → AreRangesOf (take (i + 1) members) (ranges ++ range ∷ [])
ranges-more members i member ranges range inside is so_far here row fits =
    let both : (list_all (λ m. test_fits (kinds_in row) (test_of m)) (take i members) && test_fits (kinds_in row) (test_of member)) ≡ true =
    ap (λ m. list_all (λ m. test_fits (kinds_in row) (test_of m)) (take i members) && test_fits (kinds_in row) (test_of m)) is
    ∙ sym (list_all_more (λ m. test_fits (kinds_in row) (test_of m)) members i member inside) ∙ fits in
    list_all_more (λ m. test_holds row (test_of m)) members i member inside
    ∙ ap (λ held. held && test_holds row (test_of (get_or members i member))) (so_far row (first_holds _ _ both))
    ∙ ap (λ m. list_all (lets row) ranges && test_holds row (test_of m)) (sym is)
    ∙ ap (λ held. list_all (lets row) ranges && held) (here row (second_holds _ _ both))
    ∙ ap (λ held. list_all (lets row) ranges && held) (sym (one (lets row range)))
    ∙ sym (list_all-append (lets row) ranges (range ∷ []))
  where
    one : (b : Bool) → (b && true) ≡ b
    one true = refl
    one false = refl

-- all of a list, and one test made of them
all_hold-tests : (row : List Value) (members : List Predicate)
    → all_hold row (tests (map test_of members)) ≡ list_all (λ member. test_holds row (test_of member)) members
all_hold-tests row [] = refl
all_hold-tests row (member ∷ members) = ap (λ held. test_holds row (test_of member) && held) (all_hold-tests row members)

all_fit-tests : (kinds : List Kind) (members : List Predicate)
    → all_fit kinds (tests (map test_of members)) ≡ list_all (λ member. test_fits kinds (test_of member)) members
all_fit-tests kinds [] = refl
all_fit-tests kinds (member ∷ members) = ap (λ fit. test_fits kinds (test_of member) && fit) (all_fit-tests kinds members)

-- the ranges of the members of `Both`
pub both-ranges : (test : Test) (members : List Predicate) (ranges : List RangeTest) → test ≡ Both (tests (map test_of members))
    → AreRangesOf members ranges
    → (row : List Value) → test_fits (kinds_in row) test ≡ true → test_holds row test ≡ list_all (lets row) ranges
both-ranges test members ranges is are row fits =
    ap (test_holds row) is ∙ all_hold-tests row members
    ∙ are row (sym (all_fit-tests (kinds_in row) members) ∙ sym (ap (test_fits (kinds_in row)) is) ∙ fits)

-- one range alone
pub one-range : (test : Test) (range : RangeTest) → IsRangeOf test range
    → (row : List Value) → test_fits (kinds_in row) test ≡ true → test_holds row test ≡ list_all (lets row) (range ∷ [])
one-range test range is row fits = is row fits ∙ sym (one (lets row range))
  where
    one : (b : Bool) → (b && true) ≡ b
    one true = refl
    one false = refl
