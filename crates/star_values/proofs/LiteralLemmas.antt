-- What is found among literals in ascending order.
use Rattle.std.proofs.Common.{◌≡◌, ◌==◌, ℕ, ◌<◌, Bool, true, false, List, length, get_or, Result, Ok, Err, refl, sym, ap, ◌∙◌, ⊎_elim, arith}
use Rattle.std.specs.List.{list_any}
use Rattle.std.specs.List.Sorted.{IsBinarySearchResult, IsSorted}
use Rattle.std.specs.Ordering.{is_eq, ordering_reverse}
use Rattle.std.specs.Result.{is_ok}
use Rattle.std.specs.declared.cmp.Ordering.{Ordering}
use Rattle.std.specs.declared.cmp.Ordering.TheVariants.{Less, Equal, Greater}
use Rattle.std.proofs.lemmas.Bool.{cases_lt}
use Rattle.std.proofs.lemmas.List.Folds.{list_any_at, list_any_none}
use Rattle.std.proofs.lemmas.List.Sorted.{list_any-IsPermutation, searchable_from_sorted}
use Rattle.star_values.specs.contracts.value.ValueOrd.TheImpl.{ghosts as ordered}
use Rattle.star_values.specs.declared.value.Value.{Value}
use Rattle.star_values.specs.declared.value.Value.TheVariants.{Int, Str}
use Rattle.star_values.specs.Value.{value_cmp}
use Rattle.star_values.specs.OrderLaws.{value_cmp-total}
use Rattle.star_values.specs.Literals.{AreSortedBeside, is_same}

-- one that is equal is the same, and one that is not equal is not
turned : (value literal : Value) (order : Ordering) → value_cmp literal value ≡ order → is_same value literal ≡ is_eq (ordering_reverse order)
turned value literal order is = ap is_eq (value_cmp-total.antisymm value literal) ∙ ap (λ o. is_eq (ordering_reverse o)) is

-- the order by which std compares is the order of values
pub cmp-same : (value literal : Value) → ordered.cmp literal value ≡ value_cmp literal value
cmp-same (Int m) (Int n) = refl
cmp-same (Int m) (Str t) = refl
cmp-same (Str s) (Int n) = refl
cmp-same (Str s) (Str t) = refl

-- what a search by halves answers is whether one of all is the value
pub searched-any : (sorted : List Value) (value : Value) (order : Value → Ordering) (r : Result ℕ ℕ) → ((literal : Value) → order literal ≡ value_cmp literal value)
    → IsSorted value_cmp sorted → (found : Bool) → found ≡ is_ok r → ((i : ℕ) → r ≡ Ok i → i < length sorted) → IsBinarySearchResult order sorted r
    → found ≡ list_any (is_same value) sorted
searched-any sorted value order (Ok i) same up found is low at =
    is ∙ sym (list_any_at (is_same value) sorted i value (low i refl)
    (turned value (get_or sorted i value) Equal (sym (same (get_or sorted i value)) ∙ at value)))
searched-any sorted value order (Err i) same up found is low at =
    let by_value = searchable_from_sorted value_cmp-total (λ (v : Value). v) sorted value up in
    let parts = at (λ k m d before within. rw (same (get_or sorted k d), same (get_or sorted m d)) (by_value k m d before within)) in
    is ∙ sym (list_any_none (is_same value) sorted (λ k d within. ⊎_elim
    (λ early. turned value (get_or sorted k d) Less (sym (same (get_or sorted k d)) ∙ parts.0 k d (omega arith) early))
    (λ late. turned value (get_or sorted k d) Greater (sym (same (get_or sorted k d)) ∙ parts.1 k d late within))
    (cases_lt k i)))

-- so it is of the literals as they were written, where some stand beside in order
pub sorted-any : (values sorted : List Value) (value : Value) (length_of : ℕ) (none found : Bool) → AreSortedBeside values sorted
    → length_of ≡ length sorted → none ≡ (length_of == 0) → none ≡ false → found ≡ list_any (is_same value) sorted → found ≡ list_any (is_same value) values
sorted-any values sorted value length_of none found beside many tested some is = ⊎_elim
    (λ empty.
    let all : length sorted ≡ 0 = ap length empty in
    let zero : (length_of == 0) ≡ true = ap (λ n. n == 0) (many ∙ all) in
    absurd (let apart : true ≡ false = sym zero ∙ sym tested ∙ some in cc))
    (λ both. is ∙ sym (list_any-IsPermutation (is_same value) values sorted both.same))
    beside
