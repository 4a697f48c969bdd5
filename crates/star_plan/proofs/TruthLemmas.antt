-- The test that a predicate is, by its parts; and where a test holds and fits comes from where its members do.
use Rattle.std.proofs.Common.{◌≡◌, ◌↔◌, ℕ, Bool, true, false, ◌||◌, ◌&&◌, List, [], ◌∷◌, map, None, Some, option_map, pos, slice_get, refl, ap, ◌∙◌, sym}
use Rattle.std.specs.Option.{option_map_or}
use Rattle.std.proofs.lemmas.Option.{get_or_from_slice_get, slice_get-map}
use Rattle.star_values.specs.Literals.{is_same}
use Rattle.star_values.specs.Value.{kind_of}
use Rattle.star_values.specs.declared.value.Value.TheVariants.{Int}
use Rattle.std.specs.Bool.{Decides, IsTrue}
use Rattle.std.specs.List.{All, Any, list_all, list_any}
use Rattle.std.proofs.lemmas.Bool.Decides.{Decides-and, Decides-at, Decides-by_and, Decides-not}
use Rattle.std.proofs.lemmas.List.Folds.{Any-from_list_any, list_any-from_Any}
use Rattle.std.proofs.Common.{Global}
use Rattle.std.specs.Prelude.{Box}
use Rattle.star_values.specs.declared.value.Kind.{Kind}
use Rattle.star_values.specs.declared.value.Value.{Value}
use Rattle.star_plan.specs.declared.predicate.Predicate.{Predicate}
use Rattle.star_plan.specs.declared.predicate.Predicate.TheVariants.{Both, Either, Negate, Compare, Between, OneOf, rolls-Compare, rolls-Between, rolls-OneOf, rolls-Both, rolls-Either, rolls-Negate}
use Rattle.star_plan.specs.declared.predicate.Predicate.TheOpen as layer
use Rattle.star_plan.specs.declared.predicate.Predicate.TheFolds.{fold-roll-Predicate, fold_out-PredicateList}
use Rattle.star_plan.specs.declared.predicate.PredicateList.{PredicateList}
use Rattle.star_plan.specs.declared.predicate.How.{How}
use Rattle.star_plan.specs.declared.predicate.How.TheVariants.{Eq, Ge, Le}
use Rattle.star_plan.specs.Members.{members_of}
use Rattle.star_plan.specs.Test.{Test, test_of, test_step, tests}
use Rattle.star_plan.specs.Test as plain
use Rattle.star_plan.specs.Truth.{all_hold, compares_at, some_holds, test_holds}
use Rattle.star_plan.specs.Fits.{all_fit, fits_column, same_kind, test_fits}

pub test_of-Compare : (column : ℕ) (how : How) (value : Value) → test_of (Compare column how value) ≡ plain.Compare column how value
test_of-Compare column how value =
    ap test_of (sym (rolls-Compare column how value)) ∙ fold-roll-Predicate Test (List Test) test_step (λ l. l.members.items) (layer.Compare column how value)

pub test_of-Between : (column : ℕ) (low high : Value) → test_of (Between column low high) ≡ plain.Between column low high
test_of-Between column low high =
    ap test_of (sym (rolls-Between column low high)) ∙ fold-roll-Predicate Test (List Test) test_step (λ l. l.members.items) (layer.Between column low high)

pub test_of-OneOf : (column : ℕ) (values : List Value) → test_of (OneOf column values) ≡ plain.OneOf column values
test_of-OneOf column values =
    ap test_of (sym (rolls-OneOf column values)) ∙ fold-roll-Predicate Test (List Test) test_step (λ l. l.members.items) (layer.OneOf column values)

pub test_of-Both : (list : PredicateList) → test_of (Both list) ≡ plain.Both (tests (map test_of (members_of list)))
test_of-Both list =
    ap test_of (sym (rolls-Both list)) ∙ fold-roll-Predicate Test (List Test) test_step (λ l. l.members.items) (layer.Both list)
    ∙ ap (λ members. test_step (layer.Both members)) (fold_out-PredicateList Test (List Test) test_step (λ l. l.members.items) list)

pub test_of-Either : (list : PredicateList) → test_of (Either list) ≡ plain.Either (tests (map test_of (members_of list)))
test_of-Either list =
    ap test_of (sym (rolls-Either list)) ∙ fold-roll-Predicate Test (List Test) test_step (λ l. l.members.items) (layer.Either list)
    ∙ ap (λ members. test_step (layer.Either members)) (fold_out-PredicateList Test (List Test) test_step (λ l. l.members.items) list)

pub test_of-Negate : (member : Box Predicate Global) → test_of (Negate member) ≡ plain.Negate (test_of member.value)
test_of-Negate member =
    ap test_of (sym (rolls-Negate member)) ∙ fold-roll-Predicate Test (List Test) test_step (λ l. l.members.items) (layer.Negate member)

all_hold-tests : (row : List Value) (members : List Test) → all_hold row (tests members) ≡ list_all (test_holds row) members
all_hold-tests row [] = refl
all_hold-tests row (member ∷ members) = ap (λ held. test_holds row member && held) (all_hold-tests row members)

some_holds-tests : (row : List Value) (members : List Test) → some_holds row (tests members) ≡ list_any (test_holds row) members
some_holds-tests row [] = refl
some_holds-tests row (member ∷ members) = ap (λ held. test_holds row member || held) (some_holds-tests row members)

pub all_fit-tests : (kinds : List Kind) (members : List Test) → all_fit kinds (tests members) ≡ list_all (test_fits kinds) members
all_fit-tests kinds [] = refl
all_fit-tests kinds (member ∷ members) = ap (λ fit. test_fits kinds member && fit) (all_fit-tests kinds members)

-- tests that agree, over a list and over what it is made of
all-map : {X Y : Type 0} (p : Y → Bool) (f : X → Y) (xs : List X) → list_all p (map f xs) ≡ list_all (λ x. p (f x)) xs
all-map p f [] = refl
all-map p f (x ∷ xs) = ap (λ held. p (f x) && held) (all-map p f xs)

any-map : {X Y : Type 0} (p : Y → Bool) (f : X → Y) (xs : List X) → list_any p (map f xs) ≡ list_any (λ x. p (f x)) xs
any-map p f [] = refl
any-map p f (x ∷ xs) = ap (λ held. p (f x) || held) (any-map p f xs)

-- a predicate that is a list of members, which were read from it
pub fits-is_Both : (predicate : Predicate) (list : PredicateList) (members : List Predicate) (kinds : List Kind) → predicate ≡ Both list → members ≡ members_of list
    → test_fits kinds (test_of predicate) ≡ list_all (λ member. test_fits kinds (test_of member)) members
fits-is_Both predicate list members kinds e f =
    ap (λ p. test_fits kinds (test_of p)) e ∙ ap (test_fits kinds) (test_of-Both list) ∙ all_fit-tests kinds (map test_of (members_of list))
    ∙ all-map (test_fits kinds) test_of (members_of list) ∙ sym (ap (list_all (λ member. test_fits kinds (test_of member))) f)

pub fits-is_Either : (predicate : Predicate) (list : PredicateList) (members : List Predicate) (kinds : List Kind) → predicate ≡ Either list → members ≡ members_of list
    → test_fits kinds (test_of predicate) ≡ list_all (λ member. test_fits kinds (test_of member)) members
fits-is_Either predicate list members kinds e f =
    ap (λ p. test_fits kinds (test_of p)) e ∙ ap (test_fits kinds) (test_of-Either list) ∙ all_fit-tests kinds (map test_of (members_of list))
    ∙ all-map (test_fits kinds) test_of (members_of list) ∙ sym (ap (list_all (λ member. test_fits kinds (test_of member))) f)

pub holds-is_Both : (predicate : Predicate) (list : PredicateList) (members : List Predicate) (row : List Value) → predicate ≡ Both list → members ≡ members_of list
    → test_holds row (test_of predicate) ≡ list_all (λ member. test_holds row (test_of member)) members
holds-is_Both predicate list members row e f =
    ap (λ p. test_holds row (test_of p)) e ∙ ap (test_holds row) (test_of-Both list) ∙ all_hold-tests row (map test_of (members_of list))
    ∙ all-map (test_holds row) test_of (members_of list) ∙ sym (ap (list_all (λ member. test_holds row (test_of member))) f)

pub holds-is_Either : (predicate : Predicate) (list : PredicateList) (members : List Predicate) (row : List Value) → predicate ≡ Either list → members ≡ members_of list
    → test_holds row (test_of predicate) ≡ list_any (λ member. test_holds row (test_of member)) members
holds-is_Either predicate list members row e f =
    ap (λ p. test_holds row (test_of p)) e ∙ ap (test_holds row) (test_of-Either list) ∙ some_holds-tests row (map test_of (members_of list))
    ∙ any-map (test_holds row) test_of (members_of list) ∙ sym (ap (list_any (λ member. test_holds row (test_of member))) f)

itself : (b : Bool) → Decides b (b ≡ true)
itself b = (λ h. h, λ h. h)

pub Decides-list_all : {X : Type 0} (p : X → Bool) (xs : List X) → Decides (list_all p xs) (All (λ x. p x ≡ true) xs)
Decides-list_all p xs = Decides-by_and p (λ x. p x ≡ true) (list_all p) (λ x. itself (p x)) refl (λ _ _. refl) xs

pub Decides-list_any : {X : Type 0} (p : X → Bool) (xs : List X) → Decides (list_any p xs) (Any (λ x. p x ≡ true) xs)
Decides-list_any p xs = (Any-from_list_any p xs, list_any-from_Any p xs)

-- all members hold
pub Both-law : (row : List Value) (members : List Test) → IsTrue (test_holds row (plain.Both (tests members))) ↔ All (λ member. IsTrue (test_holds row member)) members
Both-law row members = Decides-at _ _ (all_hold-tests row members) (Decides-list_all (test_holds row) members)

-- some member holds
pub Either-law : (row : List Value) (members : List Test) → IsTrue (test_holds row (plain.Either (tests members))) ↔ Any (λ member. IsTrue (test_holds row member)) members
Either-law row members = Decides-at _ _ (some_holds-tests row members) (Decides-list_any (test_holds row) members)

-- the member does not hold
pub Negate-law : (row : List Value) (member : Test) → IsTrue (test_holds row (plain.Negate member)) ↔ ¬ (IsTrue (test_holds row member))
Negate-law row member = Decides-not _ (itself (test_holds row member))

-- both comparisons hold
pub Between-law : (row : List Value) (column : ℕ) (low high : Value)
    → IsTrue (test_holds row (plain.Between column low high))
    ↔ (IsTrue (test_holds row (plain.Compare column Ge low)) × IsTrue (test_holds row (plain.Compare column Le high)))
Between-law row column low high =
    Decides-and _ _ (itself (compares_at row column Ge low)) (itself (compares_at row column Le high))

-- the value in the column is one of those listed
pub OneOf-law : (row : List Value) (column : ℕ) (values : List Value)
    → IsTrue (test_holds row (plain.OneOf column values)) ↔ Any (λ value. IsTrue (test_holds row (plain.Compare column Eq value))) values
OneOf-law row column values = Decides-list_any (compares_at row column Eq) values

-- tests that agree find the same
pub any_alike : {X : Type 0} (p q : X → Bool) (xs : List X) → ((x : X) → p x ≡ q x) → list_any p xs ≡ list_any q xs
any_alike p q [] e = refl
any_alike p q (x ∷ xs) e = ap (λ b. b || list_any p xs) (e x) ∙ ap (λ b. q x || b) (any_alike p q xs e)

-- Whether a value is among others.

-- where a row has no such column, no value fits there
pub past-equals : (row : List Value) (column : ℕ) (values : List Value) → IsTrue (list_all (fits_column (map kind_of row) column) values)
    → slice_get row column ≡ None → false ≡ list_any (compares_at row column Eq) values
past-equals row column [] fits past = refl
past-equals row column (value ∷ values) fits past =
    let none : fits_column (map kind_of row) column value ≡ false =
    ap (λ kind. option_map_or (λ k. same_kind k (kind_of value)) kind false) (slice_get-map kind_of row column ∙ ap (option_map kind_of) past) in
    absurd (let apart : false ≡ true = sym (ap (λ test. test && list_all (fits_column (map kind_of row) column) values) none) ∙ fits in cc)

-- and else the value there is compared with each
pub own-equals : (row : List Value) (column : ℕ) (values : List Value) (own : Value) (found : Bool) → slice_get row column ≡ Some own
    → found ≡ list_any (is_same own) values → found ≡ list_any (compares_at row column Eq) values
own-equals row column values own found there is =
    is ∙ ap (λ (value : Value). list_any (is_same value) values) (sym (get_or_from_slice_get row column own (Int (pos 0)) there))
