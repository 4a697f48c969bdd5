-- The filters of a core, of which one has a next version.
use Rattle.event_core.proofs.Words.{◌<◌, ◌∙◌, ◌∷◌, ◌≡◌, [], All, All-cons, All-contains, All-head, All-map, All-nil, All-tail, AllPairs, ap, arith, Bool, cond, Contains, eq-eqb, eqb, eqb-true, fact_columns, false, Filter, filter_dimensions, Filters, FilterVersion, find-holds, find-passes, get_or, get_or-map, get_or-range_with_len, Has, IsSound, length, length-map, length-range_with_len, List, list_any, map, None, Option, range_with_len, references, refl, same_Some, Schema, Some, State, subst, suc, sym, tables_of, true, version_at, with_new, ℕ}
use Rattle.std.proofs.Common.{find, filter}
use Rattle.std.proofs.lemmas.List.Kept.{AllPairs-filter}
use Rattle.core_state.specs.Flown.{IsSoundFilter}
use Rattle.core_state.proofs.AcceptedLemmas.{find-none}
use Rattle.core_state.proofs.VersionLemmas.{versioned}

-- a number that is among those of a list is found
found-among : {X : Type 0} (number_of : X → ℕ) (xs : List X) (number : ℕ) → Contains (map number_of xs) number
    → (x : X) × (find (λ x. eqb (number_of x) number) xs ≡ Some x)
found-among {X = X} number_of xs number among = by_found (find (λ x. eqb (number_of x) number) xs) refl
  where
    by_found : (o : Option X) → find (λ x. eqb (number_of x) number) xs ≡ o → (x : X) × (find (λ x. eqb (number_of x) number) xs ≡ Some x)
    by_found (Some x) is = (x, is)
    by_found None is =
        let other : eqb number number ≡ false = All-contains (λ n. eqb n number ≡ false) (map number_of xs) number
        (All-map (λ n. eqb n number ≡ false) number_of xs (find-none (λ x. eqb (number_of x) number) xs is)) among in
        let same : eqb number number ≡ true = eq-eqb number number refl in
        absurd cc

-- the present version of a filter: it has its dimension, and is sound
pub record IsPresent (state : State) (number : ℕ) (version : FilterVersion) : Type 0 where
  pub found : version_at state.filters.versions number ≡ Some version
  pub dimension : version.filter.dimension ≡ number
  pub sound : IsSoundFilter state.accepted (tables_of state) state.lives.slots state.lives.filters version.filter

pub is-present : (state : State) (dimension : ℕ) (version : FilterVersion) → IsSound state
    → version_at state.filters.versions dimension ≡ Some version → IsPresent state dimension version
is-present state dimension version sound found = record {
  found = found;
  dimension = eqb-true version.filter.dimension dimension
      (find-passes (λ v. eqb v.filter.dimension dimension) state.filters.versions version found);
  sound = find-holds (λ v. IsSoundFilter state.accepted (tables_of state) state.lives.slots state.lives.filters v.filter) (λ v. eqb v.filter.dimension dimension) state.filters.versions version found
      sound.filters.each;
}

-- each filter has one
pub has-present : (state : State) (dimension : ℕ) → IsSound state → Has state.lives.filters dimension
    → (version : FilterVersion) × IsPresent state dimension version
has-present state dimension sound has =
    let found = found-among (λ version. version.filter.dimension) state.filters.versions dimension
    (subst (λ dimensions. Contains dimensions dimension) (sym sound.filters.dimensions) ((sound.filters.set dimension).0 has)) in
    (found.0, is-present state dimension found.0 sound found.1)

-- rows have keys for it
pub has-few : (state : State) (dimension : ℕ) → IsSound state → Has state.lives.filters dimension → dimension < 8
has-few state dimension sound has =
    let present = has-present state dimension sound has in
    subst (λ n. n < 8) present.1.dimension present.1.sound.table.numbered

-- the dimensions of filters ascend
range-rises : (first count : ℕ) → AllPairs (λ x y. x < y) (range_with_len first count)
range-rises first count = λ j k d low within.
    let many = length-range_with_len first count in
    let here = get_or-range_with_len first count j d (omega arith) in
    let later = get_or-range_with_len first count k d (omega arith) in
    omega arith

versions-rise : (state : State) → IsSound state → AllPairs (λ v later. v.filter.dimension < later.filter.dimension) state.filters.versions
versions-rise state sound = λ j k d low within.
    let rises : AllPairs (λ x y. x < y) (map (λ (v : FilterVersion). v.filter.dimension) state.filters.versions) =
    subst (AllPairs (λ x y. x < y)) (sym sound.filters.dimensions) (dimensions-rise (tables_of state).schema) in
    let many = length-map state.filters.versions (λ (v : FilterVersion). v.filter.dimension) in
    let here = get_or-map (λ (v : FilterVersion). v.filter.dimension) state.filters.versions j d 0 (omega arith) in
    let later = get_or-map (λ (v : FilterVersion). v.filter.dimension) state.filters.versions k d 0 within in
    let apart = rises j k 0 low (omega arith) in
    omega arith
  where
    dimensions-rise : (schema : Schema) → AllPairs (λ x y. x < y) (filter_dimensions schema)
    dimensions-rise schema = AllPairs-filter (λ x y. x < y) (λ dimension. list_any (references dimension) (fact_columns schema))
        (range_with_len 0 (length schema.dimensions)) (range-rises 0 (length schema.dimensions))

-- what is found by its number is all that has it, where the numbers ascend
only-found : {X : Type 0} (number_of : X → ℕ) (xs : List X) (number : ℕ) (x : X) → AllPairs (λ y z. number_of y < number_of z) xs
    → find (λ x. eqb (number_of x) number) xs ≡ Some x → All (λ y. number_of y ≡ number → y ≡ x) xs
only-found number_of [] number x rise found = All-nil (λ y. number_of y ≡ number → y ≡ x)
only-found {X = X} number_of (y ∷ xs) number x rise found =
    by_test (eqb (number_of y) number) refl found (only-found number_of xs number x behind)
  where
    behind : AllPairs (λ y z. number_of y < number_of z) xs
    behind = λ j k d low within. rise (suc j) (suc k) d (omega arith) (omega arith)

    by_test : (t : Bool) → eqb (number_of y) number ≡ t → cond {A = Option X} t (Some y) (find (λ z. eqb (number_of z) number) xs) ≡ Some x
        → (find (λ z. eqb (number_of z) number) xs ≡ Some x → All (λ z. number_of z ≡ number → z ≡ x) xs)
        → All (λ z. number_of z ≡ number → z ≡ x) (y ∷ xs)
    by_test true is e rest = All-cons (λ z. number_of z ≡ number → z ≡ x) y xs (λ same. same_Some y x e) (λ k d low same.
        let first : number_of y ≡ number = eqb-true (number_of y) number is in
        let above : number_of y < number_of (get_or xs k d) = rise 0 (suc k) d (omega arith) (omega arith) in
        absurd (omega arith))
    by_test false is e rest = All-cons (λ z. number_of z ≡ number → z ≡ x) y xs
        (λ same. absurd (let both : true ≡ false = sym (eq-eqb (number_of y) number same) ∙ is in cc))
        (rest e)

-- a change of one of the list, by its number, is any change that makes the same of it
only-changed : {X : Type 0} (number_of : X → ℕ) (xs : List X) (number : ℕ) (x : X) (change other : X → X)
    → All (λ y. number_of y ≡ number → y ≡ x) xs → change x ≡ other x
    → map (λ y. cond {A = X} (eqb (number_of y) number) (change y) y) xs ≡ map (λ y. cond {A = X} (eqb (number_of y) number) (other y) y) xs
only-changed number_of [] number x change other only same = refl
only-changed {X = X} number_of (y ∷ xs) number x change other only same =
    ap (λ z. z ∷ map (λ y. cond {A = X} (eqb (number_of y) number) (change y) y) xs) (by_test (eqb (number_of y) number) refl)
    ∙ ap (λ rest. cond {A = X} (eqb (number_of y) number) (other y) y ∷ rest)
    (only-changed number_of xs number x change other (All-tail (λ y. number_of y ≡ number → y ≡ x) y xs only) same)
  where
    by_test : (t : Bool) → eqb (number_of y) number ≡ t → cond {A = X} t (change y) y ≡ cond {A = X} t (other y) y
    by_test true is =
        let one : y ≡ x = All-head (λ y. number_of y ≡ number → y ≡ x) y xs only (eqb-true (number_of y) number is) in
        ap change one ∙ same ∙ sym (ap other one)
    by_test false is = refl

-- the filters with the next version of one are those of which that one is changed
pub with-next : (state : State) (dimension number : ℕ) (old version : FilterVersion) (change : Filter → Filter) → IsSound state
    → IsPresent state dimension old → version.number ≡ number → version.filter ≡ change old.filter
    → (change old.filter).dimension ≡ old.filter.dimension
    → with_new version state.filters ≡ record state.filters { versions = map (versioned dimension number change) state.filters.versions }
with-next state dimension number old version change sound present numbered changed keeps =
    ap with_versions
    (ap (λ n. map (λ (v : FilterVersion). cond {A = FilterVersion} (eqb v.filter.dimension n) version v) state.filters.versions)
    (ap (λ (f : Filter). f.dimension) changed ∙ keeps ∙ present.dimension)
    ∙ only-changed (λ v. v.filter.dimension) state.filters.versions dimension old (λ v. version) (λ v. made number (change v.filter))
    (only-found (λ v. v.filter.dimension) state.filters.versions dimension old (versions-rise state sound) present.found)
    (ap (λ n. made n version.filter) numbered ∙ ap (made number) changed))
  where
    made : ℕ → Filter → FilterVersion
    made number filter = record { number = number; filter = filter }

    with_versions : List FilterVersion → Filters
    with_versions versions = record state.filters { versions = versions }
