-- A batch that a worker carries through all filters keeps a core sound: each version in the hand is a present one that the batch did
-- not pass, and no two are of one filter.
use Rattle.core_state.proofs.Words.{◌∙◌, ◌∷◌, ◌≡◌, ◌≢◌, [], All, All-head, All-nil, All-tail, AllPairs, AllPairs-cons, AllPairs-filter, arith, Bool, cond, cons_option, eq-eqb, fact_columns, false, filter_dimensions, filter_map, Filters, FilterVersion, Flight, get_or, get_or-range_with_len, Hand, has_passed, IfSome, IsPermutation, IsSound, length, length-range_with_len, List, list_any, map, ne_eqb, None, Option, range_with_len, references, refl, Schema, Some, State, subst, suc, sym, tables_of, true, version_at, ℕ}
use Rattle.std.proofs.Common.{nat_eq}
use Rattle.std.specs.List.{IsDistinct}
use Rattle.std.proofs.lemmas.Cmp.{nat_eq_equiv}
use Rattle.std.proofs.lemmas.Map.Keys.{IsDistinct-from_apart, IsDistinct-IsPermutation, apart_from_distinct}
use Rattle.core_state.specs.Cutting.{after_carry}
use Rattle.core_state.specs.Events.{MayCarry}
use Rattle.core_state.specs.Flown.{IsSoundTask}
use Rattle.core_state.specs.Found.{filters_left}
use Rattle.core_state.proofs.TakeLemmas.{All-option, Apart, AreApart, IsPresent, dimension-found, present-found, sound-put, task-present}

-- numbers that differ do so where they are permuted
apart-permuted : (xs ys : List ℕ) → IsPermutation xs ys → AllPairs (λ x other. x ≢ other) xs → AllPairs (λ x other. x ≢ other) ys
apart-permuted xs ys permuted apart = λ i j d before low same.
    let there = apart_from_distinct nat_eq ys i j d distinct before low in
    let both : true ≡ false = sym (eq-eqb (get_or ys i d) (get_or ys j d) same) ∙ there in cc
  where
    distinct : IsDistinct nat_eq ys
    distinct = IsDistinct-IsPermutation nat_eq (λ x y. nat_eq_equiv.symm x y) xs ys permuted
        (IsDistinct-from_apart nat_eq xs (λ i j d before low. ne_eqb (get_or xs i d) (get_or xs j d) (apart i j d before low)))

-- no dimension has two filters
filters-apart : (schema : Schema) → AllPairs (λ dimension other. dimension ≢ other) (filter_dimensions schema)
filters-apart schema = AllPairs-filter (λ dimension other. dimension ≢ other) (λ dimension. list_any (references dimension) (fact_columns schema))
    (range_with_len 0 (length schema.dimensions)) (λ i j d before low same.
    let n = length schema.dimensions in
    let long = length-range_with_len 0 n in
    let first = get_or-range_with_len 0 n i d (omega arith) in
    let second = get_or-range_with_len 0 n j d (omega arith) in
    omega arith)

-- the present order has each once
pub order-apart : (state : State) → IsSound state → AllPairs (λ dimension other. dimension ≢ other) state.filters.order
order-apart state sound = apart-permuted (map (λ version. version.filter.dimension) state.filters.versions) state.filters.order sound.order.order
    (subst (AllPairs (λ dimension other. dimension ≢ other)) (sym sound.filters.dimensions) (filters-apart (tables_of state).schema))

-- what is left of some filters
abbrev pub left_of : List FilterVersion → Flight → List ℕ → List FilterVersion
left_of versions flight order =
    filter_map (λ dimension. cond {A = Option FilterVersion} (has_passed flight dimension) None (version_at versions dimension)) order

-- what holds of each version that is found and was not passed
one-left : (P : FilterVersion → Type 0) (versions : List FilterVersion) (flight : Flight) (dimension : ℕ)
    → ((version : FilterVersion) → has_passed flight dimension ≡ false → version_at versions dimension ≡ Some version → P version)
    → IfSome (cond {A = Option FilterVersion} (has_passed flight dimension) None (version_at versions dimension)) P
one-left P versions flight dimension each = by_test (has_passed flight dimension) refl (version_at versions dimension) refl
  where
    by_test : (passed : Bool) → has_passed flight dimension ≡ passed → (o : Option FilterVersion) → version_at versions dimension ≡ o
        → IfSome (cond {A = Option FilterVersion} passed None o) P
    by_test true is o at = tt
    by_test false is None at = tt
    by_test false is (Some version) at = each version is at

-- it holds of all that are left
pub all-left : (P : FilterVersion → Type 0) (Q : ℕ → Type 0) (versions : List FilterVersion) (flight : Flight)
    → ((dimension : ℕ) (version : FilterVersion) → Q dimension → has_passed flight dimension ≡ false
    → version_at versions dimension ≡ Some version → P version)
    → (order : List ℕ) → All Q order → All P (left_of versions flight order)
all-left P Q versions flight each [] all = All-nil P
all-left P Q versions flight each (dimension ∷ order) all =
    All-option P (cond {A = Option FilterVersion} (has_passed flight dimension) None (version_at versions dimension)) (left_of versions flight order)
    (one-left P versions flight dimension (λ version. each dimension version (All-head Q dimension order all)))
    (all-left P Q versions flight each order (All-tail Q dimension order all))

-- those that are left are of different filters where the order is of different ones
pub left-apart : (versions : List FilterVersion) (flight : Flight) (order : List ℕ) → AllPairs (λ dimension other. dimension ≢ other) order
    → AreApart (left_of versions flight order)
left-apart versions flight [] apart = λ i j d before low. absurd (omega arith)
left-apart versions flight (dimension ∷ order) apart =
    by_first (cond {A = Option FilterVersion} (has_passed flight dimension) None (version_at versions dimension))
    (one-left (λ version. All (Apart version) (left_of versions flight order)) versions flight dimension
    (λ version left at. all-left (Apart version) (λ other. dimension ≢ other) versions flight
    (λ other found differs passed there same. differs (sym (dimension-found versions dimension version at) ∙ same
    ∙ dimension-found versions other found there))
    order (λ k d low. apart 0 (suc k) d (omega arith) (omega arith))))
    (left-apart versions flight order (λ i j d before low. apart (suc i) (suc j) d (omega arith) (omega arith)))
  where
    by_first : (o : Option FilterVersion) → IfSome o (λ version. All (Apart version) (left_of versions flight order))
        → AreApart (left_of versions flight order) → AreApart (cons_option o (left_of versions flight order))
    by_first None first rest = rest
    by_first (Some version) first rest = AllPairs-cons Apart version (left_of versions flight order) first rest

-- the hand of a batch that is carried
abbrev carried_hand : (worker : ℕ) → Filters → Flight → Option Hand
carried_hand worker filters flight = Some (record { worker = worker; versions = filters_left filters flight })

pub sound-carried : (worker batch : ℕ) (state : State) → MayCarry worker batch state → IsSound state → IsSound (after_carry worker batch state)
sound-carried worker batch state can sound =
    sound-put worker batch state (carried_hand worker state.filters) can.empty
    (λ flight. record {
      of = refl;
      present = all-left (IsPresent state.filters.versions) (λ dimension. Unit {0}) state.filters.versions flight
          (λ dimension version any left at. present-found state.filters.versions dimension version at) state.filters.order (λ k d low. tt);
    })
    (λ flight of_batch. record {
      seat = can.seat;
      each = all-left (λ version. IsSoundTask state.lives.filters (tables_of state) flight version.filter) (λ dimension. Unit {0})
          state.filters.versions flight
          (λ dimension version any left at. task-present state sound flight of_batch dimension version left at) state.filters.order (λ k d low. tt);
      apart = left-apart state.filters.versions flight state.filters.order (order-apart state sound);
    }) sound
