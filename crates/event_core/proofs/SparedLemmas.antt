-- Of each present version every seat has its reference, which is kept or in its hand: events keep it so.
use Rattle.event_core.proofs.Words.{◌++◌, ◌+◌, ◌<◌, ◌∙◌, ◌∷◌, ◌≡◌, ◌≢◌, ◌≤◌, ◌⊎◌, [], All, All-head, All-tail, ap, arith, bit_at, Bool, cases_eq, ChangeKind, cond, CoreParts, drop, eq-eqb, eqb, eqb-true, false, Filter, filter_dimensions, Filters, FilterVersion, find, find-passes, Flight, flight_as, flight_at, flight_behind, get_or, get_or-map, get_or-range_with_len, get_or-set_other, get_or-set_same, held_by, IfSome, inl, inr, IsCore, IsSome, IsThrough, IsWanting, KeyedStore, known_in, length, length-map, length-range_with_len, length-set, List, map, MayDistribute, MayTake, ne_eqb, next_of, None, none-some, not, Option, option_and_then, option_map, option_map_or, passed_in, position, range_with_len, reaches_in, refl, replicate, same_Some, Schema, set, slice_get, Some, some-at, state_of, Store, subst, suc, sym, tables_of, TableDef, take, true, version_at, with_filters_for, with_new, zero, ℕ, All-cons, All-nil, Contains, filter_map, Rows, ⊎_elim, append-nil, cons_option}
use Rattle.std.specs.Option.{option_or}
use Rattle.std.proofs.lemmas.Bool.{false≢true}
use Rattle.std.proofs.lemmas.List.{get_or-replicate, length-replicate}
use Rattle.std.proofs.lemmas.List.Elements.{All-contains_itself, All-weaker, Contains-append_cases, Contains-append_left, Contains-append_right}
use Rattle.std.proofs.lemmas.List.Folds.{find-append}
use Rattle.star_store.specs.declared.applied.ChangeKind.TheVariants.{DeclaresFact}
use Rattle.filter_order.specs.Filtered.{first_version, first_versions}
use Rattle.filter_order.specs.Filters.{first_filters, versions_left}
use Rattle.filter_order.specs.Spares.{first_spares, HasPlace, is_present, references_to, spare_at, Spares, with_all_returned, with_all_taken, with_returned, with_spare}
use Rattle.filter_order.proofs.FirstFilterLemmas.{length-first, referenced_are_numbered}
use Rattle.filter_order.proofs.SpareLemmas.{places-stay, spare-apart, spare-put}
use Rattle.core_parts.specs.InFlight.{Hand}
use Rattle.core_parts.specs.Passed.{with_flights_done}
use Rattle.core_state.specs.Events.{MayCarry}
use Rattle.core_state.specs.Sound.{IsPresentByNumber}
use Rattle.core_state.specs.State as state
use Rattle.core_state.proofs.DeclareLemmas.{nil-by-map, no-filters}
use Rattle.event_core.specs.Spared.{AreSpare, AreSpareBy, HasReference, IsSpare, versions_held, versions_in}
use Rattle.event_core.proofs.EventsHandLemmas.{find-images, found-there, has_number, is_in_hand}

-- what is found stays where one that fails is written over by one that fails
find-set : {X : Type 0} (p : X → Bool) (xs : List X) (place : ℕ) (old new : X) → slice_get xs place ≡ Some old → p old ≡ false
    → p new ≡ false → find p (set xs place new) ≡ find p xs
find-set p [] place old new is was fails = absurd (none-some old is)
find-set {X = X} p (x ∷ xs) zero old new is was fails =
    ap (λ t. cond {A = Option X} t (Some new) (find p xs)) fails
    ∙ sym (ap (λ t. cond {A = Option X} t (Some x) (find p xs)) (ap p (same_Some x old is) ∙ was))
find-set {X = X} p (x ∷ xs) (suc place) old new is was fails =
    ap (λ o. cond {A = Option X} (p x) (Some x) o) (find-set p xs place old new is was fails)

-- one that passes is found where it is written and none was found
find-written : {X : Type 0} (p : X → Bool) (xs : List X) (place : ℕ) (old new : X) → slice_get xs place ≡ Some old
    → find p xs ≡ None → p new ≡ true → find p (set xs place new) ≡ Some new
find-written p [] place old new is none passes = absurd (none-some old is)
find-written {X = X} p (x ∷ xs) zero old new is none passes = ap (λ t. cond {A = Option X} t (Some new) (find p xs)) passes
find-written {X = X} p (x ∷ xs) (suc place) old new is none passes =
    by_test (p x) none (λ rest. find-written p xs place old new is rest passes)
  where
    by_test : (t : Bool) → cond {A = Option X} t (Some x) (find p xs) ≡ None
        → (find p xs ≡ None → find p (set xs place new) ≡ Some new)
        → cond {A = Option X} t (Some x) (find p (set xs place new)) ≡ Some new
    by_test true some later = absurd (none-some x (sym some))
    by_test false rest later = later rest

-- what is found stays where one that fails is taken away
find-left : {X : Type 0} (p : X → Bool) (xs : List X) (place : ℕ) (old : X) → slice_get xs place ≡ Some old → p old ≡ false
    → find p (take place xs ++ drop (suc place) xs) ≡ find p xs
find-left p [] place old is was = absurd (none-some old is)
find-left {X = X} p (x ∷ xs) zero old is was =
    sym (ap (λ t. cond {A = Option X} t (Some x) (find p xs)) (ap p (same_Some x old is) ∙ was))
find-left {X = X} p (x ∷ xs) (suc place) old is was =
    ap (λ o. cond {A = Option X} (p x) (Some x) o) (find-left p xs place old is was)

-- a list with one more in front has that one
pub contains-first : {X : Type 0} (x : X) (xs : List X) → Contains (x ∷ xs) x
contains-first x xs = (0, omega arith, refl)

-- and the others
pub contains-more : {X : Type 0} (x y : X) (xs : List X) → Contains xs y → Contains (x ∷ xs) y
contains-more x y xs has = (suc has.0, omega (arith, has.1), has.2)

-- what it has is that one or one of the others
pub contains-cases : {X : Type 0} (x y : X) (xs : List X) → Contains (x ∷ xs) y → (x ≡ y) ⊎ Contains xs y
contains-cases x y xs has = by_place has.0 has.1 has.2
  where
    by_place : (k : ℕ) → k < length (x ∷ xs) → get_or (x ∷ xs) k y ≡ y → (x ≡ y) ⊎ Contains xs y
    by_place zero low is = inl is
    by_place (suc k) low is = inr (k, omega arith, is)

-- an empty list has nothing
pub contains-none : {X : Type 0} (x : X) → Contains [] x → ⊥
contains-none x has = omega (arith, has.1)

-- the versions in the hand that a batch is in, if one is found
abbrev versions_of : Option Flight → List FilterVersion
versions_of found = option_map_or (λ (flight : Flight). versions_in flight.hand) found []

-- an idle batch is in no seat's hand
not-held : (seat : ℕ) (flight : Flight) → flight.hand ≡ None → is_in_hand seat flight ≡ false
not-held seat flight idle = ap (λ o. option_map_or (λ (hand : Hand). eqb hand.worker seat) o false) idle

-- the versions in the hand of each seat
abbrev pub Hands : Type 0
Hands = (seat : ℕ) → List FilterVersion

-- the references go on with other hands and other references, where the places stay
spare-moved : (seats dimension : ℕ) (version : FilterVersion) (old new : Hands) (spares left : Spares) → length left ≡ length spares
    → length (get_or left dimension []) ≡ length (get_or spares dimension [])
    → ((seat : ℕ) → seat < seats → HasReference dimension version seat (old seat) spares
    → HasReference dimension version seat (new seat) left)
    → IsSpare seats dimension version old spares → IsSpare seats dimension version new left
spare-moved seats dimension version old new spares left long places goes before = record {
  listed = subst (λ n. dimension < n) (sym long) before.listed;
  many = places ∙ before.many;
  each = λ seat low. goes seat low (before.each seat low);
}

-- where there is no version, nothing is said
pub spare-none : (seats : ℕ) (versions : List FilterVersion) (flights : List Flight) (spares : Spares) → versions ≡ []
    → AreSpare seats versions flights spares
spare-none seats versions flights spares none =
    subst (λ list. AreSpare seats list flights spares) (sym none)
    (record { present = λ dimension version is. absurd (none-some version is) })

-- the same versions have the same references
pub spare-with : (seats : ℕ) (old new : Filters) (flights : List Flight) (spares : Spares) → new.versions ≡ old.versions
    → AreSpare seats old.versions flights spares → AreSpare seats new.versions flights spares
spare-with seats old new flights spares same all = subst (λ list. AreSpare seats list flights spares) (sym same) all

-- so have hands in which at least the same is
spare-more : (seats : ℕ) (versions : List FilterVersion) (old new : Hands) (spares : Spares)
    → ((seat : ℕ) (version : FilterVersion) → Contains (old seat) version → Contains (new seat) version)
    → AreSpareBy seats versions old spares → AreSpareBy seats versions new spares
spare-more seats versions old new spares more all = record {
  present = λ dimension version is.
      spare-moved seats dimension version old new spares spares refl refl (λ seat low. goes dimension version seat)
      (all.present dimension version is);
}
  where
    goes : (dimension : ℕ) (version : FilterVersion) (seat : ℕ) → HasReference dimension version seat (old seat) spares
        → HasReference dimension version seat (new seat) spares
    goes dimension version seat (inl kept) = inl kept
    goes dimension version seat (inr held) = inr (more seat version held)

-- and the same hands
spare-held : (seats : ℕ) (versions : List FilterVersion) (old new : Hands) (spares : Spares)
    → ((seat : ℕ) → new seat ≡ old seat) → AreSpareBy seats versions old spares → AreSpareBy seats versions new spares
spare-held seats versions old new spares same =
    spare-more seats versions old new spares (λ seat version. subst (λ list. Contains list version) (sym (same seat)))

-- so have batches that are in the same hands
pub spare-hands : (seats : ℕ) (versions : List FilterVersion) (old new : List Flight) (spares : Spares)
    → map (λ (flight : Flight). flight.hand) new ≡ map (λ (flight : Flight). flight.hand) old
    → AreSpare seats versions old spares → AreSpare seats versions new spares
spare-hands seats versions old new spares same =
    spare-held seats versions (versions_held old) (versions_held new) spares
    (λ seat. by_hands new seat ∙ ap (λ hands. of_hand (find (own seat) hands)) same ∙ sym (by_hands old seat))
  where
    own : (seat : ℕ) → Option Hand → Bool
    own seat o = option_map_or (λ hand. eqb hand.worker seat) o false

    of_hand : Option (Option Hand) → List FilterVersion
    of_hand o = option_map_or versions_in o []

    held : (o : Option Flight) → versions_of o ≡ of_hand (option_map (λ (flight : Flight). flight.hand) o)
    held None = refl
    held (Some flight) = refl

    by_hands : (flights : List Flight) (seat : ℕ)
        → versions_held flights seat ≡ of_hand (find (own seat) (map (λ (flight : Flight). flight.hand) flights))
    by_hands flights seat = held (find (is_in_hand seat) flights)
        ∙ ap of_hand (sym (find-images (own seat) (λ (flight : Flight). flight.hand) flights))

-- a batch more in flight, which is idle
pub spare-cut : (seats : ℕ) (versions : List FilterVersion) (flights new : List Flight) (flight : Flight) (spares : Spares)
    → new ≡ flights ++ flight ∷ [] → flight.hand ≡ None → AreSpare seats versions flights spares → AreSpare seats versions new spares
spare-cut seats versions flights new flight spares is idle all =
    spare-held seats versions (versions_held flights) (versions_held new) spares
    (λ seat. ap (λ list. versions_held list seat) is ∙ ap versions_of (found seat)) all
  where
    or-none : (o : Option Flight) → option_or o None ≡ o
    or-none None = refl
    or-none (Some one) = refl

    found : (seat : ℕ) → find (is_in_hand seat) (flights ++ flight ∷ []) ≡ find (is_in_hand seat) flights
    found seat = find-append (is_in_hand seat) flights (flight ∷ [])
        ∙ ap (λ t. option_or (find (is_in_hand seat) flights) (cond {A = Option Flight} t (Some flight) None)) (not-held seat flight idle)
        ∙ or-none (find (is_in_hand seat) flights)

-- a batch less, which is idle
pub spare-left : (seats : ℕ) (versions : List FilterVersion) (flights new : List Flight) (place : ℕ) (flight : Flight) (spares : Spares)
    → slice_get flights place ≡ Some flight → flight.hand ≡ None → new ≡ take place flights ++ drop (place + 1) flights
    → AreSpare seats versions flights spares → AreSpare seats versions new spares
spare-left seats versions flights new place flight spares there idle is all =
    spare-held seats versions (versions_held flights) (versions_held new) spares
    (λ seat. ap (λ list. versions_held list seat) (is ∙ ap (λ n. take place flights ++ drop n flights) next)
    ∙ ap versions_of (find-left (is_in_hand seat) flights place flight there (not-held seat flight idle))) all
  where
    next : place + 1 ≡ suc place
    next = omega arith

-- all batches pass all filters, where none is in a hand
pub spare-passed : (seats : ℕ) (old new : Filters) (flights passed : List Flight) (spares : Spares)
    → passed ≡ map (flight_behind old) flights → new ≡ with_flights_done flights old
    → AreSpare seats old.versions flights spares → AreSpare seats new.versions passed spares
spare-passed seats old new flights passed spares flown done all =
    subst (λ (one : Filters). AreSpare seats one.versions passed spares) (sym done)
    (spare-held seats old.versions (versions_held flights) (versions_held passed) spares
    (λ seat. ap (λ list. versions_held list seat) flown
    ∙ ap versions_of (find-images (is_in_hand seat) (flight_behind old) flights)
    ∙ same (find (is_in_hand seat) flights)) all)
  where
    same : (o : Option Flight) → versions_of (option_map (flight_behind old) o) ≡ versions_of o
    same None = refl
    same (Some flight) = refl

-- a dimension that has a version has a place
pub spare-listed : (seats : ℕ) (versions : List FilterVersion) (flights : List Flight) (spares : Spares) (dimension : ℕ)
    → AreSpare seats versions flights spares → IsSome (version_at versions dimension) → dimension < length spares
spare-listed seats versions flights spares dimension all some = by_found (version_at versions dimension) refl some
  where
    by_found : (o : Option FilterVersion) → version_at versions dimension ≡ o → IsSome o → dimension < length spares
    by_found None none never = absurd (false≢true never)
    by_found (Some version) is there = (all.present dimension version is).listed

-- the version of a filter, of which that of a dimension is another
abbrev next : (version old : FilterVersion) → FilterVersion
next version old = cond {A = FilterVersion} (eqb old.filter.dimension version.filter.dimension) version old

next-dimension : (version old : FilterVersion) → (next version old).filter.dimension ≡ old.filter.dimension
next-dimension version old = by_test (eqb old.filter.dimension version.filter.dimension) refl
  where
    by_test : (t : Bool) → eqb old.filter.dimension version.filter.dimension ≡ t
        → (cond {A = FilterVersion} t version old).filter.dimension ≡ old.filter.dimension
    by_test true same = sym (eqb-true old.filter.dimension version.filter.dimension same)
    by_test false other = refl

-- the present version of a dimension is the next one where that is of this dimension
found-next : (version : FilterVersion) (versions : List FilterVersion) (at : ℕ)
    → version_at (map (next version) versions) at ≡ option_map (next version) (version_at versions at)
found-next version [] at = refl
found-next version (old ∷ versions) at =
    ap (λ d. cond {A = Option FilterVersion} (eqb d at) (Some (next version old)) (version_at (map (next version) versions) at))
    (next-dimension version old)
    ∙ by_test (eqb old.filter.dimension at) (found-next version versions at)
  where
    by_test : (t : Bool) → version_at (map (next version) versions) at ≡ option_map (next version) (version_at versions at)
        → cond {A = Option FilterVersion} t (Some (next version old)) (version_at (map (next version) versions) at)
        ≡ option_map (next version) (cond {A = Option FilterVersion} t (Some old) (version_at versions at))
    by_test true rest = refl
    by_test false rest = rest

-- the present version of a dimension is of it
of-dimension : (versions : List FilterVersion) (at : ℕ) (found : FilterVersion) → version_at versions at ≡ Some found
    → found.filter.dimension ≡ at
of-dimension versions at found is =
    eqb-true found.filter.dimension at (find-passes (λ (version : FilterVersion). eqb version.filter.dimension at) versions found is)

-- a filter has a next version, with a reference to it for each seat
pub spare-renewed : (parts now : CoreParts) (filters : Filters) (spares left : Spares) (version : FilterVersion) (dimension : ℕ)
    (references : List (Option Filter)) → parts ≡ now → version.filter.dimension ≡ dimension
    → references ≡ references_to now.settings.seats version → filters ≡ with_new version parts.filters
    → left ≡ set spares dimension references → AreSpare parts.settings.seats parts.filters.versions parts.flights spares
    → AreSpare parts.settings.seats filters.versions parts.flights left
spare-renewed parts now filters spares left version dimension references is own made filters_are left_is all =
    subst (λ (one : Filters). AreSpare seats one.versions parts.flights left) (sym filters_are)
    (subst (AreSpare seats (map (next version) parts.filters.versions) parts.flights) (sym left_is) (record {
      present = λ at found is. by_old at found (version_at parts.filters.versions at) refl
          (sym (found-next version parts.filters.versions at) ∙ is);
    }))
  where
    seats : ℕ
    seats = parts.settings.seats

    all_made : references ≡ replicate seats (Some version.filter)
    all_made = made ∙ ap (λ (p : CoreParts). references_to p.settings.seats version) (sym is)

    renewed : (at : ℕ) → at ≡ dimension → at < length spares → get_or (set spares dimension references) at [] ≡ references
    renewed at same low =
        ap (λ n. get_or (set spares n references) at []) (sym same) ∙ get_or-set_same spares at references [] low

    others : (at : ℕ) → at ≢ dimension → get_or (set spares dimension references) at [] ≡ get_or spares at []
    others at apart = get_or-set_other spares dimension at references [] apart

    hands : Hands
    hands = versions_held parts.flights

    goes : (at : ℕ) (found : FilterVersion) → at ≢ dimension → (seat : ℕ) → HasReference at found seat (hands seat) spares
        → HasReference at found seat (hands seat) (set spares dimension references)
    goes at found apart seat (inl kept) = inl (ap (λ (list : List (Option Filter)). get_or list seat None) (others at apart) ∙ kept)
    goes at found apart seat (inr held) = inr held

    by_test : (at : ℕ) (found before : FilterVersion) → before.filter.dimension ≡ at → IsSpare seats at before hands spares
        → (t : Bool) → eqb before.filter.dimension version.filter.dimension ≡ t → cond {A = FilterVersion} t version before ≡ found
        → IsSpare seats at found hands (set spares dimension references)
    by_test at found before has old true same turns =
        let here : at ≡ dimension =
        sym has ∙ eqb-true before.filter.dimension version.filter.dimension same ∙ own in
        let now_is = renewed at here old.listed ∙ all_made in
        record {
          listed = subst (λ n. at < n) (sym (length-set spares dimension references)) old.listed;
          many = ap (λ (list : List (Option Filter)). length list) now_is ∙ length-replicate seats (Some version.filter);
          each = λ seat low. inl (ap (λ (list : List (Option Filter)). get_or list seat None) now_is
              ∙ get_or-replicate seats seat (Some version.filter) None low ∙ ap (λ (v : FilterVersion). Some v.filter) turns);
        }
    by_test at found before has old false other turns =
        let apart : at ≢ dimension = λ here. false≢true (sym other
        ∙ eq-eqb before.filter.dimension version.filter.dimension (has ∙ here ∙ sym own)) in
        subst (λ v. IsSpare seats at v hands (set spares dimension references)) turns
        (spare-moved seats at before hands hands spares (set spares dimension references)
        (length-set spares dimension references) (ap (λ (list : List (Option Filter)). length list) (others at apart))
        (λ seat low. goes at before apart seat) old)

    by_old : (at : ℕ) (found : FilterVersion) (o : Option FilterVersion) → version_at parts.filters.versions at ≡ o
        → option_map (next version) o ≡ Some found → IsSpare seats at found hands (set spares dimension references)
    by_old at found None none some = absurd (none-some found some)
    by_old at found (Some before) was some =
        by_test at found before (of-dimension parts.filters.versions at before was) (all.present at before was)
        (eqb before.filter.dimension version.filter.dimension) refl (same_Some (next version before) found some)

-- in a seat's hand is no batch in the code where there is none in the state
pub none-held : (parts : CoreParts) (seat : ℕ) → held_by (state_of parts).scan.flights seat ≡ None → find (is_in_hand seat) parts.flights ≡ None
none-held parts seat none =
    no-image (find (is_in_hand seat) parts.flights)
    (sym (find-images (λ (flight : state.Flight). option_map_or (λ hand. eqb hand.worker seat) flight.hand false)
    (flight_as (known_in parts.asked) (reaches_in parts.lives.queries)) parts.flights) ∙ none)
  where
    no-image : (o : Option Flight) → option_map (flight_as (known_in parts.asked) (reaches_in parts.lives.queries)) o ≡ None → o ≡ None
    no-image None none = refl
    no-image (Some flight) some =
        absurd (none-some (flight_as (known_in parts.asked) (reaches_in parts.lives.queries) flight) (sym some))

-- the filter that a batch meets next has that version
next-present : (filters : Filters) (flight : Flight) (version : FilterVersion) → next_of filters flight.batch ≡ Some version
    → version_at filters.versions version.filter.dimension ≡ Some version
next-present filters flight version is =
    by_first (find (λ dimension. not (eqb (bit_at flight.batch.passed dimension) 1)) filters.order) is
  where
    by_first : (o : Option ℕ) → option_and_then (version_at filters.versions) o ≡ Some version
        → version_at filters.versions version.filter.dimension ≡ Some version
    by_first None none = absurd (none-some version none)
    by_first (Some dimension) found =
        ap (version_at filters.versions) (of-dimension filters.versions dimension version found) ∙ found

-- a version is the present one of its filter
abbrev IsPresentIn : List FilterVersion → FilterVersion → Type 0
IsPresentIn versions version = version_at versions version.filter.dimension ≡ Some version

-- what a batch has still to pass are present versions
left-present : (filters : Filters) (rows : Rows) → All (IsPresentIn filters.versions) (versions_left filters rows)
left-present filters rows = of_order filters.order
  where
    left : ℕ → Option FilterVersion
    left dimension = cond {A = Option FilterVersion} (eqb (bit_at rows.passed dimension) 1) None (version_at filters.versions dimension)

    one : (dimension : ℕ) (o : Option FilterVersion) → left dimension ≡ o → IfSome o (IsPresentIn filters.versions)
    one dimension None none = tt
    one dimension (Some version) is = by_test (eqb (bit_at rows.passed dimension) 1) is
      where
        by_test : (t : Bool) → cond {A = Option FilterVersion} t None (version_at filters.versions dimension) ≡ Some version
            → IsPresentIn filters.versions version
        by_test true none = absurd (none-some version none)
        by_test false found = ap (version_at filters.versions) (of-dimension filters.versions dimension version found) ∙ found

    behind : (o : Option FilterVersion) (rest : List FilterVersion) → IfSome o (IsPresentIn filters.versions)
        → All (IsPresentIn filters.versions) rest → All (IsPresentIn filters.versions) (cons_option o rest)
    behind None rest has all = all
    behind (Some version) rest has all = All-cons (IsPresentIn filters.versions) version rest has all

    of_order : (order : List ℕ) → All (IsPresentIn filters.versions) (filter_map left order)
    of_order [] = All-nil (IsPresentIn filters.versions)
    of_order (dimension ∷ order) =
        behind (left dimension) (filter_map left order) (one dimension (left dimension) refl) (of_order order)

-- the reference of a worker to a present version is kept where its hand is empty
spare-kept : (parts : CoreParts) (worker : ℕ) (version : FilterVersion) (spares : Spares) → worker < parts.settings.seats
    → held_by (state_of parts).scan.flights worker ≡ None → IsPresentIn parts.filters.versions version
    → AreSpare parts.settings.seats parts.filters.versions parts.flights spares
    → spare_at spares version.filter.dimension worker ≡ Some version.filter
spare-kept parts worker version spares low empty present all =
    by_place ((all.present version.filter.dimension version present).each worker low)
  where
    by_place : HasReference version.filter.dimension version worker (versions_held parts.flights worker) spares
        → spare_at spares version.filter.dimension worker ≡ Some version.filter
    by_place (inl kept) = kept
    by_place (inr held) = absurd (contains-none version
        (subst (λ list. Contains list version) (ap versions_of (none-held parts worker empty)) held))

-- the reference of a worker that may take a batch is kept
pub spare-waits : (parts now : CoreParts) (worker batch : ℕ) (flight : Flight) (version : FilterVersion) (spares : Spares) → parts ≡ now
    → IsCore parts → MayTake worker batch (state_of now) → next_of parts.filters flight.batch ≡ Some version
    → AreSpare parts.settings.seats parts.filters.versions parts.flights spares
    → spare_at spares version.filter.dimension worker ≡ Some version.filter
spare-waits parts now worker batch flight version spares is core may meets =
    spare-kept parts worker version spares (subst (λ n. worker < n) core.sound.seats.count here.seat) here.empty
    (next-present parts.filters flight version meets)
  where
    here : MayTake worker batch (state_of parts)
    here = subst (λ (p : CoreParts). MayTake worker batch (state_of p)) (sym is) may

-- so are those of one that may carry a batch, to all versions that it has still to pass
pub spares-wait : (parts now : CoreParts) (worker batch : ℕ) (rows : Rows) (spares : Spares) → parts ≡ now
    → IsCore parts → MayCarry worker batch (state_of now)
    → AreSpare parts.settings.seats parts.filters.versions parts.flights spares
    → All (λ (version : FilterVersion). spare_at spares version.filter.dimension worker ≡ Some version.filter)
    (versions_left parts.filters rows)
spares-wait parts now worker batch rows spares is core may all =
    All-weaker (IsPresentIn parts.filters.versions)
    (λ (version : FilterVersion). spare_at spares version.filter.dimension worker ≡ Some version.filter)
    (λ version present. spare-kept parts worker version spares (subst (λ n. worker < n) core.sound.seats.count here.seat) here.empty present all)
    (versions_left parts.filters rows) (left-present parts.filters rows)
  where
    here : MayCarry worker batch (state_of parts)
    here = subst (λ (p : CoreParts). MayCarry worker batch (state_of p)) (sym is) may

-- a batch that is taken is idle
pub idle-wanting : (parts now : CoreParts) (worker batch place : ℕ) (flight : Flight) → parts ≡ now → MayTake worker batch (state_of now)
    → position (has_number batch) parts.flights ≡ Some place → slice_get parts.flights place ≡ Some flight → flight.hand ≡ None
idle-wanting parts now worker batch place flight is may at there =
    (some-at (IsWanting parts.filters) (flight_at (state_of parts).scan.flights batch)
    (flight_as (known_in parts.asked) (reaches_in parts.lives.queries) flight) (found-there parts batch place flight at there)
    (subst (λ (p : CoreParts). MayTake worker batch (state_of p)) (sym is) may).wanting).idle

-- so is one that is carried
pub idle-carried : (parts now : CoreParts) (worker batch place : ℕ) (flight : Flight) → parts ≡ now → MayCarry worker batch (state_of now)
    → position (has_number batch) parts.flights ≡ Some place → slice_get parts.flights place ≡ Some flight → flight.hand ≡ None
idle-carried parts now worker batch place flight is may at there =
    some-at (λ (one : state.Flight). one.hand ≡ None) (flight_at (state_of parts).scan.flights batch)
    (flight_as (known_in parts.asked) (reaches_in parts.lives.queries) flight) (found-there parts batch place flight at there)
    (subst (λ (p : CoreParts). MayCarry worker batch (state_of p)) (sym is) may).idle

-- so is one that is distributed
pub idle-through : (parts now : CoreParts) (batch place : ℕ) (flight : Flight) → parts ≡ now → MayDistribute batch (state_of now)
    → position (has_number batch) parts.flights ≡ Some place → slice_get parts.flights place ≡ Some flight → flight.hand ≡ None
idle-through parts now batch place flight is may at there =
    (some-at (IsThrough parts.filters) (flight_at (state_of parts).scan.flights batch)
    (flight_as (known_in parts.asked) (reaches_in parts.lives.queries) flight) (found-there parts batch place flight at there)
    (subst (λ (p : CoreParts). MayDistribute batch (state_of p)) (sym is) may).through).idle

-- the reference of a worker to a present version that is in its hand may go
spare-out : (seats worker : ℕ) (versions : List FilterVersion) (hands : Hands) (version : FilterVersion) (spares : Spares)
    → IsPresentIn versions version → Contains (hands worker) version
    → AreSpareBy seats versions hands spares
    → AreSpareBy seats versions hands (with_spare version.filter.dimension worker None spares)
spare-out seats worker versions hands version spares present held all = record {
  present = λ at found is.
      let before = all.present at found is in
      spare-moved seats at found hands hands spares (with_spare dimension worker None spares)
      (length-set spares dimension (set (get_or spares dimension []) worker None))
      (places-stay dimension worker at None spares before.listed)
      (λ seat low. by_seat at found is before.listed seat (cases_eq seat worker)) before;
}
  where
    dimension : ℕ
    dimension = version.filter.dimension

    by_place : (at : ℕ) (found : FilterVersion) → version_at versions at ≡ Some found → at < length spares → (seat : ℕ)
        → seat ≡ worker → spare_at spares at seat ≡ Some found.filter → (at ≡ dimension) ⊎ (at ≢ dimension)
        → HasReference at found seat (hands seat) (with_spare dimension worker None spares)
    by_place at found is listed seat own kept (inl same) =
        inr (subst (λ n. Contains (hands n) found) (sym own)
        (subst (Contains (hands worker)) (same_Some version found (sym present ∙ ap (version_at versions) (sym same) ∙ is)) held))
    by_place at found is listed seat own kept (inr apart) =
        inl (spare-apart dimension worker at seat None spares listed (λ same. absurd (apart same)) ∙ kept)

    by_seat : (at : ℕ) (found : FilterVersion) → version_at versions at ≡ Some found → at < length spares → (seat : ℕ)
        → (seat ≡ worker) ⊎ (seat ≢ worker) → HasReference at found seat (hands seat) spares
        → HasReference at found seat (hands seat) (with_spare dimension worker None spares)
    by_seat at found is listed seat (inl own) (inl kept) = by_place at found is listed seat own kept (cases_eq at dimension)
    by_seat at found is listed seat (inl own) (inr has) = inr has
    by_seat at found is listed seat (inr other) (inl kept) =
        inl (spare-apart dimension worker at seat None spares listed (λ same. other) ∙ kept)
    by_seat at found is listed seat (inr other) (inr has) = inr has

-- so may those to all of these versions
spares-out : (seats worker : ℕ) (versions : List FilterVersion) (hands : Hands) (left : List FilterVersion) (spares : Spares)
    → All (IsPresentIn versions) left → All (Contains (hands worker)) left → AreSpareBy seats versions hands spares
    → AreSpareBy seats versions hands (with_all_taken worker left spares)
spares-out seats worker versions hands [] spares present held all = all
spares-out seats worker versions hands (version ∷ left) spares present held all =
    spares-out seats worker versions hands left (with_spare version.filter.dimension worker None spares)
    (All-tail (IsPresentIn versions) version left present)
    (All-tail (Contains (hands worker)) version left held)
    (spare-out seats worker versions hands version spares
    (All-head (IsPresentIn versions) version left present)
    (All-head (Contains (hands worker)) version left held) all)

-- a batch is taken by the references of the worker to present versions, which are in its hand now
spares-taken : (parts : CoreParts) (worker place : ℕ) (flight : Flight) (versions : List FilterVersion) (flights : List Flight)
    (spares left : Spares) → held_by (state_of parts).scan.flights worker ≡ None → flight.hand ≡ None
    → slice_get parts.flights place ≡ Some flight
    → All (IsPresentIn parts.filters.versions) versions
    → flights ≡ set parts.flights place (record flight { hand = Some (record { worker = worker; versions = versions }) })
    → left ≡ with_all_taken worker versions spares
    → AreSpare parts.settings.seats parts.filters.versions parts.flights spares
    → AreSpare parts.settings.seats parts.filters.versions flights left
spares-taken parts worker place flight versions flights spares left free idle there present flights_are left_is all =
    subst (λ list. AreSpare parts.settings.seats parts.filters.versions list left) (sym flights_are)
    (subst (AreSpare parts.settings.seats parts.filters.versions (set parts.flights place held)) (sym left_is)
    (spares-out parts.settings.seats worker parts.filters.versions (versions_held (set parts.flights place held)) versions spares present
    (subst (λ list. All (Contains list) versions) (sym in_hand) (All-contains_itself versions))
    (spare-more parts.settings.seats parts.filters.versions (versions_held parts.flights) (versions_held (set parts.flights place held))
    spares (λ seat version. more seat version (cases_eq seat worker)) all)))
  where
    held : Flight
    held = record flight { hand = Some (record { worker = worker; versions = versions }) }

    empty : find (is_in_hand worker) parts.flights ≡ None
    empty = none-held parts worker free

    in_hand : versions_held (set parts.flights place held) worker ≡ versions
    in_hand = ap versions_of
        (find-written (is_in_hand worker) parts.flights place flight held there empty (eq-eqb worker worker refl))

    stays : (seat : ℕ) → seat ≢ worker → versions_held (set parts.flights place held) seat ≡ versions_held parts.flights seat
    stays seat other = ap versions_of
        (find-set (is_in_hand seat) parts.flights place flight held there (not-held seat flight idle)
        (ne_eqb worker seat (λ same. other (sym same))))

    more : (seat : ℕ) (version : FilterVersion) → (seat ≡ worker) ⊎ (seat ≢ worker) → Contains (versions_held parts.flights seat) version
        → Contains (versions_held (set parts.flights place held) seat) version
    more seat version (inl own) has = absurd (contains-none version
        (subst (λ list. Contains list version) (ap (versions_held parts.flights) own ∙ ap versions_of empty) has))
    more seat version (inr other) has = subst (λ list. Contains list version) (sym (stays seat other)) has

-- of the version of the filter that it meets next
pub spare-taken : (parts now : CoreParts) (worker batch place : ℕ) (flight : Flight) (version : FilterVersion) (flights : List Flight)
    (spares left : Spares) → parts ≡ now → MayTake worker batch (state_of now)
    → position (has_number batch) parts.flights ≡ Some place → slice_get parts.flights place ≡ Some flight
    → next_of parts.filters flight.batch ≡ Some version
    → flights ≡ set parts.flights place (record flight { hand = Some (record { worker = worker; versions = version ∷ [] }) })
    → left ≡ with_spare version.filter.dimension worker None spares
    → AreSpare parts.settings.seats parts.filters.versions parts.flights spares
    → AreSpare parts.settings.seats parts.filters.versions flights left
spare-taken parts now worker batch place flight version flights spares left is may at there meets flights_are left_is =
    spares-taken parts worker place flight (version ∷ []) flights spares left
    (subst (λ (p : CoreParts). MayTake worker batch (state_of p)) (sym is) may).empty
    (idle-wanting parts now worker batch place flight is may at there) there
    (All-cons (IsPresentIn parts.filters.versions) version [] (next-present parts.filters flight version meets)
    (All-nil (IsPresentIn parts.filters.versions)))
    flights_are left_is

-- of those of all that it has still to pass
pub spare-carried : (parts now : CoreParts) (worker batch place : ℕ) (flight : Flight) (flights : List Flight)
    (spares left : Spares) → parts ≡ now → MayCarry worker batch (state_of now)
    → position (has_number batch) parts.flights ≡ Some place → slice_get parts.flights place ≡ Some flight
    → flights ≡ set parts.flights place
    (record flight { hand = Some (record { worker = worker; versions = versions_left parts.filters flight.batch }) })
    → left ≡ with_all_taken worker (versions_left parts.filters flight.batch) spares
    → AreSpare parts.settings.seats parts.filters.versions parts.flights spares
    → AreSpare parts.settings.seats parts.filters.versions flights left
spare-carried parts now worker batch place flight flights spares left is may at there =
    spares-taken parts worker place flight (versions_left parts.filters flight.batch) flights spares left
    (subst (λ (p : CoreParts). MayCarry worker batch (state_of p)) (sym is) may).empty
    (idle-carried parts now worker batch place flight is may at there) there (left-present parts.filters flight.batch)

-- a present version with the number of a version in a hand is that one
is-held : (versions : List FilterVersion) (held found : FilterVersion) → version_at versions held.filter.dimension ≡ Some found
    → is_present versions held ≡ true → IsPresentByNumber versions held → found ≡ held
is-held versions held found is present by_number =
    some-at (λ (version : FilterVersion). version.number ≡ held.number → version ≡ held) (version_at versions held.filter.dimension) found is
    by_number
    (eqb-true found.number held.number
    (sym (ap (λ o. option_map_or (λ (version : FilterVersion). eqb version.number held.number) o false) is) ∙ present))

-- a version that is present has a place for the reference of each seat
pub spare-place : (seats : ℕ) (versions : List FilterVersion) (flights : List Flight) (spares : Spares) (version : FilterVersion) (seat : ℕ)
    → seat < seats → AreSpare seats versions flights spares → is_present versions version ≡ true
    → HasPlace version.filter.dimension seat spares
spare-place seats versions flights spares version seat low all present = by_found (version_at versions version.filter.dimension) refl present
  where
    by_found : (o : Option FilterVersion) → version_at versions version.filter.dimension ≡ o
        → option_map_or (λ (one : FilterVersion). eqb one.number version.number) o false ≡ true
        → HasPlace version.filter.dimension seat spares
    by_found None none never = absurd (false≢true never)
    by_found (Some found) is same =
        let has = all.present version.filter.dimension found is in
        record { listed = has.listed; within = subst (λ n. seat < n) (sym has.many) low }

-- hands of which that of one worker has these versions
abbrev with_hand : (worker : ℕ) → List FilterVersion → Hands → (seat : ℕ) → List FilterVersion
with_hand worker versions hands seat = cond {A = List FilterVersion} (eqb seat worker) versions (hands seat)

own-hand : (worker : ℕ) (versions : List FilterVersion) (hands : Hands) (seat : ℕ) → seat ≡ worker
    → with_hand worker versions hands seat ≡ versions
own-hand worker versions hands seat own =
    ap (λ t. cond {A = List FilterVersion} t versions (hands seat)) (eq-eqb seat worker own)

other-hand : (worker : ℕ) (versions : List FilterVersion) (hands : Hands) (seat : ℕ) → seat ≢ worker
    → with_hand worker versions hands seat ≡ hands seat
other-hand worker versions hands seat other =
    ap (λ t. cond {A = List FilterVersion} t versions (hands seat)) (ne_eqb seat worker other)

-- the first version in the hand of a worker is given back: its reference is kept again where it is still the present one
spare-back : (seats worker : ℕ) (present : List FilterVersion) (hands : Hands) (version : FilterVersion) (rest : List FilterVersion)
    (spares : Spares) → IsPresentByNumber present version → AreSpareBy seats present (with_hand worker (version ∷ rest) hands) spares
    → AreSpareBy seats present (with_hand worker rest hands) (with_returned worker version (is_present present version) spares)
spare-back seats worker present hands version rest spares by_number all = returned (is_present present version) refl
  where
    dimension : ℕ
    dimension = version.filter.dimension

    table : Option Filter
    table = Some version.filter

    old : Hands
    old = with_hand worker (version ∷ rest) hands

    new : Hands
    new = with_hand worker rest hands

    other : (seat : ℕ) (found : FilterVersion) → seat ≢ worker → Contains (old seat) found → Contains (new seat) found
    other seat found apart = subst (λ list. Contains list found)
        (other-hand worker (version ∷ rest) hands seat apart ∙ sym (other-hand worker rest hands seat apart))

    mine : (seat : ℕ) (found : FilterVersion) → seat ≡ worker → Contains (old seat) found
        → (version ≡ found) ⊎ Contains (new seat) found
    mine seat found own has = ⊎_elim (λ same. inl same)
        (λ more. inr (subst (λ list. Contains list found) (sym (own-hand worker rest hands seat own)) more))
        (contains-cases version found rest
        (subst (λ list. Contains list found) (own-hand worker (version ∷ rest) hands seat own) has))

    put : (at : ℕ) (found : FilterVersion) → at ≡ dimension → found ≡ version → IsSpare seats at found old spares → (seat : ℕ)
        → seat < seats → seat ≡ worker → spare_at (with_spare dimension worker table spares) at seat ≡ Some found.filter
    put at found same is before seat low own =
        ap (λ n. spare_at (with_spare dimension worker table spares) n seat) same
        ∙ ap (spare_at (with_spare dimension worker table spares) dimension) own
        ∙ spare-put dimension worker table spares (record {
          listed = subst (λ n. n < length spares) same before.listed;
          within = subst (λ n. worker < length (get_or spares n [])) same
              (subst (λ n. worker < n) (sym before.many) (subst (λ n. n < seats) own low));
        })
        ∙ ap (λ (v : FilterVersion). Some v.filter) (sym is)

    of_it : (at : ℕ) (found : FilterVersion) → version_at present at ≡ Some found → version ≡ found → at ≡ dimension
    of_it at found is same = sym (of-dimension present at found is) ∙ ap (λ (v : FilterVersion). v.filter.dimension) (sym same)

    by_place : is_present present version ≡ true → (at : ℕ) (found : FilterVersion) → version_at present at ≡ Some found
        → IsSpare seats at found old spares → (seat : ℕ) → seat < seats → seat ≡ worker → spare_at spares at seat ≡ Some found.filter
        → (at ≡ dimension) ⊎ (at ≢ dimension)
        → HasReference at found seat (new seat) (with_spare dimension worker table spares)
    by_place is_now at found is before seat low own kept (inl same) =
        inl (put at found same
        (is-held present version found (ap (version_at present) (sym same) ∙ is) is_now by_number) before seat low own)
    by_place is_now at found is before seat low own kept (inr apart) =
        inl (spare-apart dimension worker at seat table spares before.listed (λ same. absurd (apart same)) ∙ kept)

    kept-again : is_present present version ≡ true → (at : ℕ) (found : FilterVersion) → version_at present at ≡ Some found
        → IsSpare seats at found old spares → (seat : ℕ) → seat < seats → (seat ≡ worker) ⊎ (seat ≢ worker)
        → HasReference at found seat (old seat) spares
        → HasReference at found seat (new seat) (with_spare dimension worker table spares)
    kept-again is_now at found is before seat low (inl own) (inl kept) =
        by_place is_now at found is before seat low own kept (cases_eq at dimension)
    kept-again is_now at found is before seat low (inl own) (inr has) =
        ⊎_elim (λ same. inl (put at found (of_it at found is same) (sym same) before seat low own)) (λ more. inr more)
        (mine seat found own has)
    kept-again is_now at found is before seat low (inr apart) (inl kept) =
        inl (spare-apart dimension worker at seat table spares before.listed (λ same. apart) ∙ kept)
    kept-again is_now at found is before seat low (inr apart) (inr has) = inr (other seat found apart has)

    let-go : is_present present version ≡ false → (at : ℕ) (found : FilterVersion) → version_at present at ≡ Some found
        → (seat : ℕ) → (seat ≡ worker) ⊎ (seat ≢ worker) → HasReference at found seat (old seat) spares
        → HasReference at found seat (new seat) spares
    let-go absent at found is seat (inl own) (inl kept) = inl kept
    let-go absent at found is seat (inl own) (inr has) =
        ⊎_elim (λ same. absurd (never same)) (λ more. inr more) (mine seat found own has)
      where
        never : version ≡ found → ⊥
        never same = false≢true (sym absent
            ∙ ap (λ o. option_map_or (λ (one : FilterVersion). eqb one.number version.number) o false)
            (ap (version_at present) (sym (of_it at found is same)) ∙ is)
            ∙ eq-eqb found.number version.number (ap (λ (v : FilterVersion). v.number) (sym same)))
    let-go absent at found is seat (inr apart) (inl kept) = inl kept
    let-go absent at found is seat (inr apart) (inr has) = inr (other seat found apart has)

    returned : (t : Bool) → is_present present version ≡ t → AreSpareBy seats present new (with_returned worker version t spares)
    returned true is_now = record {
      present = λ at found is.
          let before = all.present at found is in
          spare-moved seats at found old new spares (with_spare dimension worker table spares)
          (length-set spares dimension (set (get_or spares dimension []) worker table))
          (places-stay dimension worker at table spares before.listed)
          (λ seat low. kept-again is_now at found is before seat low (cases_eq seat worker)) before;
    }
    returned false absent = record {
      present = λ at found is.
          spare-moved seats at found old new spares spares refl refl
          (λ seat low. let-go absent at found is seat (cases_eq seat worker)) (all.present at found is);
    }

-- so are all of these, the last one first, while others stay in the hand
spares-back : (seats worker : ℕ) (present : List FilterVersion) (hands : Hands) (versions rest : List FilterVersion) (spares : Spares)
    → All (IsPresentByNumber present) versions → AreSpareBy seats present (with_hand worker (versions ++ rest) hands) spares
    → AreSpareBy seats present (with_hand worker rest hands) (with_all_returned worker present versions spares)
spares-back seats worker present hands [] rest spares by_number all = all
spares-back seats worker present hands (version ∷ versions) rest spares by_number all =
    spare-back seats worker present hands version rest (with_all_returned worker present versions spares)
    (All-head (IsPresentByNumber present) version versions by_number)
    (spares-back seats worker present hands versions (version ∷ rest) spares
    (All-tail (IsPresentByNumber present) version versions by_number)
    (spare-more seats present (with_hand worker (version ∷ (versions ++ rest)) hands) (with_hand worker (versions ++ version ∷ rest) hands)
    spares (λ seat found. more seat found (eqb seat worker)) all))
  where
    moved : (found : FilterVersion) → Contains (version ∷ (versions ++ rest)) found → Contains (versions ++ version ∷ rest) found
    moved found has = ⊎_elim
        (λ same. Contains-append_right versions (version ∷ rest) found
        (subst (Contains (version ∷ rest)) same (contains-first version rest)))
        (λ others. ⊎_elim (Contains-append_left versions (version ∷ rest) found)
        (λ behind. Contains-append_right versions (version ∷ rest) found (contains-more version found rest behind))
        (Contains-append_cases versions rest found others))
        (contains-cases version found (versions ++ rest) has)

    more : (seat : ℕ) (found : FilterVersion) (t : Bool)
        → Contains (cond {A = List FilterVersion} t (version ∷ (versions ++ rest)) (hands seat)) found
        → Contains (cond {A = List FilterVersion} t (versions ++ version ∷ rest) (hands seat)) found
    more seat found true has = moved found has
    more seat found false has = has

-- a batch is given back, and the references of the worker to versions that are still the present ones are kept again
pub spare-given : (seats worker place : ℕ) (old new : Filters) (flights given : List Flight) (flight : Flight) (hand : Hand)
    (versions : List FilterVersion) (spares left : Spares) → new.versions ≡ old.versions
    → find (is_in_hand worker) flights ≡ Some flight → slice_get flights place ≡ Some flight → flight.hand ≡ Some hand
    → hand.worker ≡ worker → versions ≡ hand.versions → All (IsPresentByNumber old.versions) hand.versions
    → given ≡ set flights place (passed_in hand flight)
    → left ≡ with_all_returned worker old.versions versions spares
    → AreSpare seats old.versions flights spares → AreSpare seats new.versions given left
spare-given seats worker place old new flights given flight hand versions spares left same_versions found_in there held own_hand versions_are
    by_number given_is left_is all =
    subst (λ list. AreSpare seats new.versions list left) (sym given_is)
    (subst (AreSpare seats new.versions (set flights place back))
    (sym (left_is ∙ ap (λ list. with_all_returned worker old.versions list spares) versions_are))
    (spare-with seats old new (set flights place back) (with_all_returned worker old.versions hand.versions spares) same_versions
    (spare-more seats old.versions (with_hand worker [] hands) (versions_held (set flights place back))
    (with_all_returned worker old.versions hand.versions spares) (λ seat version. more seat version (cases_eq seat worker))
    (spares-back seats worker old.versions hands hand.versions [] spares by_number
    (spare-held seats old.versions hands (with_hand worker (hand.versions ++ []) hands) spares
    (λ seat. was seat (cases_eq seat worker)) all)))))
  where
    hands : Hands
    hands = versions_held flights

    back : Flight
    back = passed_in hand flight

    here : hands worker ≡ hand.versions
    here = ap versions_of found_in ∙ ap versions_in held

    was : (seat : ℕ) → (seat ≡ worker) ⊎ (seat ≢ worker) → with_hand worker (hand.versions ++ []) hands seat ≡ hands seat
    was seat (inl own) = own-hand worker (hand.versions ++ []) hands seat own ∙ append-nil hand.versions ∙ sym here ∙ ap hands (sym own)
    was seat (inr other) = other-hand worker (hand.versions ++ []) hands seat other

    fails : (seat : ℕ) → seat ≢ worker → is_in_hand seat flight ≡ false
    fails seat other = ap (λ o. option_map_or (λ (h : Hand). eqb h.worker seat) o false) held
        ∙ ne_eqb hand.worker seat (λ same. other (sym same ∙ own_hand))

    more : (seat : ℕ) (version : FilterVersion) → (seat ≡ worker) ⊎ (seat ≢ worker) → Contains (with_hand worker [] hands seat) version
        → Contains (versions_held (set flights place back) seat) version
    more seat version (inl own) has =
        absurd (contains-none version (subst (λ list. Contains list version) (own-hand worker [] hands seat own) has))
    more seat version (inr other) has = subst (λ list. Contains list version)
        (other-hand worker [] hands seat other
        ∙ sym (ap versions_of (find-set (is_in_hand seat) flights place flight back there (fails seat other) refl))) has

-- the first version of the filter of a dimension
record IsFirst (at : ℕ) (found : FilterVersion) : Type 0 where
  below : at < 8
  table : found.filter ≡ (first_version at 0).filter

first-found : (dimensions : List ℕ) (number at : ℕ) (found : FilterVersion) → All (λ dimension. dimension < 8) dimensions
    → version_at (first_versions dimensions number) at ≡ Some found → IsFirst at found
first-found [] number at found all is = absurd (none-some found is)
first-found (dimension ∷ dimensions) number at found all is =
    by_test (eqb dimension at) refl is
    (first-found dimensions (number + 1) at found (All-tail (λ d. d < 8) dimension dimensions all))
  where
    by_test : (t : Bool) → eqb dimension at ≡ t
        → cond {A = Option FilterVersion} t (Some (first_version dimension number)) (version_at (first_versions dimensions (number + 1)) at)
        ≡ Some found
        → (version_at (first_versions dimensions (number + 1)) at ≡ Some found → IsFirst at found) → IsFirst at found
    by_test true same some rest =
        let own : dimension ≡ at = eqb-true dimension at same in
        record {
          below = subst (λ d. d < 8) own (All-head (λ d. d < 8) dimension dimensions all);
          table = sym (ap (λ (v : FilterVersion). v.filter) (same_Some (first_version dimension number) found some))
              ∙ ap (λ d. (first_version d 0).filter) own;
        }
    by_test false other some rest = rest some

-- the table of the first version at a place is that of its dimension
table-at : (dimensions : List ℕ) (number at : ℕ) (d : FilterVersion) → at < length dimensions
    → (get_or (first_versions dimensions number) at d).filter ≡ (first_version (get_or dimensions at 0) 0).filter
table-at [] number at d low = absurd (omega arith)
table-at (dimension ∷ dimensions) number zero d low = refl
table-at (dimension ∷ dimensions) number (suc at) d low = table-at dimensions (number + 1) at d (omega arith)

-- the references to the first versions of all dimensions
first-spares : (seats at : ℕ) → at < 8
    → get_or (first_spares seats (first_versions (range_with_len 0 8) 1)) at [] ≡ references_to seats (first_version at 0)
first-spares seats at low =
    get_or-map (references_to seats) (first_versions (range_with_len 0 8) 1) at (first_version at 0) [] many
    ∙ ap (λ filter. replicate seats (Some filter))
    (table-at (range_with_len 0 8) 1 at (first_version at 0) (omega (arith, length-range_with_len 0 8))
    ∙ ap (λ d. (first_version d 0).filter) here)
  where
    many : at < length (first_versions (range_with_len 0 8) 1)
    many = omega (arith, length-first (range_with_len 0 8) 1, length-range_with_len 0 8)

    here : get_or (range_with_len 0 8) at 0 ≡ at
    here = omega (arith, get_or-range_with_len 0 8 at 0 low)

-- the first filters, where a reference to each was made for each seat
spare-declared : (schema : Schema) (seats : ℕ) (filters : Filters) (flights : List Flight) (spares : Spares)
    → length schema.dimensions ≤ 8 → filters ≡ first_filters (filter_dimensions schema)
    → spares ≡ first_spares seats (first_filters (range_with_len 0 8)).versions → AreSpare seats filters.versions flights spares
spare-declared schema seats filters flights spares few filters_are made =
    subst (λ (one : Filters). AreSpare seats one.versions flights spares) (sym filters_are)
    (subst (AreSpare seats (first_versions (filter_dimensions schema) 1) flights) (sym made) (record { present = present }))
  where
    many : length (first_spares seats (first_versions (range_with_len 0 8) 1)) ≡ 8
    many = length-map (first_versions (range_with_len 0 8) 1) (references_to seats)
        ∙ length-first (range_with_len 0 8) 1 ∙ length-range_with_len 0 8

    present : (at : ℕ) (found : FilterVersion) → version_at (first_versions (filter_dimensions schema) 1) at ≡ Some found
        → IsSpare seats at found (versions_held flights) (first_spares seats (first_versions (range_with_len 0 8) 1))
    present at found is =
        let first : IsFirst at found =
        first-found (filter_dimensions schema) 1 at found (referenced_are_numbered schema few).members is in
        let here = first-spares seats at first.below in
        record {
          listed = subst (λ n. at < n) (sym many) first.below;
          many = ap (λ (list : List (Option Filter)). length list) here ∙ length-replicate seats (Some (first_version at 0).filter);
          each = λ seat low. inl (ap (λ (list : List (Option Filter)). get_or list seat None) here
              ∙ get_or-replicate seats seat (Some (first_version at 0).filter) None low ∙ ap (λ filter. Some filter) (sym first.table));
        }

-- before a fact table is declared there are no filters, and any references will do; once it is, they stay
pub spare-ready : (parts : CoreParts) (old new : Spares) → IsCore parts → (IsSome parts.tables.schema.fact → new ≡ old)
    → AreSpare parts.settings.seats parts.filters.versions parts.flights old
    → AreSpare parts.settings.seats parts.filters.versions parts.flights new
spare-ready parts old new core stay all = by_fact parts.tables.schema.fact refl stay
  where
    by_fact : (fact : Option TableDef) → parts.tables.schema.fact ≡ fact → (IsSome fact → new ≡ old)
        → AreSpare parts.settings.seats parts.filters.versions parts.flights new
    by_fact None none stay =
        spare-none parts.settings.seats parts.filters.versions parts.flights new
        (nil-by-map (λ (version : FilterVersion). version.filter.dimension) parts.filters.versions
        (core.sound.filters.dimensions
        ∙ no-filters (tables_of (state_of parts)).schema
        (ap (λ (store : Store). store.schema.fact) (sym core.tables.same) ∙ none)))
    by_fact (Some table) some stay =
        subst (AreSpare parts.settings.seats parts.filters.versions parts.flights) (sym (stay refl)) all

-- a change makes the first filters, or leaves them
pub spare-changed : (kind : ChangeKind) (parts : CoreParts) (tables : KeyedStore) (filters : Filters) (spares : Spares)
    → length tables.schema.dimensions ≤ 8
    → (with_filters_for kind (record parts { tables = tables })).filters ≡ filters
    → (kind ≡ DeclaresFact → spares ≡ first_spares parts.settings.seats (first_filters (range_with_len 0 8)).versions)
    → AreSpare parts.settings.seats parts.filters.versions parts.flights spares
    → AreSpare parts.settings.seats filters.versions parts.flights spares
spare-changed DeclaresFact parts tables filters spares few made first all =
    spare-declared tables.schema parts.settings.seats filters parts.flights spares few (sym made) (first refl)
spare-changed other parts tables filters spares few made first all =
    subst (λ (one : Filters). AreSpare parts.settings.seats one.versions parts.flights spares) made all
