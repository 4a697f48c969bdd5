-- A core in which a filter has a next version, and a slot another state.
use Rattle.core_state.proofs.Words.{◌++◌, ◌+◌, ◌<◌, ◌↔◌, ◌∙◌, ◌∷◌, ◌≡◌, ◌≢◌, ◌≤◌, [], accepted_at, All, All-append, All-cons, All-contains, All-head, All-map, All-nil, All-tail, ap, AreSoundVersions, arith, Bool, Clearing, cond, Contains-append_right, Contains-get_or, DimensionRow, Encodes, eqb, eqb-false, eqb-true, false, Filter, Filters, FilterVersion, FitsSlot, Flight, Free, get_or, gets_rows, Hand, Has, Held, IfSome, IfSome_then, IsClearOf, IsOnRoster, IsPermutation, IsPresentByNumber, IsSound, IsSoundFilter, IsTrue, last_after, last_number, length, length-map, length-set, life_in, List, map, next_number, None, OnRoster, Option, option_map, Query, refl, rows_in, selection_in, set, slice_get, slot_at, SlotState, Some, State, subst, sym, tables_of, takes, true, vector_of, version_at, versions_in_hands, ℕ}
use Rattle.dimension_filter.specs.Filter as table
use Rattle.dimension_filter.specs.Filter.{AreAscending, is_stored}
use Rattle.pipeline_manager.specs.Sound as managed
use Rattle.query_meaning.proofs.LoadedLemmas.{all_front}
use Rattle.core_parts.specs.InFlight.{numbers_in_hand}
use Rattle.core_state.proofs.CutNumberLemmas.{next-apart, next-given, still-given}
use Rattle.core_state.proofs.FoundLemmas.{both-some}
use Rattle.core_state.proofs.FrameLemmas.{at-set, filter-with}
use Rattle.core_state.proofs.HeldLemmas.{entry-set, fits-set}
use Rattle.core_state.proofs.MovedLemmas.{Holds, held_now, sound-held}

-- the next version of a filter of this dimension
abbrev pub versioned : (dimension number : ℕ) → (Filter → Filter) → FilterVersion → FilterVersion
versioned dimension number change version = cond {A = FilterVersion} (eqb version.filter.dimension dimension)
    (record { number = number; filter = change version.filter }) version

-- a filter with the same slots but one
pub record IsBeside (slot : ℕ) (before after : Filter) : Type 0 where
  pub dimension : after.dimension ≡ before.dimension
  pub vectors : (key other : ℕ) → other ≢ slot → Has (vector_of after key) other ↔ Has (vector_of before key) other
  pub complement : (other : ℕ) → other ≢ slot → Has after.complement other ↔ Has before.complement other

clear-beside : (slot other : ℕ) (before after : Filter) → IsBeside slot before after → other ≢ slot → IsClearOf before other → IsClearOf after other
clear-beside slot other before after beside apart clear = record {
  rows = λ key has. clear.rows key ((beside.vectors key other apart).0 has);
  others = λ has. clear.others ((beside.complement other apart).0 has);
}

encodes-beside : (slot other : ℕ) (before after : Filter) (state : State) (query : Query) (snapshot : ℕ) → IsBeside slot before after → other ≢ slot
    → Encodes before other query snapshot (rows_in (tables_of state).dimensions before.dimension)
    → Encodes after other query snapshot (rows_in (tables_of state).dimensions after.dimension)
encodes-beside slot other before after state query snapshot beside apart old =
    subst (λ dimension. Encodes (record after { dimension = dimension }) other query snapshot (rows_in (tables_of state).dimensions dimension))
    (sym beside.dimension) here
  where
    Says : Filter → (key : ℕ) → DimensionRow → Type 0
    Says filter key entry = entry.commit ≤ snapshot → Has (vector_of filter key) other ↔ IsTrue (takes (selection_in query before.dimension) entry.row)

    by_row : (key : ℕ) (o : Option DimensionRow) → IfSome o (Says before key) → IfSome o (Says after key)
    by_row key None says = tt
    by_row key (Some entry) says = λ came.
        ((λ has. (says came).0 ((beside.vectors key other apart).0 has)), (λ takes. (beside.vectors key other apart).1 ((says came).1 takes)))

    here : Encodes (record after { dimension = before.dimension }) other query snapshot (rows_in (tables_of state).dimensions before.dimension)
    here = record {
      taken = λ key. by_row key (slice_get (rows_in (tables_of state).dimensions before.dimension) key) (old.taken key);
      others = ((λ has. old.others.0 ((beside.complement other apart).0 has)), (λ unnamed. (beside.complement other apart).1 (old.others.1 unnamed)));
    }

-- what a slot has in a filter it has in one that differs in another slot
fits-beside : (state : State) (slot other : ℕ) (before after : Filter) → IsBeside slot before after → other ≢ slot → (now : SlotState)
    → FitsSlot state.accepted (tables_of state) before other now → FitsSlot state.accepted (tables_of state) after other now
fits-beside state slot other before after beside apart Free fits = clear-beside slot other before after beside apart fits
fits-beside state slot other before after beside apart (Held query built) fits = (
  λ has. IfSome_then (accepted_at state.accepted query) (fits.0 (subst (Has built) beside.dimension has))
      (λ accepted. encodes-beside slot other before after state accepted.query accepted.snapshot beside apart),
  λ none. clear-beside slot other before after beside apart (fits.1 (λ has. none (subst (Has built) (sym beside.dimension) has))),
)
fits-beside state slot other before after beside apart (Clearing left) fits = λ none.
    clear-beside slot other before after beside apart (fits (λ has. none (subst (Has left) (sym beside.dimension) has)))

-- what the next version of a filter has to give
pub record IsNextVersion (state : State) (slot : ℕ) (now : SlotState) (before after : Filter) : Type 0 where
  pub table : table.IsFilterTable after
  pub ascending : AreAscending after.stored
  pub beside : IsBeside slot before after
  pub fits : FitsSlot state.accepted (tables_of state) after slot now
  pub within : (key : ℕ) → IsTrue (is_stored after key) → key < length (rows_in (tables_of state).dimensions before.dimension)

next-sound : (state : State) (slot : ℕ) (now : SlotState) (before after : Filter) → slot < length state.lives.slots
    → IsNextVersion state slot now before after → IsSoundFilter state.accepted (tables_of state) state.lives.slots state.lives.filters before
    → IsSoundFilter state.accepted (tables_of state) (set state.lives.slots slot now) state.lives.filters after
next-sound state slot now before after there next old = record {
  table = next.table;
  ascending = next.ascending;
  is_filter = subst (Has state.lives.filters) (sym next.beside.dimension) old.is_filter;
  slots = λ other low.
      let inside : other < length state.lives.slots = subst (λ n. other < n) (length-set state.lives.slots slot now) low in
      at-set (FitsSlot state.accepted (tables_of state) after other) state.lives.slots slot other now Free inside
      (λ same. subst (λ at. FitsSlot state.accepted (tables_of state) after at now) (sym same) next.fits)
      (λ apart. fits-beside state slot other before after next.beside apart (slot_at state.lives other) (old.slots other inside));
  beyond = λ other past.
      let outside : length state.lives.slots ≤ other = subst (λ n. n ≤ other) (length-set state.lives.slots slot now) past in
      clear-beside slot other before after next.beside (λ same. absurd (omega arith)) (old.beyond other outside);
  within = λ key stored. subst (λ d. key < length (rows_in (tables_of state).dimensions d)) (sym next.beside.dimension) (next.within key stored);
}

-- what the change of a slot and of a filter has to give
pub record Versions (state : State) (slot dimension : ℕ) (now : SlotState) (change : Filter → Filter) : Type 0 where
  pub there : slot < length state.lives.slots
  pub used : slot_at state.lives slot ≢ Free
  pub off : (entry : OnRoster) → IsOnRoster state.lives state.accepted entry → entry.slot ≢ slot
  pub built : (holder built : ℕ) → now ≡ Held holder built → IfSome (life_in state.lives.queries holder)
      (λ life. IsTrue (gets_rows life) → (other : ℕ) → Has state.lives.filters other → Has built other)
  pub lives : managed.AreSoundLives (record state.lives { slots = set state.lives.slots slot now })
  pub keeps : (filter : Filter) → (change filter).dimension ≡ filter.dimension
  pub next : (filter : Filter) → IsSoundFilter state.accepted (tables_of state) state.lives.slots state.lives.filters filter → filter.dimension ≡ dimension → IsNextVersion state slot now filter (change filter)
  pub others : (filter : Filter) → IsSoundFilter state.accepted (tables_of state) state.lives.slots state.lives.filters filter → filter.dimension ≢ dimension → FitsSlot state.accepted (tables_of state) filter slot now

-- what holds of a version whether it is the next one or not
by-version : (P : FilterVersion → Type 0) (dimension number : ℕ) (change : Filter → Filter) (version : FilterVersion)
    → P (record { number = number; filter = change version.filter }) → P version → P (versioned dimension number change version)
by-version P dimension number change version next other = by_test (eqb version.filter.dimension dimension)
  where
    by_test : (t : Bool) → P (cond {A = FilterVersion} t (record { number = number; filter = change version.filter }) version)
    by_test true = next
    by_test false = other

same-dimension : (dimension number : ℕ) (change : Filter → Filter) → ((filter : Filter) → (change filter).dimension ≡ filter.dimension)
    → (version : FilterVersion) → (versioned dimension number change version).filter.dimension ≡ version.filter.dimension
same-dimension dimension number change keeps version =
    by-version (λ v. v.filter.dimension ≡ version.filter.dimension) dimension number change version (keeps version.filter) refl

same-dimensions : (dimension number : ℕ) (change : Filter → Filter) → ((filter : Filter) → (change filter).dimension ≡ filter.dimension)
    → (versions : List FilterVersion)
    → map (λ version. version.filter.dimension) (map (versioned dimension number change) versions) ≡ map (λ version. version.filter.dimension) versions
same-dimensions dimension number change keeps [] = refl
same-dimensions dimension number change keeps (version ∷ versions) =
    ap (λ d. d ∷ map (λ v. v.filter.dimension) (map (versioned dimension number change) versions)) (same-dimension dimension number change keeps version)
    ∙ ap (λ rest. version.filter.dimension ∷ rest) (same-dimensions dimension number change keeps versions)

-- the present version of a dimension is the next one where that is of this dimension
found-versioned : (dimension number : ℕ) (change : Filter → Filter) → ((filter : Filter) → (change filter).dimension ≡ filter.dimension)
    → (versions : List FilterVersion) (at : ℕ)
    → version_at (map (versioned dimension number change) versions) at ≡ option_map (versioned dimension number change) (version_at versions at)
found-versioned dimension number change keeps [] at = refl
found-versioned dimension number change keeps (version ∷ versions) at =
    ap (λ d. cond {A = Option FilterVersion} (eqb d at) (Some (versioned dimension number change version))
    (version_at (map (versioned dimension number change) versions) at)) (same-dimension dimension number change keeps version)
    ∙ by_test (eqb version.filter.dimension at) (found-versioned dimension number change keeps versions at)
  where
    by_test : (t : Bool)
        → version_at (map (versioned dimension number change) versions) at ≡ option_map (versioned dimension number change) (version_at versions at)
        → cond {A = Option FilterVersion} t (Some (versioned dimension number change version)) (version_at (map (versioned dimension number change) versions) at)
        ≡ option_map (versioned dimension number change) (cond {A = Option FilterVersion} t (Some version) (version_at versions at))
    by_test true rest = refl
    by_test false rest = rest

-- what holds of the number of each version in a hand holds of all these numbers
all-numbers : (P : ℕ → Type 0) (versions : List FilterVersion) → All P (map (λ version. version.number) versions)
    → All (λ version. P version.number) versions
all-numbers P [] all = All-nil (λ (version : FilterVersion). P version.number)
all-numbers P (version ∷ versions) all =
    All-cons (λ (v : FilterVersion). P v.number) version versions (All-head P version.number (map (λ v. v.number) versions) all)
    (all-numbers P versions (All-tail P version.number (map (λ v. v.number) versions) all))

numbers-in_hand : (P : ℕ → Type 0) (hand : Option Hand)
    → IfSome hand (λ held. All (λ version. P version.number) held.versions) ↔ All P (numbers_in_hand hand)
numbers-in_hand P None = (λ h. All-nil P, λ all. tt)
numbers-in_hand P (Some hand) =
    (λ each. All-map P (λ (version : FilterVersion). version.number) hand.versions each, all-numbers P hand.versions)

numbers-in_hands : (P : ℕ → Type 0) (flights : List Flight)
    → All (λ flight. IfSome flight.hand (λ hand. All (λ version. P version.number) hand.versions)) flights
    ↔ All P (versions_in_hands flights)
numbers-in_hands P [] =
    (λ all. All-nil P, λ all. All-nil (λ (flight : Flight). IfSome flight.hand (λ hand. All (λ version. P version.number) hand.versions)))
numbers-in_hands P (flight ∷ flights) =
    let first = numbers-in_hand P flight.hand in
    let rest = numbers-in_hands P flights in (
      λ all. All-append P (numbers_in_hand flight.hand) (versions_in_hands flights)
          (first.0 (All-head InHand flight flights all)) (rest.0 (All-tail InHand flight flights all)),
      λ all. All-cons InHand flight flights (first.1 (all_front P (numbers_in_hand flight.hand) (versions_in_hands flights) all))
          (rest.1 (λ k d low. All-contains P (numbers_in_hand flight.hand ++ versions_in_hands flights) (get_or (versions_in_hands flights) k d) all
          (Contains-append_right (numbers_in_hand flight.hand) (versions_in_hands flights) (get_or (versions_in_hands flights) k d)
          (Contains-get_or (versions_in_hands flights) k d low)))),
    )
  where
    InHand : Flight → Type 0
    InHand f = IfSome f.hand (λ hand. All (λ version. P version.number) hand.versions)

-- the next version has a number that no hand has
versions-next : (last dimension : ℕ) (change : Filter → Filter) → ((filter : Filter) → (change filter).dimension ≡ filter.dimension)
    → (versions : List FilterVersion) (flights : List Flight) → AreSoundVersions last versions flights
    → AreSoundVersions (last_after last) (map (versioned dimension (next_number last (versions_in_hands flights)) change) versions) flights
versions-next last dimension change keeps versions flights old = record {
  given = λ more.
      let above = still-given last last_number more in
      let next = next-given last (versions_in_hands flights) above.0 in
      subst (λ n. All (λ (v : FilterVersion). v.number ≤ n) (map (versioned dimension number change) versions)) (sym above.1)
      (All-map (λ (v : FilterVersion). v.number ≤ last + 1) (versioned dimension number change) versions
      (λ k d low. let below = old.given above.0 k d low in
      by-version (λ v. v.number ≤ last + 1) dimension number change (get_or versions k d)
      (subst (λ n. n ≤ last + 1) (sym next) (omega arith)) (omega arith)));
  held = λ more.
      let above = still-given last last_number more in
      subst (λ n. All (λ (flight : Flight). IfSome flight.hand (λ hand. All (λ version. version.number ≤ n) hand.versions)) flights) (sym above.1)
      (λ k d low. IfSome_then (get_or flights k d).hand (old.held above.0 k d low)
      (λ hand below i e within. let under = below i e within in omega arith));
  present = λ k d low. both-some (λ hand. All (λ version. version.number ≢ number) hand.versions)
      (λ hand. All (IsPresentByNumber versions) hand.versions)
      (λ hand. All (IsPresentByNumber (map (versioned dimension number change) versions)) hand.versions)
      (get_or flights k d).hand
      (λ hand others all i e within. present (get_or hand.versions i e) (others i e within) (all i e within)) (apart k d low) (old.present k d low);
}
  where
    number : ℕ
    number = next_number last (versions_in_hands flights)

    apart : All (λ flight. IfSome flight.hand (λ hand. All (λ version. version.number ≢ number) hand.versions)) flights
    apart = (numbers-in_hands (λ n. n ≢ number) flights).1
        (next-apart last (versions_in_hands flights) (λ more. (numbers-in_hands (λ n. n ≤ last) flights).0 (old.held more)))

    present : (held : FilterVersion) → held.number ≢ number → IsPresentByNumber versions held
        → IsPresentByNumber (map (versioned dimension number change) versions) held
    present held other is =
        subst (λ o. IfSome o (λ version. version.number ≡ held.number → version ≡ held))
        (sym (found-versioned dimension number change keeps versions held.filter.dimension)) (by_found (version_at versions held.filter.dimension) is)
      where
        by_found : (o : Option FilterVersion) → IfSome o (λ version. version.number ≡ held.number → version ≡ held)
            → IfSome (option_map (versioned dimension number change) o) (λ version. version.number ≡ held.number → version ≡ held)
        by_found None h = tt
        by_found (Some version) h =
            by-version (λ v. v.number ≡ held.number → v ≡ held) dimension number change version (λ same. absurd (other (sym same))) h

pub sound-versioned : (state : State) (slot dimension : ℕ) (now : SlotState) (change : Filter → Filter)
    → Versions state slot dimension now change → IsSound state
    → IsSound (held_now state state.lives.queries (set state.lives.slots slot now)
    (record state.filters {
      versions = map (versioned dimension (next_number state.numbers.version (versions_in_hands state.scan.flights)) change) state.filters.versions;
    }) (last_after state.numbers.version))
sound-versioned state slot dimension now change gives sound =
    let dimensions = same-dimensions dimension number change gives.keeps state.filters.versions in
    let holds : Holds state state.lives.queries slots filters version = record {
      filters_now = record {
        each = All-map (λ v. IsSoundFilter state.accepted (tables_of state) slots state.lives.filters v.filter) (versioned dimension number change) state.filters.versions
            (λ k d low. each (get_or state.filters.versions k d) (sound.filters.each k d low));
        dimensions = dimensions ∙ sound.filters.dimensions;
        set = sound.filters.set;
      };
      rosters = λ k d low j e within.
          let on = (sound.batches k d low).roster j e within in
          let entry = get_or (get_or state.scan.flights k d).roster j e in
          entry-set state state.lives.queries slot now entry (gives.off entry on) (λ held. held, refl) on;
      queries_now = record { same = sound.queries.same; each = sound.queries.each };
      slots_now = record {
        lives = gives.lives;
        count = length-set state.lives.slots slot now ∙ sound.slots.count;
        built = λ other holder built low.
            let inside : other < length state.lives.slots = subst (λ n. other < n) (length-set state.lives.slots slot now) low in
            at-set (λ s. s ≡ Held holder built → IfSome (life_in state.lives.queries holder)
            (λ life. IsTrue (gets_rows life) → (d : ℕ) → Has state.lives.filters d → Has built d)) state.lives.slots slot other now Free inside
            (λ same. gives.built holder built) (λ apart. sound.slots.built other holder built inside);
      };
      quiet = λ none. absurd (gives.used ((sound.quiet none).2 slot Free gives.there));
      versions = versions-next state.numbers.version dimension change gives.keeps state.filters.versions state.scan.flights sound.numbers.versions;
      unnumbered = λ none. absurd (gives.used ((sound.quiet none).2 slot Free gives.there));
      order = record {
        tallies = sound.order.tallies;
        count = sound.order.count ∙ sym (length-map state.filters.versions (versioned dimension number change));
        order = subst (λ list. IsPermutation list state.filters.order) (sym dimensions) sound.order.order;
      };
      wanted = λ query. (λ h. h, λ h. h, λ h. h);
    } in
    sound-held state state.lives.queries slots filters version holds sound
  where
    number : ℕ
    number = next_number state.numbers.version (versions_in_hands state.scan.flights)

    version : ℕ
    version = last_after state.numbers.version

    slots : List SlotState
    slots = set state.lives.slots slot now

    filters : Filters
    filters = record state.filters { versions = map (versioned dimension number change) state.filters.versions }

    each : (v : FilterVersion) → IsSoundFilter state.accepted (tables_of state) state.lives.slots state.lives.filters v.filter
        → IsSoundFilter state.accepted (tables_of state) slots state.lives.filters (versioned dimension number change v).filter
    each v old = by_test (eqb v.filter.dimension dimension) refl
      where
        by_test : (t : Bool) → eqb v.filter.dimension dimension ≡ t
            → IsSoundFilter state.accepted (tables_of state) slots state.lives.filters
            (cond {A = FilterVersion} t (record { number = number; filter = change v.filter }) v).filter
        by_test true is = next-sound state slot now v.filter (change v.filter) gives.there
            (gives.next v.filter old (eqb-true v.filter.dimension dimension is)) old
        by_test false is = filter-with state.accepted state.accepted (tables_of state) state.lives.slots slots state.lives.filters v.filter
            (length-set state.lives.slots slot now)
            (λ other low fits. fits-set state slot now v.filter other (gives.others v.filter old (eqb-false v.filter.dimension dimension is)) low fits) old
