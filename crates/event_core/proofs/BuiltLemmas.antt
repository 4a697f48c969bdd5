-- A filter of a core is built for a query.
use Rattle.bit_words.specs.declared.slots.TheConstants.{MAX_SLOTS}
use Rattle.event_core.proofs.Words.{◌∙◌, Accepted, accepted_as, accepted_at, after_build, All, ap, arith, asked_at, AskedQuery, Becomes, Build, built, CanAdd, CanBuild, CanSpoil, changes_of, CoreParts, Filter, filter_with, FilterVersion, find-holds, FitByKinds, Has, Held, holds-slot, is_begun, IsCore, IsSome, IsSoundQuery, IsTrue, kinds_in, last_after, Lives, next_number, Numbers, option_map_or, query_of, rows_in, Selection, selection_fits, selection_in, slot_at, slot_of, slot_of-begun, State, state_of, Store, subst, sym, tables_of, version_at, versions_in_hands, with_new, with_slot}
use Rattle.std.specs.Prelude.{◌≡◌, ℕ, ◌<◌, ◌≤◌, false, eqb, length, Option, Some, option_map, refl}
use Rattle.pipeline_manager.specs.Changes.{after_built, with_dimension}
use Rattle.pipeline_manager.specs.declared.life.Life.TheVariants as life
use Rattle.pipeline_manager.proofs.CallLemmas.{holder-with_dimension}
use Rattle.pipeline_manager.proofs.HolderLemmas.{built_of-holder}
use Rattle.core_state.specs.Admitting.{with_version}
use Rattle.core_state.specs.Events.{after_event}
use Rattle.core_state.specs.Flown.{FitsSlot, IsClearOf}
use Rattle.core_state.proofs.GivenLemmas.{Settles}
use Rattle.event_core.proofs.AskedFoundLemmas.{accepted-found, asked-there}
use Rattle.event_core.proofs.HeldSlotLemmas.{attached_for-written}
use Rattle.event_core.proofs.LivedLemmas.{IsSeenAs, QuietEventsLeave, becomes-lived, state_lived}
use Rattle.event_core.proofs.NextVersionLemmas.{IsPresent, has-few, has-present, is-present, with-next}
use Rattle.event_core.proofs.RowsFitLemmas.{rows-fit}

-- a query that is built has begun
begun : (lives : Lives) (query dimension : ℕ) → CanBuild query dimension lives → CanSpoil query lives
begun lives query dimension can = ap (λ o. option_map_or is_begun o false) can.building

-- it holds a slot, and was accepted, and the filter is there
pub build-there : (parts : CoreParts) (query dimension : ℕ) → IsCore parts → CanBuild query dimension parts.lives
    → (dimension < 8) × IsSome (slot_of parts.lives query) × IsSome (version_at parts.filters.versions dimension)
    × IsSome (asked_at parts.asked query)
build-there parts query dimension core can =
    let present = has-present (state_of parts) dimension core.sound can.filters in (
      has-few (state_of parts) dimension core.sound can.filters,
      slot_of-begun parts.lives query core.sound.slots.lives (begun parts.lives query dimension can),
      subst IsSome (sym present.1.found) refl,
      asked-there parts query life.Building core can.building,
    )

-- the accepted query as the state has it
accepted-at : (parts : CoreParts) (query : ℕ) (asked : AskedQuery) → asked_at parts.asked query ≡ Some asked
    → accepted_at (state_of parts).accepted query ≡ Some (accepted_as parts.lives parts.attached asked)
accepted-at parts query asked found =
    accepted-found parts.lives parts.attached parts.asked query ∙ ap (option_map (accepted_as parts.lives parts.attached)) found

-- what it takes of a dimension may be asked of the rows
build-fits : Settles → FitByKinds → (parts : CoreParts) (query dimension : ℕ) (asked : AskedQuery) → IsCore parts
    → asked_at parts.asked query ≡ Some asked
    → All (λ entry. IsTrue (selection_fits (kinds_in entry.row) (selection_in (query_of asked.query) dimension)))
    (rows_in parts.tables.dimensions dimension)
build-fits settles fit parts query dimension asked core found =
    subst (λ (store : Store). All (λ entry. IsTrue (selection_fits (kinds_in entry.row) (selection_in (query_of asked.query) dimension)))
    (rows_in store.dimensions dimension)) (sym core.tables.same)
    (rows-fit fit (tables_of (state_of parts)) (query_of asked.query) dimension
    (settles (changes_of (state_of parts).entries) core.sound.store) of_query.over)
  where
    of_query : IsSoundQuery (state_of parts) (accepted_as parts.lives parts.attached asked)
    of_query = find-holds (IsSoundQuery (state_of parts)) (λ accepted. eqb accepted.number query) (state_of parts).accepted
        (accepted_as parts.lives parts.attached asked) (accepted-at parts query asked found) core.sound.queries.each

-- the query may be added in its slot
pub build-may : Settles → FitByKinds → (parts : CoreParts) (query dimension slot : ℕ) (asked : AskedQuery) (old : FilterVersion)
    → IsCore parts → CanBuild query dimension parts.lives → slot_of parts.lives query ≡ Some slot
    → asked_at parts.asked query ≡ Some asked → version_at parts.filters.versions dimension ≡ Some old
    → CanAdd slot (selection_in (query_of asked.query) dimension) (rows_in parts.tables.dimensions dimension) old.filter
build-may settles fit parts query dimension slot asked old core can place found version = record {
  few = let most = few in let low = held.1 in omega arith;
  clear_complement = clear.others;
  clear = clear.rows;
  within = λ key stored. subst (λ (store : Store). key < length (rows_in store.dimensions dimension)) (sym core.tables.same)
      (subst (λ n. key < length (rows_in (tables_of (state_of parts)).dimensions n)) present.dimension (present.sound.within key stored));
  fits = build-fits settles fit parts query dimension asked core found;
}
  where
    few : length parts.lives.slots ≤ MAX_SLOTS
    few = core.sound.slots.lives.few

    held : (built : ℕ) × (slot < length parts.lives.slots) × (slot_at parts.lives slot ≡ Held query built)
    held = holds-slot parts.lives query slot place

    present : IsPresent (state_of parts) dimension old
    present = is-present (state_of parts) dimension old core.sound version

    not_built : ¬ (Has held.0 old.filter.dimension)
    not_built = λ has. can.not_built (subst (λ set. Has set dimension)
        (sym (built_of-holder parts.lives slot query held.0 core.sound.slots.lives held.1 held.2))
        (subst (Has held.0) present.dimension has))

    clear : IsClearOf old.filter slot
    clear = (subst (FitsSlot (state_of parts).accepted (tables_of (state_of parts)) old.filter slot) held.2 (present.sound.slots slot held.1)).1 not_built

-- the same is attached for each query
seen-built : (parts : CoreParts) (query dimension slot : ℕ) → slot_of parts.lives query ≡ Some slot
    → IsSeenAs parts.lives (after_built query dimension parts.lives) parts.attached
seen-built parts query dimension slot place =
    subst (λ o. IsSeenAs parts.lives
    (option_map_or (λ slot. with_slot slot (with_dimension dimension (slot_at parts.lives slot)) parts.lives) o parts.lives) parts.attached)
    (sym place) (record {
      attached = λ other. attached_for-written parts.lives parts.attached slot other (with_dimension dimension (slot_at parts.lives slot))
          (holder-with_dimension dimension (slot_at parts.lives slot) other);
      reaches = refl;
    })

-- the state with the next version
state-built : (parts : CoreParts) (query dimension slot : ℕ) (asked : AskedQuery) (old version : FilterVersion) → IsCore parts
    → slot_of parts.lives query ≡ Some slot → asked_at parts.asked query ≡ Some asked
    → version_at parts.filters.versions dimension ≡ Some old
    → version.number ≡ next_number parts.numbers.version (versions_in_hands (state_of parts).scan.flights)
    → version.filter ≡ filter_with slot (selection_in (query_of asked.query) dimension) (rows_in parts.tables.dimensions dimension) old.filter
    → state_lived (after_built query dimension parts.lives) (with_new version parts.filters)
    (record parts.numbers { version = last_after parts.numbers.version }) (state_of parts)
    ≡ after_build query dimension (state_of parts)
state-built parts query dimension slot asked old version core place found present numbered changed =
    ap (λ filters. state_lived lives filters next state)
    (with-next state dimension (next_number parts.numbers.version (versions_in_hands state.scan.flights)) old version change core.sound
    (is-present state dimension old core.sound present) numbered
    (changed ∙ ap (λ (store : Store). filter_with slot selection (rows_in store.dimensions dimension) old.filter) core.tables.same) refl)
    ∙ sym (ap (λ o. after o (accepted_at state.accepted query)) place ∙ ap (after (Some slot)) (accepted-at parts query asked found))
  where
    state : State
    state = state_of parts

    lives : Lives
    lives = after_built query dimension parts.lives

    next : Numbers
    next = record parts.numbers { version = last_after parts.numbers.version }

    selection : Selection
    selection = selection_in (query_of asked.query) dimension

    change : Filter → Filter
    change = filter_with slot selection (rows_in (tables_of state).dimensions dimension)

    after : Option ℕ → Option Accepted → State
    after o a = record (option_map_or (λ slot. option_map_or
        (λ (accepted : Accepted). with_version dimension
        (filter_with slot (selection_in accepted.query dimension) (rows_in (tables_of state).dimensions dimension)) state)
        a state) o state) { lives = lives }

-- the parts where a filter is built for a query
pub becomes-built : QuietEventsLeave → (parts : CoreParts) (query dimension slot : ℕ) (asked : AskedQuery) (old version : FilterVersion)
    → IsCore parts → CanBuild query dimension parts.lives → slot_of parts.lives query ≡ Some slot
    → asked_at parts.asked query ≡ Some asked → version_at parts.filters.versions dimension ≡ Some old
    → version.number ≡ next_number parts.numbers.version (versions_in_hands (state_of parts).scan.flights)
    → version.filter ≡ filter_with slot (selection_in (query_of asked.query) dimension) (rows_in parts.tables.dimensions dimension) old.filter
    → Becomes (built query dimension version parts) (after_build query dimension (state_of parts))
unfolding after_event
becomes-built quiet parts query dimension slot asked old version core can place found present numbered changed =
    becomes-lived quiet parts (Build query dimension) (after_build query dimension (state_of parts)) (after_built query dimension parts.lives)
    (with_new version parts.filters) numbers core can tt tt refl (seen-built parts query dimension slot place)
    (state-built parts query dimension slot asked old version core place found present numbered changed)
  where
    numbers : Numbers
    numbers = record parts.numbers { version = last_after parts.numbers.version }
