-- A filter that is built for a query keeps a core sound.
use Rattle.core_state.proofs.Words.{◌<◌, ◌↔◌, ◌∙◌, ◌≡◌, ◌≤◌, [], Accepted, accepted_at, after_build, ap, built_of-holder, CanBuild, DimensionRow, Encodes, false, filter, Filter, filter_with, FitsSlot, Free, gets_rows, Has, Has-with, Held, IfSome, inl, inr, is_begun, IsClearOf, IsSound, IsSoundFilter, IsTrue, length, life_in, List, MayBeOnRoster, None, Option, option_map_or, Query, refl, rows_in, Selection, selection_in, slice_get, slot_at, slot_of, slot_of-begun, SlotState, Some, State, subst, sym, tables_of, takes, vector_of, with_dimension, with_number, with_slot, with_version, ℕ, ⊎_elim}
use Rattle.std.proofs.lemmas.Option.{slice_get_within}
use Rattle.dimension_filter.proofs.AddLemmas.{added-ascends, added-encoded, added-others, added-sound, added-stored}
use Rattle.dimension_filter.proofs.SlotLemmas.{complement-here, complement-other}
use Rattle.pipeline_manager.specs.Sound as managed
use Rattle.pipeline_manager.specs.declared.life.Life.TheVariants as life
use Rattle.pipeline_manager.proofs.LawLemmas.{sound-after_built}
use Rattle.core_state.proofs.AcceptedLemmas.{holder-accepted}
use Rattle.core_state.proofs.CutRosterLemmas.{holds-slot}
use Rattle.core_state.proofs.FoundLemmas.{some-at, some-of}
use Rattle.core_state.proofs.VersionLemmas.{IsNextVersion, Versions, sound-versioned}

-- a filter with a query in a slot that was clear has the query there
built-encodes : (filter : Filter) (slot : ℕ) (query : Query) (snapshot : ℕ) (rows : List DimensionRow) → IsClearOf filter slot
    → Encodes (filter_with slot (selection_in query filter.dimension) rows filter) slot query snapshot rows
built-encodes filter slot query snapshot rows clear = record {
  taken = λ key. by_row key (slice_get rows key) refl;
  others = complement-here filter.complement slot selection clear.others;
}
  where
    selection : Selection
    selection = selection_in query filter.dimension

    by_row : (key : ℕ) (o : Option DimensionRow) → slice_get rows key ≡ o
        → IfSome o (λ entry. entry.commit ≤ snapshot → Has (vector_of (filter_with slot selection rows filter) key) slot ↔ IsTrue (takes selection entry.row))
    by_row key None is = tt
    by_row key (Some entry) is = λ came.
        subst (λ row. Has (vector_of (filter_with slot selection rows filter) key) slot ↔ IsTrue (takes selection row))
        (ap (λ o. option_map_or (λ e. e.row) o []) is)
        (added-encoded filter slot selection rows key (slice_get_within rows key entry is) (clear.rows key))

-- the filter with the query
built-next : (state : State) (slot query built : ℕ) (accepted : Accepted) (filter : Filter) → slot < length state.lives.slots
    → slot_at state.lives slot ≡ Held query built → accepted_at state.accepted query ≡ Some accepted → ¬ (Has built filter.dimension)
    → IsSoundFilter state.accepted (tables_of state) state.lives.slots state.lives.filters filter
    → IsNextVersion state slot (Held query (with_number built filter.dimension)) filter
    (filter_with slot (selection_in accepted.query filter.dimension) (rows_in (tables_of state).dimensions filter.dimension) filter)
built-next state slot query built accepted filter there holds is not_built old =
    let selection = selection_in accepted.query filter.dimension in
    let rows = rows_in (tables_of state).dimensions filter.dimension in
    let clear : IsClearOf filter slot = (subst (FitsSlot state.accepted (tables_of state) filter slot) holds (old.slots slot there)).1 not_built in
    record {
      table = added-sound filter slot selection rows old.table;
      ascending = added-ascends filter slot selection rows;
      beside = record {
        dimension = refl;
        vectors = λ key other apart. added-others filter slot selection rows old.within key other apart;
        complement = λ other apart. complement-other filter.complement slot selection other apart;
      };
      fits = (
        λ has. subst (λ o. IfSome o (λ found. Encodes (filter_with slot selection rows filter) slot found.query found.snapshot rows)) (sym is)
            (built-encodes filter slot accepted.query accepted.snapshot rows clear),
        λ none. absurd (none ((Has-with built filter.dimension filter.dimension).1 (inr refl))),
      );
      within = added-stored filter slot selection rows;
    }

sound-with_built : (query dimension slot built : ℕ) (accepted : Accepted) (state : State) → CanBuild query dimension state.lives → IsSound state
    → slot < length state.lives.slots → slot_of state.lives query ≡ Some slot
    → slot_at state.lives slot ≡ Held query built → accepted_at state.accepted query ≡ Some accepted
    → IsSound (record (with_version dimension (filter_with slot (selection_in accepted.query dimension) (rows_in (tables_of state).dimensions dimension)) state) {
      lives = with_slot slot (Held query (with_number built dimension)) state.lives;
    })
sound-with_built query dimension slot built accepted state can sound there at holds is =
    let now : SlotState = Held query (with_number built dimension) in
    let not_built : ¬ (Has built dimension) = (λ has. can.not_built
    (subst (λ set. Has set dimension) (sym (built_of-holder state.lives slot query built sound.slots.lives there holds)) has)) in
    let change : Filter → Filter = filter_with slot (selection_in accepted.query dimension) (rows_in (tables_of state).dimensions dimension) in
    let gives : Versions state slot dimension now change = record {
      there = there;
      used = λ free. let both : Held query built ≡ Free = sym holds ∙ free in cc;
      off = λ entry on same.
          let both : Held entry.number on.held.0 ≡ Held query built =
          sym on.held.1 ∙ subst (λ s. slot_at state.lives s ≡ Held query built) (sym same) holds in
          let number : query ≡ entry.number = cc in
          some-at MayBeOnRoster (life_in state.lives.queries entry.number) life.Building
          (subst (λ n. life_in state.lives.queries n ≡ Some life.Building) number can.building) on.life;
      built = λ holder more held.
          let number : query ≡ holder = cc in
          subst (λ o. IfSome o (λ now. IsTrue (gets_rows now) → (other : ℕ) → Has state.lives.filters other → Has more other))
          (sym (subst (λ n. life_in state.lives.queries n ≡ Some life.Building) number can.building)) (λ gets other has. cc);
      lives = subst (λ s. managed.AreSoundLives (with_slot slot (with_dimension dimension s) state.lives)) holds
          (subst (λ o. managed.AreSoundLives (option_map_or (λ s. with_slot s (with_dimension dimension (slot_at state.lives s)) state.lives) o state.lives)) at
          (sound-after_built Has-with query dimension state.lives can sound.slots.lives));
      keeps = λ filter. refl;
      next = λ filter old same.
          subst (λ d. IsNextVersion state slot (Held query (with_number built d)) filter
          (filter_with slot (selection_in accepted.query d) (rows_in (tables_of state).dimensions d) filter)) same
          (built-next state slot query built accepted filter there holds is (λ has. not_built (subst (Has built) same has)) old);
      others = λ filter old apart.
          let fits : FitsSlot state.accepted (tables_of state) filter slot (Held query built) = subst (FitsSlot state.accepted (tables_of state) filter slot) holds (old.slots slot there) in (
            λ has. fits.0 (⊎_elim (λ h. h) (λ same. absurd (apart same)) ((Has-with built dimension filter.dimension).0 has)),
            λ none. fits.1 (λ has. none ((Has-with built dimension filter.dimension).1 (inl has))),
          );
    } in
    sound-versioned state slot dimension now change gives sound

pub sound-after_build : (query dimension : ℕ) (state : State) → CanBuild query dimension state.lives → IsSound state
    → IsSound (after_build query dimension state)
sound-after_build query dimension state can sound =
    let place = some-of (slot_of state.lives query)
    (slot_of-begun state.lives query sound.slots.lives (ap (λ o. option_map_or is_begun o false) can.building)) in
    let slot : ℕ = place.0 in
    let held = holds-slot state.lives query slot place.1 in
    let asked = holder-accepted state slot query held.0 sound held.1 held.2 in
    subst (λ o. IsSound (After o (accepted_at state.accepted query))) (sym place.1)
    (subst (λ a. IsSound (After (Some slot) a)) (sym asked.1)
    (subst (λ s. IsSound (record (with_version dimension
    (filter_with slot (selection_in asked.0.query dimension) (rows_in (tables_of state).dimensions dimension)) state) {
      lives = with_slot slot (with_dimension dimension s) state.lives;
    })) (sym held.2) (sound-with_built query dimension slot held.0 asked.0 state can sound held.1 place.1 held.2 asked.1)))
  where
    After : Option ℕ → Option Accepted → State
    After o a = record (option_map_or (λ slot. option_map_or
        (λ accepted. with_version dimension (filter_with slot (selection_in accepted.query dimension) (rows_in (tables_of state).dimensions dimension)) state)
        a state) o state) {
          lives = option_map_or (λ slot. with_slot slot (with_dimension dimension (slot_at state.lives slot)) state.lives) o state.lives;
        }
