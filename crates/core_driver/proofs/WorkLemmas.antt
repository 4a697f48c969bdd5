-- Each event that is taken by its kind leaves less work.
use Rattle.core_driver.proofs.Words.{◌+◌, ◌<◌, ◌∙◌, ◌≡◌, after_spoil, All, All-map, all_to_cut, ap, arith, Build, Clear, Cut, Distribute, Event, false, Finish, first_of, Flight, flight_at, fold, inl, inr, IsDriven, IsManaged, IsSome, IsSound, IsStill, kind_of, length, Lives, lives_by, None, Option, refl, Release, Reserve, ScanState, Some, Spoils, Start, State, steps_to_free, subst, sum_by, sym, tables_of, Took, true, versions_in, without_flight, work_in, ℕ, ⊎_elim}
use Rattle.std.proofs.lemmas.List.Elements.{All-contains}
use Rattle.core_state.specs.Events.{after_event}
use Rattle.core_state.specs.State.{FilterVersion}
use Rattle.core_state.specs.Tables.{filter_dimensions}
use Rattle.core_state.proofs.DistributeLemmas.{length-landed}
use Rattle.core_state.proofs.WholeLivesLemmas.{slots-spoiled}
use Rattle.core_driver.proofs.PassedLemmas.{work_by}
use Rattle.core_driver.proofs.TakenLemmas.{Distributes, LeavesBatches, distributes, still-leaves, taken-lives}
use Rattle.core_driver.proofs.WorkCutLemmas.{work-cut}
use Rattle.core_driver.proofs.WorkLifeLemmas.{no-more-spoiled, steps_in}
use Rattle.core_driver.proofs.WorkLivesLemmas.{HaveLess, less-built, less-cleared, less-ended, less-released, less-reserved, less-spoiled, less-started}
use Rattle.core_driver.proofs.WorkNumberLemmas.{work-falls}
use Rattle.core_driver.proofs.WorkSlotLemmas.{FiltersAreBelow}

-- each filter is of one of eight dimensions
pub filters-below : (state : State) → IsSound state → FiltersAreBelow 8 state.lives
filters-below state sound dimension has =
    All-contains (λ d. d < 8) (filter_dimensions (tables_of state).schema) dimension
    (subst (All (λ d. d < 8)) sound.filters.dimensions
    (All-map (λ d. d < 8) (λ (version : FilterVersion). version.filter.dimension) state.filters.versions
    (λ place d low. (sound.filters.each place d low).table.numbered)))
    ((sound.filters.set dimension).0 has)

-- fewer steps leave less work
fewer-steps : (old new : State) → LeavesBatches old new → HaveLess old.lives new.lives → work_in new < work_in old
fewer-steps old new left less =
    let falls = work-falls (all_to_cut old.lives.queries) (all_to_cut new.lives.queries) (length (tables_of old).versions) old.scan.position
    (steps_in old.lives.queries) (sum_by steps_to_free old.lives.slots) (length old.scan.flights)
    (steps_in new.lives.queries) (sum_by steps_to_free new.lives.slots) (length old.scan.flights) less.cut (let steps = less.steps in omega arith) in
    let same : work_in new ≡ work_by new.lives old.entries old.scan.position (length old.scan.flights) =
    ap (λ (scan : ScanState). work_by new.lives new.entries scan.position (length scan.flights)) left.scan
    ∙ ap (λ entries. work_by new.lives entries old.scan.position (length old.scan.flights)) left.entries in
    subst (λ work. work < work_in old) (sym same) falls

-- an event that moves no batch leaves less work where it leaves fewer steps
work-stepped : (event : Event) (old new : State) → IsStill event → IsDriven event → Took event old new
    → HaveLess old.lives (lives_by event old) → ((now : Lives) → Spoils event old.lives now → HaveLess old.lives now)
    → work_in new < work_in old
work-stepped event old new still driven took less spoilt =
    fewer-steps old new (still-leaves event old new still took) (⊎_elim
    (λ done. subst (HaveLess old.lives) (sym done) less)
    (λ spoils. spoilt new.lives spoils)
    (taken-lives event old new driven took))

-- a batch less is in flight once it is distributed
fewer-flights : (batch : ℕ) (state : State) → IsSound state → IsSome (flight_at state.scan.flights batch)
    → length state.scan.flights ≡ length (without_flight batch state.scan.flights) + 1
fewer-flights batch state sound there = by_flight (flight_at state.scan.flights batch) refl there
  where
    by_flight : (o : Option Flight) → flight_at state.scan.flights batch ≡ o → IsSome o
        → length state.scan.flights ≡ length (without_flight batch state.scan.flights) + 1
    by_flight None is some = absurd (let both : false ≡ true = some in cc)
    by_flight (Some landed) is some = length-landed batch landed state.scan.flights is sound.numbers.apart

-- a distribution leaves less work
work-distributed : (batch : ℕ) (old new : State) → IsSound old → Took (Distribute batch) old new → work_in new < work_in old
work-distributed batch old new sound took =
    let after : Distributes batch old new = distributes batch old new took in
    let spoils : Lives = fold (λ now query. after_spoil query now) old.lives after.spoiled in
    let no_more = no-more-spoiled after.spoiled old.lives in
    let slots : sum_by steps_to_free spoils.slots ≡ sum_by steps_to_free old.lives.slots =
    ap (sum_by steps_to_free) (slots-spoiled after.spoiled old.lives) in
    let flights = fewer-flights batch old sound took.enabled.there in
    let falls = work-falls (all_to_cut old.lives.queries) (all_to_cut spoils.queries) (length (tables_of old).versions) old.scan.position
    (steps_in old.lives.queries) (sum_by steps_to_free old.lives.slots) (length old.scan.flights)
    (steps_in spoils.queries) (sum_by steps_to_free spoils.slots) (length (without_flight batch old.scan.flights))
    no_more.cut (let steps = no_more.steps in omega arith) in
    let same : work_in new ≡ work_by spoils old.entries old.scan.position (length (without_flight batch old.scan.flights)) =
    ap (λ (scan : ScanState). work_by new.lives new.entries scan.position (length scan.flights)) after.scan
    ∙ ap (λ entries. work_by new.lives entries old.scan.position (length (without_flight batch old.scan.flights))) after.entries
    ∙ ap (λ lives. work_by lives old.entries old.scan.position (length (without_flight batch old.scan.flights))) after.lives in
    subst (λ work. work < work_in old) (sym same) falls

-- a cut
work-cut-taken : (old new : State) → IsSound old → Took Cut old new → work_in new < work_in old
unfolding after_event
work-cut-taken old new sound took = ⊎_elim
    (λ done. subst (λ state. work_in state < work_in old) (sym done) (work-cut old took.enabled sound))
    (λ never. absurd never)
    took.after

-- each event of a managed kind leaves less work
pub work-taken : (event : Event) (old new : State) → IsSound old → IsManaged (kind_of event) → Took event old new
    → work_in new < work_in old
work-taken (Reserve query slot) old new sound is took =
    work-stepped (Reserve query slot) old new tt (inl tt) took
    (less-reserved slot query old.lives sound.slots.lives took.enabled.oldest took.enabled.there took.enabled.is_free) (λ now never. absurd never)
work-taken (Build query dimension) old new sound is took =
    work-stepped (Build query dimension) old new tt (inl tt) took
    (less-built query dimension old.lives sound.slots.lives (filters-below old sound) took.enabled)
    (λ now spoils. subst (HaveLess old.lives) (sym spoils) (less-spoiled query old.lives sound.slots.lives took.enabled.building))
work-taken (Start query) old new sound is took =
    work-stepped (Start query) old new tt (inl tt) took
    (less-started query (first_of old.scan.position (versions_in old)) old.lives sound.slots.lives took.enabled) (λ now never. absurd never)
work-taken Cut old new sound is took = work-cut-taken old new sound took
work-taken (Distribute batch) old new sound is took = work-distributed batch old new sound took
work-taken (Finish slot) old new sound is took =
    work-stepped (Finish slot) old new tt (inr tt) took (less-ended slot old.lives took.enabled.over) (λ now never. absurd never)
work-taken (Clear slot dimension) old new sound is took =
    work-stepped (Clear slot dimension) old new tt (inr tt) took
    (less-cleared slot dimension old.lives sound.slots.lives (filters-below old sound) took.enabled) (λ now never. absurd never)
work-taken (Release slot) old new sound is took =
    work-stepped (Release slot) old new tt (inr tt) took (less-released slot old.lives took.enabled) (λ now never. absurd never)
work-taken other old new sound is took = absurd is
