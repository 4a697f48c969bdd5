-- A query that begins its lap keeps a core sound.
use Rattle.core_state.proofs.Words.{◌++◌, ◌-◌, ◌<◌, ◌∙◌, ◌∷◌, ◌≡◌, ◌≢◌, ◌≤◌, ◌⊎◌, [], Accepted, after_start, All, All-contains, All-head, All-tail, ap, AreSoundBatches, arith, Bool, built_of-holder, CanRun, cases_eq, cond, Contains, Contains-get_or, drop, eqb, eqb-true, extent_in, false, filter, first_cases, first_of, flat_map, Flight, get_or, gets_rows, grouped_of, Has, Held, IfSome, inl, inr, IsKept, IsOnRoster, IsPermutation, IsPermutation-refl, IsSound, IsTrue, kept, lap, lap_start, length, length-lap, Life, life_in, life_in-other, List, MayBeOnRoster, nat_lt, ne_eqb, next_below, next_cases, None, OnRoster, option_map_or, place_cases, place_in_lap, positions_for, Query, range_with_len, refl, slot_at, Some, start_cases, started, State, still_to_come, subst, sym, tables_of, true, versions_in, with_life, ℕ, ⊎_elim}
use Rattle.std.proofs.Common.{find}
use Rattle.star_plan.specs.Joined.{kept_of}
use Rattle.continuous_scan.proofs.LapLemmas.{lap-permutation}
use Rattle.pipeline_manager.specs.Lives.{built_of}
use Rattle.pipeline_manager.specs.declared.life.Life.TheVariants as life
use Rattle.pipeline_manager.proofs.CallLemmas.{sound-after_run}
use Rattle.core_state.proofs.FoundLemmas.{extents-written, life-written, some-at}
use Rattle.core_state.proofs.CutLifeLemmas.{started-by}
use Rattle.core_state.proofs.CutFoundLemmas.{none-found}
use Rattle.core_state.proofs.HeldLemmas.{filters-held}
use Rattle.core_state.proofs.MovedLemmas.{Holds, sound-held}
use Rattle.core_state.proofs.WrittenLemmas.{queries-written, wanted-written}

-- a query that is on no roster has no positions in flight
pub none-in-flight : (number extent : ℕ) (flights : List Flight)
    → All (λ flight. find (λ entry. eqb entry.number number) flight.roster ≡ None) flights
    → flat_map (positions_for number extent) flights ≡ []
none-in-flight number extent [] none = refl
none-in-flight number extent (flight ∷ flights) none =
    ap (λ o. option_map_or (λ entry. filter (λ position. nat_lt position extent) (range_with_len flight.rows.first flight.rows.count)) o []
    ++ flat_map (positions_for number extent) flights)
    (All-head (λ f. find (λ entry. eqb entry.number number) f.roster ≡ None) flight flights none)
    ∙ none-in-flight number extent flights (All-tail (λ f. find (λ entry. eqb entry.number number) f.roster ≡ None) flight flights none)

-- a query that no entry of a roster has is not found there
pub on-none : (query : ℕ) (roster : List OnRoster) → ((entry : OnRoster) → Contains roster entry → entry.number ≢ query)
    → find (λ entry. eqb entry.number query) roster ≡ None
on-none query roster never = none-found (λ entry. eqb entry.number query) roster
    (λ k d low. ne_eqb (get_or roster k d).number query (never (get_or roster k d) (Contains-get_or roster k d low)))

-- a query whose life is on no roster is on none
pub none-on-roster : (state : State) (query : ℕ) (now : Life) → life_in state.lives.queries query ≡ Some now → (MayBeOnRoster now → ⊥)
    → AreSoundBatches state → All (λ flight. find (λ entry. eqb entry.number query) flight.roster ≡ None) state.scan.flights
none-on-roster state query now was never batches = λ k d low.
    let roster : List OnRoster = (get_or state.scan.flights k d).roster in
    on-none query roster (λ entry there same. never (some-at MayBeOnRoster (life_in state.lives.queries entry.number) now
    (subst (λ n. life_in state.lives.queries n ≡ Some now) (sym same) was)
    (All-contains (IsOnRoster state.lives state.accepted) roster entry (batches k d low).roster there).life))

-- the first position that the scan meets is the first of the lap
first-is-next : (position versions extent : ℕ) → extent ≤ versions
    → place_in_lap (lap_start (first_of position versions) extent) extent (next_below position extent) ≡ 0
first-is-next position versions extent within =
    ⊎_elim
    (λ behind. ap (λ start. place_in_lap (lap_start start extent) extent (next_below position extent)) behind.1 ∙ from_zero behind.0)
    (λ inside. ap (λ start. place_in_lap (lap_start start extent) extent (next_below position extent)) inside.1 ∙ here position)
    (first_cases position versions)
  where
    at_zero : (first next : ℕ) → first ≡ 0 → next ≡ 0 → place_in_lap first extent next ≡ 0
    at_zero first next is zero_next = ap (λ f. place_in_lap f extent next) is ∙ ap (λ n. place_in_lap 0 extent n) zero_next

    from_zero : position ≡ versions → place_in_lap (lap_start 0 extent) extent (next_below position extent) ≡ 0
    from_zero behind = at_zero (lap_start 0 extent) (next_below position extent)
        (⊎_elim (λ c. c.1) (λ c. c.1) (start_cases 0 extent))
        (⊎_elim (λ c. let low = c.0 in absurd (omega arith)) (λ c. c.1) (next_cases position extent))

    itself : (first : ℕ) → place_in_lap first extent first ≡ 0
    itself first = ⊎_elim (λ c. let low = c.0 in absurd (omega arith)) (λ c. let is = c.1 in omega arith) (place_cases first extent first)

    here : (at : ℕ) → place_in_lap (lap_start at extent) extent (next_below at extent) ≡ 0
    here at = itself (lap_start at extent)

-- of no rows none are kept
kept_of-nil : (query : Query) → kept_of query [] ≡ []
unfolding kept_of
kept_of-nil query = refl

-- nothing is folded of a query that begins its lap
kept-started : (state : State) (query : ℕ) → life_in state.lives.queries query ≡ Some life.Building → IsSound state
    → (accepted : Accepted) (extent : ℕ) → accepted.number ≡ query → extent ≤ versions_in state
    → IsKept (tables_of state) state.seats state.scan accepted extent life.Building
    → IsKept (tables_of state) state.seats state.scan accepted extent (started (first_of state.scan.position (versions_in state)) extent)
kept-started state query was sound accepted extent same within kept = by_test (eqb extent 0) refl
  where
    none : flat_map (positions_for accepted.number extent) state.scan.flights ≡ []
    none = none-in-flight accepted.number extent state.scan.flights
        (none-on-roster state accepted.number life.Building (subst (λ n. life_in state.lives.queries n ≡ Some life.Building) (sym same) was) (λ never. never) sound.batches)

    start : ℕ
    start = first_of state.scan.position (versions_in state)

    left_all : (positions : List ℕ) → length positions ≡ extent → still_to_come extent positions ≡ positions
    left_all positions long = ap (λ n. drop n positions) (let zero_left : length positions - extent ≡ 0 = omega arith in zero_left)

    by_test : (t : Bool) → eqb extent 0 ≡ t → IsKept (tables_of state) state.seats state.scan accepted extent (cond {A = Life} t life.Ending (life.Running start extent))
    by_test true is = record {
      folded = [];
      each_once =
          let zero_extent : extent ≡ 0 = eqb-true extent 0 is in
          subst (λ positions. IsPermutation (positions ++ []) (range_with_len 0 extent)) (sym none)
          (subst (λ n. IsPermutation [] (range_with_len 0 n)) (sym zero_extent) (IsPermutation-refl []));
      next = tt;
      groups = kept ∙ ap (λ rows. Some (grouped_of accepted.query rows)) (sym (kept_of-nil accepted.query));
    }
    by_test false is = record {
      folded = [];
      each_once =
          subst (λ positions. IsPermutation (positions ++ still_to_come extent (lap start extent)) (range_with_len 0 extent)) (sym none)
          (subst (λ positions. IsPermutation positions (range_with_len 0 extent)) (sym (left_all (lap start extent) (length-lap start extent))) (lap-permutation start extent));
      next = let first = first-is-next state.scan.position (versions_in state) extent within in omega arith;
      groups = kept ∙ ap (λ rows. Some (grouped_of accepted.query rows)) (sym (kept_of-nil accepted.query));
    }

pub sound-started : (query : ℕ) (state : State) → CanRun query state.lives → IsSound state → IsSound (after_start query state)
sound-started query state can sound =
    let start = first_of state.scan.position (versions_in state) in
    let new = started start (extent_in state.lives.queries query) in
    let queries = with_life query new state.lives.queries in
    let now : Holds state queries state.lives.slots state.filters state.numbers.version = record {
      filters_now = filters-held state queries state.lives.slots state.numbers.version state.filters.order refl
          (λ filter of_filter slot low fits. fits) sound.filters;
      rosters = λ k d low j e within.
          let flight = get_or state.scan.flights k d in
          let entry = (sound.batches k d low).roster j e within in
          record {
            there = entry.there;
            held = entry.held;
            life = life-written MayBeOnRoster query life.Building new state.lives.queries (get_or flight.roster j e).number can.building
                (λ never. absurd never) entry.life;
            same = entry.same;
            extent = extents-written query new state.lives.queries (get_or flight.roster j e).number ∙ entry.extent;
          };
      queries_now = queries-written state query life.Building new state.lives.slots state.filters state.numbers.version can.building
          (λ accepted extent same found was.
          let is : extent_in state.lives.queries query ≡ extent = ap (λ o. option_map_or (λ entry. entry.extent) o 0) found in
          subst (λ n. IsKept (tables_of state) state.seats state.scan accepted extent (started start n)) (sym is)
          (kept-started state query can.building sound accepted extent same was.2 was.0)) (λ wanted. refl) sound.queries;
      slots_now = record {
        lives = sound-after_run query start state.lives can.building sound.slots.lives;
        count = sound.slots.count;
        built = λ slot holder built low held. by_holder new slot holder built low held (cases_eq holder query);
      };
      quiet = λ none. (sound.quiet none).2;
      versions = sound.numbers.versions;
      unnumbered = sound.numbers.unnumbered;
      order = sound.order;
      wanted = wanted-written state query life.Building new can.building
          (λ is. cc) (started-by (λ now. now ≢ life.Abandoned) start (extent_in state.lives.queries query) (λ is. cc) (λ is. cc))
          (λ h. absurd (⊎_elim (λ is. cc) (λ is. cc) h));
    } in
    sound-held state queries state.lives.slots state.filters state.numbers.version now sound
  where
    Built : (built : ℕ) → Life → Type 0
    Built built now = IsTrue (gets_rows now) → (dimension : ℕ) → Has state.lives.filters dimension → Has built dimension

    by_holder : (new : Life) (slot holder built : ℕ) → slot < length state.lives.slots → slot_at state.lives slot ≡ Held holder built
        → (holder ≡ query) ⊎ (holder ≢ query) → IfSome (life_in (with_life query new state.lives.queries) holder) (Built built)
    by_holder new slot holder built low held (inl same) =
        let all : built_of state.lives query ≡ built =
        built_of-holder state.lives slot query built sound.slots.lives low (held ∙ ap (λ n. Held n built) same) in
        life-written (Built built) query life.Building new state.lives.queries holder can.building
        (λ h gets dimension has. subst (λ set. Has set dimension) all (can.all_built dimension has)) (sound.slots.built slot holder built low held)
    by_holder new slot holder built low held (inr apart) =
        subst (λ o. IfSome o (Built built)) (sym (life_in-other state.lives.queries query holder new apart)) (sound.slots.built slot holder built low held)
