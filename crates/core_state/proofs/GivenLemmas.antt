-- A batch that a worker gives back keeps a core sound.
use Rattle.core_state.proofs.Words.{◌+◌, ◌<◌, ◌∙◌, ◌∷◌, ◌≡◌, ◌≢◌, [], AcceptsAll, after_give, All, All-contains, All-map, all_at, AllPairs, AllPairs-cons, arith, bit_at, bits_left_at, Change, changes_of, cond, cons_option, Contains, empty_store, Encodes, eq-eqb, eqb, false, Filter, FilterVersion, find, Flight, frame_words, get_or, given_back, Hand, Has-with, held_by, IfSome, is_held_by, IsMatched, IsOnRoster, IsOver, IsSettled, IsSome, IsSound, IsSoundBatch, IsSoundHand, IsSoundQuery, IsSoundRow, length, length-map-range_with_len, List, map, ne_eqb, None, OnRoster, Option, option_map, option_map_or, passed_by, PlainVersion, refl, Rows, rows_in, slice_get, Some, State, store_of, subst, suc, sym, tables_of, tallies_after, DropTally, true, with_number, zero, ℕ, ⊎_elim}
use Rattle.core_state.specs.Cutting.{passed_through}
use Rattle.core_state.specs.Flown.{IsSoundTask}
use Rattle.core_state.proofs.AcceptedLemmas.{accepted-on, find-holds}
use Rattle.core_state.proofs.FlownLemmas.{Flies, KeepsPlace, flown, sound-flown}
use Rattle.core_state.proofs.FoundLemmas.{both-some, some-of}
use Rattle.core_state.proofs.FrameLemmas.{versions-with}
use Rattle.core_state.proofs.GiveLemmas.{SaysByKey, bits-given, given-bits}
use Rattle.core_state.proofs.KeyedLemmas.{filter-there, says-by-key}
use Rattle.core_state.proofs.TakeLemmas.{AreApart, batch-stays, by-number, cons-tail, workers, workers-changed}
use Rattle.core_state.proofs.TallyLemmas.{tallied-after}

-- the tables of each history whose changes were taken are settled
abbrev pub Settles : Type 0
Settles = (history : List Change) → AcceptsAll empty_store history → IsSettled (store_of history)

-- a query on a roster is one over the schema
pub entry-over : (state : State) → IsSound state → (entry : OnRoster) → IsOnRoster state.lives state.accepted entry → IsOver (tables_of state).schema entry.query
entry-over state sound entry on =
    let is = accepted-on state sound entry on in
    let of_query : IsSoundQuery state is.0 =
    find-holds (IsSoundQuery state) (λ a. eqb a.number entry.number) state.accepted is.0 is.1 sound.queries.each in
    subst (IsOver (tables_of state).schema) is.2 of_query.over

-- the vectors of a version that a batch may pass say what the queries of the batch take
task-says : (state : State) → IsSound state → (flight : Flight) → IsSoundBatch (frame_words state) (tables_of state) state.lives state.accepted flight
    → (filter : Filter) → IsSoundTask state.lives.filters (tables_of state) flight filter
    → (entry : OnRoster) → Contains flight.roster entry → (version : PlainVersion)
    → IsMatched (tables_of state).schema (tables_of state).dimensions version.row version.begin
    → SaysByKey state filter entry version
task-says state sound flight of_batch filter task entry on version matched =
    let over : IsOver (tables_of state).schema entry.query =
    entry-over state sound entry (All-contains (IsOnRoster state.lives state.accepted) flight.roster entry of_batch.roster on) in
    says-by-key (tables_of state) filter entry.slot entry.query entry.snapshot version
    (All-contains (λ e. Encodes filter e.slot e.query e.snapshot (rows_in (tables_of state).dimensions filter.dimension)) flight.roster entry
    task.encodes on) over.choices ((sound.filters.set filter.dimension).0 task.is_filter) matched

-- a batch behind a version, in no hand
abbrev pub passed_one : Filter → Flight → Flight
passed_one filter flight = record flight { rows = passed_by filter flight.rows; hand = None }

-- a batch that has passed a version that it may pass is sound
pub batch-passed : Settles → (state : State) → IsSound state → (flight : Flight) → IsSoundBatch (frame_words state) (tables_of state) state.lives state.accepted flight
    → (filter : Filter) → IsSoundTask state.lives.filters (tables_of state) flight filter
    → IsSoundBatch (frame_words state) (tables_of state) state.lives state.accepted (passed_one filter flight)
batch-passed settles state sound flight old filter task = record {
  within = old.within;
  bits = length-map-range_with_len (bits_left_at filter flight.rows.keys flight.rows.bits) 0 (length flight.rows.bits) ∙ old.bits;
  keys = old.keys;
  room = old.room;
  roster = old.roster;
  slots = old.slots;
  rows = λ row low.
      let inside : row < length flight.rows.bits = let all = old.bits in omega arith in
      both-some (IsSoundRow state.lives.filters (tables_of state) flight row)
      (λ version. IsMatched (tables_of state).schema (tables_of state).dimensions version.row version.begin)
      (IsSoundRow state.lives.filters (tables_of state) (passed_one filter flight) row)
      (slice_get (tables_of state).versions (flight.rows.first + row))
      (λ version of_row matched. record {
        keys = of_row.keys;
        bits = λ entry on. bits-given state flight filter row version entry inside there task.is_filter on
            (task-says state sound flight old filter task entry on version matched) of_row;
        others = λ slot has. of_row.others slot ((given-bits filter flight.rows.keys flight.rows.bits row slot inside).0 has).0;
      }) (old.rows row low)
      (all_at (λ version. IsMatched (tables_of state).schema (tables_of state).dimensions version.row version.begin) (tables_of state).versions
      (flight.rows.first + row) settled.versions.matched);
}
  where
    settled : IsSettled (tables_of state)
    settled = settles (changes_of state.entries) sound.store

    there : filter.dimension < length (tables_of state).schema.dimensions
    there = (filter-there (tables_of state).schema filter.dimension ((sound.filters.set filter.dimension).0 task.is_filter)).0

-- a filter that was not passed is not passed by another
still-left : (passed dimension other : ℕ) → dimension ≢ other → eqb (bit_at passed other) 1 ≡ false
    → eqb (bit_at (with_number passed dimension) other) 1 ≡ false
still-left passed dimension other apart left =
    ne_eqb (bit_at (with_number passed dimension) other) 1 (λ has. ⊎_elim
    (λ old. let both : true ≡ false = sym (eq-eqb (bit_at passed other) 1 old) ∙ left in cc)
    (λ same. apart (sym same)) ((Has-with passed dimension other).0 has))

-- versions that a batch may pass
abbrev pub AreTasks : State → Flight → List FilterVersion → Type 0
AreTasks state flight versions = All (λ version. IsSoundTask state.lives.filters (tables_of state) flight version.filter) versions

pub apart-rest : (version : FilterVersion) (versions : List FilterVersion) → AreApart (version ∷ versions) → AreApart versions
apart-rest version versions apart = λ i j d before low. apart (suc i) (suc j) d (omega arith) (omega arith)

-- behind one of them it may still pass the others
pub tasks-left : (state : State) (flight : Flight) (version : FilterVersion) (versions : List FilterVersion) → AreTasks state flight (version ∷ versions)
    → AreApart (version ∷ versions) → AreTasks state (passed_one version.filter flight) versions
tasks-left state flight version versions tasks apart = λ k d low.
    let other = get_or versions k d in
    let task : IsSoundTask state.lives.filters (tables_of state) flight other.filter = tasks (suc k) d (omega arith) in
    record {
      table = task.table;
      is_filter = task.is_filter;
      not_passed = still-left flight.rows.passed version.filter.dimension other.filter.dimension (apart 0 (suc k) d (omega arith) (omega arith))
          task.not_passed;
      encodes = task.encodes;
    }

-- a batch that has passed versions that it may pass, of each filter one, is sound
batch-through : Settles → (state : State) → IsSound state → (versions : List FilterVersion) (flight : Flight)
    → IsSoundBatch (frame_words state) (tables_of state) state.lives state.accepted flight → AreTasks state flight versions → AreApart versions
    → IsSoundBatch (frame_words state) (tables_of state) state.lives state.accepted
    (record flight { rows = passed_through versions flight.rows; hand = None })
batch-through settles state sound [] flight old tasks apart =
    batch-stays (frame_words state) (tables_of state) state.lives state.accepted flight None old
batch-through settles state sound (version ∷ versions) flight old tasks apart =
    batch-through settles state sound versions (passed_one version.filter flight)
    (batch-passed settles state sound flight old version.filter (tasks 0 version (omega arith)))
    (tasks-left state flight version versions tasks apart) (apart-rest version versions apart)

-- a batch is sound as it is given back, whether it was in a hand or not
batch-given : Settles → (state : State) → IsSound state → (flight : Flight) → IsSoundBatch (frame_words state) (tables_of state) state.lives state.accepted flight
    → IfSome flight.hand (IsSoundHand (length state.seats) state.lives.filters (tables_of state) flight) → IsSoundBatch (frame_words state) (tables_of state) state.lives state.accepted (given_back flight)
batch-given settles state sound flight old of_hand = by_hand flight.hand of_hand
  where
    by_hand : (o : Option Hand) → IfSome o (IsSoundHand (length state.seats) state.lives.filters (tables_of state) flight)
        → IsSoundBatch (frame_words state) (tables_of state) state.lives state.accepted
        (record flight { rows = option_map_or (λ hand. passed_through hand.versions flight.rows) o flight.rows; hand = None })
    by_hand None h = batch-stays (frame_words state) (tables_of state) state.lives state.accepted flight None old
    by_hand (Some hand) h = batch-through settles state sound hand.versions flight old h.each h.apart

-- the rows of a batch behind some versions are those of its positions
record KeepsRows (before after : Rows) : Type 0 where
  pub number : after.number ≡ before.number
  pub first : after.first ≡ before.first
  pub count : after.count ≡ before.count

rows-through : (versions : List FilterVersion) (rows : Rows) → KeepsRows rows (passed_through versions rows)
rows-through [] rows = record { number = refl; first = refl; count = refl }
rows-through (version ∷ versions) rows =
    let rest = rows-through versions (passed_by version.filter rows) in
    record { number = rest.number; first = rest.first; count = rest.count }

place-given : (flight : Flight) → KeepsPlace flight (given_back flight)
place-given flight = by_hand flight.hand
  where
    by_hand : (o : Option Hand) → KeepsPlace flight
        (record flight { rows = option_map_or (λ hand. passed_through hand.versions flight.rows) o flight.rows; hand = None })
    by_hand None = record { number = refl; first = refl; count = refl; roster = refl }
    by_hand (Some hand) =
        let rows = rows-through hand.versions flight.rows in
        record { number = rows.number; first = rows.first; count = rows.count; roster = refl }

abbrev given : (batch : ℕ) → Flight → Flight
given batch flight = cond {A = Flight} (eqb flight.rows.number batch) (given_back flight) flight

-- no worker has two batches
one-each : (batch : ℕ) (flights : List Flight) → AllPairs (λ w other. w ≢ other) (workers flights)
    → AllPairs (λ w other. w ≢ other) (workers (map (given batch) flights))
one-each batch [] one = one
one-each batch (flight ∷ flights) one =
    by_rest (one-each batch flights (cons-tail (option_map (λ hand. hand.worker) flight.hand) (workers flights) one))
  where
    by_hand : (o : Option Hand) → AllPairs (λ w other. w ≢ other) (workers (map (given batch) flights))
        → AllPairs (λ w other. w ≢ other) (cons_option (option_map (λ hand. hand.worker) o) (workers flights))
        → AllPairs (λ w other. w ≢ other) (cons_option (option_map (λ hand. hand.worker) o) (workers (map (given batch) flights)))
    by_hand None rest old = rest
    by_hand (Some hand) rest old = AllPairs-cons (λ w other. w ≢ other) hand.worker (workers (map (given batch) flights))
        (workers-changed (λ other. hand.worker ≢ other) batch given_back (λ f. tt) flights (λ k d low. old zero (suc k) d (omega arith) (omega arith))) rest

    by_rest : AllPairs (λ w other. w ≢ other) (workers (map (given batch) flights))
        → AllPairs (λ w other. w ≢ other) (workers (map (given batch) (flight ∷ flights)))
    by_rest rest =
        by-number (λ f. AllPairs (λ w other. w ≢ other) (cons_option (option_map (λ hand. hand.worker) f.hand) (workers (map (given batch) flights))))
        batch given_back flight rest (by_hand flight.hand rest one)

pub sound-given : Settles → (worker : ℕ) (state : State) → IsSome (held_by state.scan.flights worker) → IsSound state
    → IsSound (after_give worker state)
sound-given settles worker state some sound =
    let held = some-of (find (is_held_by worker) state.scan.flights) some in
    subst (λ o. IsSound (option_map_or (λ flight.
    flown state (tallies_after flight state.filters.versions state.filters.tallies) (given flight.rows.number)) o state)) (sym held.1)
    (sound-flown state (tallies_after held.0 state.filters.versions state.filters.tallies) (given held.0.rows.number) (flies held.0) sound)
  where
    flies : (flight : Flight) → Flies state (tallies_after flight state.filters.versions state.filters.tallies) (given flight.rows.number)
    flies flight =
        let tallies : List DropTally = tallies_after flight state.filters.versions state.filters.tallies in
        let change : Flight → Flight = given flight.rows.number in
        let after = tallied-after flight state.filters.versions state.filters.tallies sound.order.count sound.order.tallies in
        record {
          place = λ f. by-number (KeepsPlace f) flight.rows.number given_back f (place-given f)
              (record { number = refl; first = refl; count = refl; roster = refl });
          batches = All-map (IsSoundBatch (frame_words state) (tables_of state) state.lives state.accepted) change state.scan.flights
              (λ k d low. let f = get_or state.scan.flights k d in
              by-number (IsSoundBatch (frame_words state) (tables_of state) state.lives state.accepted) flight.rows.number given_back f
              (batch-given settles state sound f (sound.batches k d low) (sound.hands.each k d low))
              (sound.batches k d low));
          hands = record {
            each = All-map (λ f. IfSome f.hand (IsSoundHand (length state.seats) state.lives.filters (tables_of state) f)) change state.scan.flights
                (λ k d low. let f = get_or state.scan.flights k d in
                by-number (λ g. IfSome g.hand (IsSoundHand (length state.seats) state.lives.filters (tables_of state) g)) flight.rows.number given_back f tt
                (sound.hands.each k d low));
            one = one-each flight.rows.number state.scan.flights sound.hands.one;
          };
          versions = versions-with state.numbers.version state.filters.versions state.scan.flights (map change state.scan.flights)
              (λ P all. All-map (λ f. IfSome f.hand P) change state.scan.flights
              (λ k d low. by-number (λ f. IfSome f.hand P) flight.rows.number given_back (get_or state.scan.flights k d) tt (all k d low))) sound.numbers.versions;
          order = record { tallies = after.1; count = after.0; order = sound.order.order };
        }
