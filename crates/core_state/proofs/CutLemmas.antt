-- A batch that the scan cuts keeps a core sound.
use Rattle.core_state.proofs.Words.{◌-◌, ◌<◌, ◌∙◌, ◌∷◌, ◌≡◌, ◌≢◌, ◌≤◌, ◌⊎◌, [], after_cutting, All-map, All-push, all_pairs_push, AllPairs, ap, append-nil, AreSoundBatches, AreSoundHands, AreSoundNumbers, AreSoundQueries, AreSoundSlots, arith, changes_of, counted, cut_query, end_in, filter_map, filter_map-append, first_in, Flight, frame_words, get_or, get_or-map, gets_rows, Has, IfSome, IsOnRoster, IsSound, IsSoundBatch, IsSoundHand, IsTrue, last_after, last_number, length, length-map, List, map, MayBeOnRoster, MayCut, Numbers, option_map, QueryLife, refl, ScanState, Some, State, subst, sym, tables_of, ℕ, ⊎_elim}
use Rattle.std.proofs.lemmas.List.{length_push}
use Rattle.pipeline_manager.specs.declared.life.Life.TheVariants as life
use Rattle.pipeline_manager.proofs.CallLemmas.{sound-after_cut}
use Rattle.core_state.proofs.CutKeptLemmas.{covered_of, flights_after, kept-cut}
use Rattle.core_state.proofs.CutLifeLemmas.{cut-cases, cut-found, gets-stays, life-cut, may-stay, open-stays, same-numbers}
use Rattle.core_state.proofs.CutNumberLemmas.{next-apart, next-given, still-given}
use Rattle.core_state.proofs.CutRosterLemmas.{entry-cut, roster-each}
use Rattle.core_state.proofs.CutRowsLemmas.{batch-cut, cut_flight}
use Rattle.core_state.proofs.CutRunsLemmas.{Cuts, cuts}
use Rattle.core_state.proofs.FoundLemmas.{extents-stay, query_in-number}
use Rattle.core_state.proofs.FrameLemmas.{LivesAs, batches-with, lives-as, moved, versions-with}
use Rattle.core_state.proofs.GivenLemmas.{Settles}
use Rattle.core_state.proofs.HeldLemmas.{queries-held}
use Rattle.core_state.proofs.MovedLemmas.{StaysWanted, seats-held}
use Rattle.core_state.proofs.WholeLivesLemmas.{lives-cut, stay-lost}

-- the lives after a cut, the scan behind it, and the numbers with one batch more
abbrev queries_after : State → List QueryLife
queries_after state = map (cut_query (first_in state) (end_in state - 1)) state.lives.queries

abbrev scan_after : State → ScanState
scan_after state = record {
  position = end_in state;
  flights = flights_after state;
  free = state.scan.free - 1;
  cut = counted state.scan.cut (end_in state - first_in state);
}

abbrev numbers_after : State → Numbers
numbers_after state = record state.numbers { batch = last_after state.numbers.batch }

abbrev state_after : State → State
state_after state = moved state (queries_after state) state.lives.slots state.filters (scan_after state) (numbers_after state)

-- the batches in flight keep their rosters, and the one that is cut has its own
batches-cut : Settles → (state : State) → Cuts state → IsSound state → AreSoundBatches (state_after state)
batches-cut settles state range sound =
    let ordered : first_in state ≤ end_in state = let after = range.after in omega arith in
    All-push (IsSoundBatch (frame_words state) (tables_of state) (record state.lives { queries = queries_after state }) state.accepted)
    state.scan.flights (cut_flight state)
    (batches-with (frame_words state) (tables_of state) state.lives (queries_after state) state.lives.slots state.accepted state.accepted state.scan.flights
    (λ k d low j e within.
    let entry = (sound.batches k d low).roster j e within in
    record {
      there = entry.there;
      held = entry.held;
      life = life-cut MayBeOnRoster (first_in state) (end_in state - 1) state.lives.queries (get_or (get_or state.scan.flights k d).roster j e).number
          may-stay entry.life;
      same = entry.same;
      extent = extents-stay (cut_query (first_in state) (end_in state - 1)) (λ entry. refl) (λ entry. refl) state.lives.queries
          (get_or (get_or state.scan.flights k d).roster j e).number ∙ entry.extent;
    }) sound.batches)
    (batch-cut state (queries_after state) state.lives.slots (settles (changes_of state.entries) sound.store) sound ordered range.last
    (roster-each (IsOnRoster (record state.lives { queries = queries_after state }) state.accepted) state
    (entry-cut state (first_in state) (end_in state - 1) sound)))

-- the batch that is cut is in no hand
hands-cut : (state : State) → AreSoundHands state → AreSoundHands (state_after state)
hands-cut state old = record {
  each = All-push (λ flight. IfSome flight.hand (IsSoundHand (length state.seats) state.lives.filters (tables_of state) flight)) state.scan.flights (cut_flight state)
      old.each tt;
  one = subst (AllPairs (λ worker other. worker ≢ other))
      (sym (filter_map-append (λ (flight : Flight). option_map (λ hand. hand.worker) flight.hand) state.scan.flights (cut_flight state ∷ [])
      ∙ append-nil (filter_map (λ (flight : Flight). option_map (λ hand. hand.worker) flight.hand) state.scan.flights))) old.one;
}

queries-cut : (state : State) → Cuts state → IsSound state → AreSoundQueries (state_after state)
queries-cut state range sound =
    queries-held state (queries_after state) state.lives.slots state.filters (scan_after state) (numbers_after state) refl
    (same-numbers (first_in state) (end_in state - 1) state.lives.queries)
    (λ accepted old. cut-found (LivesAs (tables_of state) state.seats (scan_after state) accepted accepted) (first_in state) (end_in state - 1)
    state.lives.queries accepted.number
    (λ entry found. let was = lives-as state accepted old entry found in (
      kept-cut state (scan_after state) refl refl sound range accepted entry.extent entry.life
          (found ∙ ap (λ n. Some (record { query = n; extent = entry.extent; life = entry.life }))
          (query_in-number state.lives.queries accepted.number entry found)) was.2 was.0,
      λ opens. was.1 (open-stays (covered_of state entry.extent) entry.life opens),
      was.2,
    ))) sound.queries

slots-cut : (state : State) → AreSoundSlots state → AreSoundSlots (state_after state)
slots-cut state old = record {
  lives = sound-after_cut (first_in state) (end_in state - 1) state.lives old.lives;
  count = old.count;
  built = λ slot query built low held.
      life-cut (λ now. IsTrue (gets_rows now) → (dimension : ℕ) → Has state.lives.filters dimension → Has built dimension)
      (first_in state) (end_in state - 1) state.lives.queries query
      (λ positions now all gets. all (gets-stays positions now gets)) (old.built slot query built low held);
}

-- the number of the batch that is cut is none of those in flight
numbers-cut : (state : State) → AreSoundNumbers state → AreSoundNumbers (state_after state)
numbers-cut state old = record {
  apart = all_pairs_push (λ flight other. flight.rows.number ≢ other.rows.number) state.scan.flights (cut_flight state) old.apart
      (λ k d low.
      let used : List ℕ = map (λ (flight : Flight). flight.rows.number) state.scan.flights in
      let apart = next-apart state.numbers.batch used (λ more.
      All-map (λ number. number ≤ state.numbers.batch) (λ (flight : Flight). flight.rows.number) state.scan.flights (old.given more)) in
      λ same. apart k 0 (subst (λ n. k < n) (sym (length-map state.scan.flights (λ (flight : Flight). flight.rows.number))) low)
      (get_or-map (λ (flight : Flight). flight.rows.number) state.scan.flights k d 0 low ∙ same));
  given = λ more.
      let above = still-given state.numbers.batch last_number more in
      All-push (λ flight. flight.rows.number ≤ last_after state.numbers.batch) state.scan.flights (cut_flight state)
      (λ k d low. let below = old.given above.0 k d low in let is = above.1 in omega arith)
      (let is = above.1 in
      let next = next-given state.numbers.batch (map (λ (flight : Flight). flight.rows.number) state.scan.flights) above.0 in omega arith);
  versions = versions-with state.numbers.version state.filters.versions state.scan.flights (flights_after state)
      (λ P all. All-push (λ (flight : Flight). IfSome flight.hand P) state.scan.flights (cut_flight state) all tt) old.versions;
  unnumbered = old.unnumbered;
}

-- who is waited for stays so, what is told stays so, and who is abandoned
wanted-cut : (state : State) → StaysWanted state (queries_after state)
wanted-cut state = λ query. (
  life-cut (λ now. now ≢ life.Abandoned) (first_in state) (end_in state - 1) state.lives.queries query
      (cut-cases (λ now later. now ≢ life.Abandoned → later ≢ life.Abandoned) (λ now h. h) (λ start left h e. cc) (λ start left less h e. cc)),
  life-cut (λ now. (now ≡ life.Answered) ⊎ (now ≡ life.Spoiled)) (first_in state) (end_in state - 1) state.lives.queries query
      (cut-cases (λ now later. (now ≡ life.Answered) ⊎ (now ≡ life.Spoiled) → (later ≡ life.Answered) ⊎ (later ≡ life.Spoiled))
      (λ now h. h) (λ start left h. absurd (⊎_elim (λ e. cc) (λ e. cc) h)) (λ start left less h. absurd (⊎_elim (λ e. cc) (λ e. cc) h))),
  stay-lost state.lives.queries (queries_after state) (lives-cut (first_in state) (end_in state - 1) state.lives.queries).over query,
)

pub sound-cut : Settles → (state : State) → MayCut state → IsSound state → IsSound (after_cutting state)
sound-cut settles state can sound = record {
  settings = sound.settings;
  filters = record { each = sound.filters.each; dimensions = sound.filters.dimensions; set = sound.filters.set };
  batches = batches-cut settles state range sound;
  hands = hands-cut state sound.hands;
  queries = queries-cut state range sound;
  slots = slots-cut state sound.slots;
  store = sound.store;
  ends = sound.ends;
  quiet = λ none. absurd (asked (sound.quiet none).0);
  numbers = numbers-cut state sound.numbers;
  scan = record {
    frames = let some = can.frame in let old = sound.scan.frames in let more = length_push state.scan.flights (cut_flight state) in omega arith;
    position = range.last;
  };
  order = sound.order;
  seats = seats-held state (queries_after state) state.lives.slots state.filters (scan_after state) (numbers_after state) refl (wanted-cut state) sound.seats;
}
  where
    range : Cuts state
    range = cuts state can sound

    -- where a query runs, some query was asked
    asked : state.accepted ≢ []
    asked none =
        let same : map (λ entry. entry.query) state.lives.queries ≡ [] = sym sound.queries.same ∙ ap (map (λ accepted. accepted.number)) none in
        let many = length-map state.lives.queries (λ (entry : QueryLife). entry.query) in
        let zero_long : length (map (λ (entry : QueryLife). entry.query) state.lives.queries) ≡ 0 = ap length same in
        let low = can.running.2 in
        omega arith
