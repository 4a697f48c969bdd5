-- A batch that is distributed keeps a core sound.
use Rattle.core_state.proofs.Words.{◌+◌, ◌∙◌, ◌∷◌, ◌≡◌, ◌≢◌, ◌≤◌, [], Accepted, accepted_at, All, All-cons, All-contains, All-filter, All-nil, all_pairs_head, all_pairs_tail, AllPairs, AllPairs-cons, AllPairs-filter, ap, AreSoundHands, AreSoundQueries, arith, Bool, cond, cons_option, Contains, eq-eqb, eqb, false, filter, Flight, flight_at, frame_words, get_or, Hand, IfSome, IsSound, IsSoundBatch, IsSoundHand, IsSoundQuery, IsThrough, length, List, map, ne_eqb, None, not, Option, option_map, query_in, QueryLife, refl, ScanState, Some, State, subst, sym, tables_of, true, ℕ}
use Rattle.pipeline_manager.specs.Sound.{AreRising}
use Rattle.core_state.proofs.AcceptedLemmas.{accepted-rising}
use Rattle.core_state.proofs.AnewLemmas.{batches-anew, filters-anew, hands-anew, queries-anew}
use Rattle.core_state.proofs.DistributeLemmas.{FoldsOne, length-landed, without_flight}
use Rattle.core_state.proofs.FoundLemmas.{life-found, some-by}
use Rattle.core_state.proofs.FrameLemmas.{LivesAs, lives-as, versions-with}
use Rattle.core_state.proofs.LandedLemmas.{batch-brings, fed_by, feeds, gets-open, kept-landed, landed}
use Rattle.core_state.proofs.SeatLemmas.{seat-anew, seats-anew}
use Rattle.core_state.proofs.TakeLemmas.{All-option, All-option_tail, cons-tail, workers}

-- the accepted queries have different numbers
accepted-apart : (state : State) → AreSoundQueries state → AreRising state.lives.queries
    → AllPairs (λ accepted other. accepted.number ≢ other.number) state.accepted
accepted-apart state queries rising i j d before low same = let rises = accepted-rising state queries rising i j d before low in omega arith

-- so each is the one that is found by its number
found-each : (accepted : List Accepted) → AllPairs (λ a other. a.number ≢ other.number) accepted
    → All (λ a. accepted_at accepted a.number ≡ Some a) accepted
found-each [] apart = All-nil (λ a. accepted_at [] a.number ≡ Some a)
found-each (first ∷ accepted) apart =
    All-cons (λ a. accepted_at (first ∷ accepted) a.number ≡ Some a) first accepted
    (ap (λ t. cond {A = Option Accepted} t (Some first) (accepted_at accepted first.number)) (eq-eqb first.number first.number refl))
    (λ k d low.
    let a = get_or accepted k d in
    ap (λ t. cond {A = Option Accepted} t (Some first) (accepted_at accepted a.number))
    (ne_eqb first.number a.number (all_pairs_head (λ x y. x.number ≢ y.number) first accepted apart k d low))
    ∙ found-each accepted (all_pairs_tail (λ x y. x.number ≢ y.number) first accepted apart) k d low)

pub found-itself : (state : State) → AreSoundQueries state → AreRising state.lives.queries → (accepted : Accepted)
    → Contains state.accepted accepted → accepted_at state.accepted accepted.number ≡ Some accepted
found-itself state queries rising accepted there =
    All-contains (λ a. accepted_at state.accepted a.number ≡ Some a) state.accepted accepted
    (found-each state.accepted (accepted-apart state queries rising)) there

-- the workers that hold some of the batches are some of those that hold them all
fewer-workers : (P : ℕ → Type 0) (p : Flight → Bool) (flights : List Flight) → All P (workers flights) → All P (workers (filter p flights))
fewer-workers P p [] all = all
fewer-workers P p (flight ∷ flights) all =
    let parts = All-option_tail P (option_map (λ hand. hand.worker) flight.hand) (workers flights) all in
    by_test (p flight) parts.0 (fewer-workers P p flights parts.1)
  where
    by_test : (t : Bool) → IfSome (option_map (λ hand. hand.worker) flight.hand) P → All P (workers (filter p flights))
        → All P (workers (cond {A = List Flight} t (flight ∷ filter p flights) (filter p flights)))
    by_test true first rest = All-option P (option_map (λ hand. hand.worker) flight.hand) (workers (filter p flights)) first rest
    by_test false first rest = rest

fewer-apart : (p : Flight → Bool) (flights : List Flight) → AllPairs (λ w other. w ≢ other) (workers flights)
    → AllPairs (λ w other. w ≢ other) (workers (filter p flights))
fewer-apart p [] apart = apart
fewer-apart p (flight ∷ flights) apart =
    by_test (p flight) (fewer-apart p flights (cons-tail (option_map (λ hand. hand.worker) flight.hand) (workers flights) apart))
  where
    by_hand : (o : Option Hand) → AllPairs (λ w other. w ≢ other) (cons_option (option_map (λ hand. hand.worker) o) (workers flights))
        → AllPairs (λ w other. w ≢ other) (workers (filter p flights))
        → AllPairs (λ w other. w ≢ other) (cons_option (option_map (λ hand. hand.worker) o) (workers (filter p flights)))
    by_hand None old rest = rest
    by_hand (Some hand) old rest =
        AllPairs-cons (λ w other. w ≢ other) hand.worker (workers (filter p flights))
        (fewer-workers (λ other. hand.worker ≢ other) p flights (all_pairs_head (λ w other. w ≢ other) hand.worker (workers flights) old)) rest

    by_test : (t : Bool) → AllPairs (λ w other. w ≢ other) (workers (filter p flights))
        → AllPairs (λ w other. w ≢ other) (workers (cond {A = List Flight} t (flight ∷ filter p flights) (filter p flights)))
    by_test true rest = by_hand flight.hand apart rest
    by_test false rest = rest

-- the hands that are left are sound
hands-left : (state : State) (p : Flight → Bool) (scan : ScanState) → scan.flights ≡ filter p state.scan.flights → AreSoundHands state
    → AreSoundHands (record state { scan = scan })
hands-left state p scan left old = record {
  each = subst (All (λ f. IfSome f.hand (IsSoundHand (length state.seats) state.lives.filters (tables_of state) f))) (sym left)
      (All-filter p (λ f. IfSome f.hand (IsSoundHand (length state.seats) state.lives.filters (tables_of state) f)) state.scan.flights old.each);
  one = subst (λ flights. AllPairs (λ w other. w ≢ other) (workers flights)) (sym left) (fewer-apart p state.scan.flights old.one);
}

-- the core as a batch has left it is sound
pub sound-landed : FoldsOne → (batch : ℕ) (flight : Flight) (state : State) → flight_at state.scan.flights batch ≡ Some flight
    → IsSoundBatch (frame_words state) (tables_of state) state.lives state.accepted flight → IsThrough state.filters flight → IsSound state → IsSound (landed batch flight state)
sound-landed folds batch flight state there of_batch through sound = record {
  settings = sound.settings;
  filters = filters-anew state change keeps queries state.seats scan sound.filters;
  batches = batches-anew state change keeps queries scan.flights (λ number. (λ on. on, refl))
      (All-filter left (IsSoundBatch (frame_words state) (tables_of state) state.lives state.accepted) state.scan.flights sound.batches);
  hands = hands-anew state change queries state.seats scan refl (hands-left state left scan refl sound.hands);
  queries = queries-anew state change keeps queries state.seats scan refl
      (λ accepted among of_query. some-by (LivesAs (tables_of state) state.seats scan accepted (change accepted)) (query_in queries accepted.number)
      (λ entry found. lives accepted among of_query entry found)) sound.queries;
  slots = record { lives = sound.slots.lives; count = sound.slots.count; built = sound.slots.built };
  store = sound.store;
  ends = sound.ends;
  quiet = λ none. (ap (map change) (sound.quiet none).0, ap (without_flight batch) (sound.quiet none).1, (sound.quiet none).2);
  numbers = record {
    apart = AllPairs-filter (λ f other. f.rows.number ≢ other.rows.number) left state.scan.flights sound.numbers.apart;
    given = λ more. All-filter left (λ f. f.rows.number ≤ state.numbers.batch) state.scan.flights (sound.numbers.given more);
    versions = versions-with state.numbers.version state.filters.versions state.scan.flights scan.flights
        (λ P. All-filter left (λ f. IfSome f.hand P) state.scan.flights) sound.numbers.versions;
    unnumbered = sound.numbers.unnumbered;
  };
  scan = record {
    frames =
        let count = length-landed batch flight state.scan.flights there sound.numbers.apart in
        let frames = sound.scan.frames in
        omega arith;
    position = sound.scan.position;
  };
  order = sound.order;
  seats = seats-anew state change keeps queries state.seats scan refl (λ seat. refl)
      (λ k d low. seat-anew state change keeps queries (get_or state.seats k d) (λ j p inside h. h) (λ number h. h) (λ number was. was)
      (sound.seats.each k d low)) sound.seats;
}
  where
    change : Accepted → Accepted
    change = fed_by state flight

    keeps : (accepted : Accepted) → (groups : _) × (change accepted ≡ record accepted { groups = groups })
    keeps = feeds state flight

    queries : List QueryLife
    queries = state.lives.queries

    left : Flight → Bool
    left other = not (eqb other.rows.number batch)

    scan : ScanState
    scan = record state.scan { flights = without_flight batch state.scan.flights; free = state.scan.free + 1 }

    lives : (accepted : Accepted) → Contains state.accepted accepted → IsSoundQuery state accepted → (entry : QueryLife)
        → query_in queries accepted.number ≡ Some entry → LivesAs (tables_of state) state.seats scan accepted (change accepted) entry
    lives accepted among of_query entry found =
        let was = lives-as state accepted of_query entry found in (
          kept-landed folds state batch flight there sound.numbers.apart accepted entry.extent entry.life
              (life-found queries accepted.number entry found)
              (λ gets. batch-brings state flight accepted entry.extent sound.filters sound.order through.through of_batch
              (found-itself state sound.queries sound.slots.lives.rising accepted among) of_query.over (was.1 (gets-open entry.life gets)))
              was.0,
          was.1,
          was.2,
        )
