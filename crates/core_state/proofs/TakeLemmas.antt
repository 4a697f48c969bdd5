-- A batch that is put into a hand keeps a core sound, and so one that is taken.
use Rattle.core_state.proofs.Words.{◌+◌, ◌∙◌, ◌∷◌, ◌≡◌, ◌≢◌, ◌≤◌, [], Accepted, accepted_at, after_take, All, All-cons, All-head, All-map, All-nil, All-tail, All-weaker, AllPairs, AllPairs-cons, ap, AreSoundVersions, arith, Bool, cond, cons_option, DimensionRow, Encodes, eq-eqb, eqb, eqb-true, false, filter, Filter, filter_map, Filters, FilterVersion, find, FitsSlot, Flight, frame_words, get_or, Hand, has_passed, held_by, IfSome, IfSome_then, IsOnRoster, IsPresentByNumber, IsSound, IsSoundBatch, IsSoundFilter, IsSoundHand, length, List, Lives, map, MayTake, ne_eqb, None, OnRoster, Option, option_map, option_map_or, refl, rows_in, slice_get, Some, State, Store, subst, suc, sym, tables_of, true, version_at, zero, ℕ}
use Rattle.std.specs.Prelude.{not}
use Rattle.std.proofs.lemmas.Bool.{not-true}
use Rattle.std.proofs.lemmas.Option.{option_and_then_some}
use Rattle.core_state.specs.Found as found
use Rattle.core_state.specs.Flown.{IsSoundTask}
use Rattle.core_state.specs.Found.{next_filter}
use Rattle.core_state.proofs.AcceptedLemmas.{accepted-on, find-holds, find-none}
use Rattle.core_state.proofs.FlownLemmas.{Flies, KeepsPlace, flown, sound-flown}
use Rattle.core_state.proofs.FoundLemmas.{find-passes, some-at}

-- the present version of a filter has the queries of a roster
pub encodes-there : (state : State) → IsSound state → (filter : Filter) → IsSoundFilter state.accepted (tables_of state) state.lives.slots state.lives.filters filter → (entry : OnRoster) → IsOnRoster state.lives state.accepted entry
    → Encodes filter entry.slot entry.query entry.snapshot (rows_in (tables_of state).dimensions filter.dimension)
encodes-there state sound filter of_filter entry on =
    let is = accepted-on state sound entry on in
    subst (λ query. Encodes filter entry.slot query entry.snapshot rows) is.2
    (subst (λ snapshot. Encodes filter entry.slot is.0.query snapshot rows) is.3
    (some-at (λ asked. Encodes filter entry.slot asked.query asked.snapshot rows) (accepted_at state.accepted entry.number) is.0 is.1
    ((subst (FitsSlot state.accepted (tables_of state) filter entry.slot) on.held.1 (of_filter.slots entry.slot on.there)).0
    (on.held.2 filter.dimension of_filter.is_filter))))
  where
    rows : List DimensionRow
    rows = rows_in (tables_of state).dimensions filter.dimension

-- a present version has the dimension by which it is found
pub dimension-found : (versions : List FilterVersion) (dimension : ℕ) (version : FilterVersion) → version_at versions dimension ≡ Some version
    → version.filter.dimension ≡ dimension
dimension-found versions dimension version at =
    eqb-true version.filter.dimension dimension (find-passes (λ v. eqb v.filter.dimension dimension) versions version at)

-- it is the present one of its own dimension
abbrev pub IsPresent : List FilterVersion → FilterVersion → Type 0
IsPresent versions version = version_at versions version.filter.dimension ≡ Some version

pub present-found : (versions : List FilterVersion) (dimension : ℕ) (version : FilterVersion) → version_at versions dimension ≡ Some version
    → IsPresent versions version
present-found versions dimension version at = ap (version_at versions) (dimension-found versions dimension version at) ∙ at

-- the present version of a filter that a batch did not pass is one that it may pass
pub task-present : (state : State) → IsSound state → (flight : Flight) → IsSoundBatch (frame_words state) (tables_of state) state.lives state.accepted flight
    → (dimension : ℕ) (version : FilterVersion) → has_passed flight dimension ≡ false → version_at state.filters.versions dimension ≡ Some version
    → IsSoundTask state.lives.filters (tables_of state) flight version.filter
task-present state sound flight of_batch dimension version left at = record {
  table = of_filter.table;
  is_filter = of_filter.is_filter;
  not_passed = ap (has_passed flight) (dimension-found state.filters.versions dimension version at) ∙ left;
  encodes = λ k d low. encodes-there state sound version.filter of_filter (get_or flight.roster k d) (of_batch.roster k d low);
}
  where
    of_filter : IsSoundFilter state.accepted (tables_of state) state.lives.slots state.lives.filters version.filter
    of_filter = find-holds (λ v. IsSoundFilter state.accepted (tables_of state) state.lives.slots state.lives.filters v.filter)
        (λ v. eqb v.filter.dimension dimension) state.filters.versions version at sound.filters.each

-- versions of different filters
abbrev pub Apart : FilterVersion → FilterVersion → Type 0
Apart version other = version.filter.dimension ≢ other.filter.dimension

abbrev pub AreApart : List FilterVersion → Type 0
AreApart versions = AllPairs Apart versions

-- a batch that is put into a hand
abbrev pub put : (hand : Flight → Option Hand) → Flight → Flight
put hand flight = record flight { hand = hand flight }

-- the batch of a number is, and the others stay
abbrev pub changed : (batch : ℕ) → (hand : Flight → Option Hand) → Flight → Flight
changed batch hand flight = cond {A = Flight} (eqb flight.rows.number batch) (put hand flight) flight

-- a hand is the worker's, and has present versions
pub record IsFilled (worker : ℕ) (versions : List FilterVersion) (hand : Hand) : Type 0 where
  pub of : hand.worker ≡ worker
  pub present : All (IsPresent versions) hand.versions

-- what holds of a batch whether it is the one that changes or not
pub by-number : (P : Flight → Type 0) (batch : ℕ) (change : Flight → Flight) (flight : Flight) → P (change flight) → P flight
    → P (cond {A = Flight} (eqb flight.rows.number batch) (change flight) flight)
by-number P batch change flight changes other = by_test (eqb flight.rows.number batch)
  where
    by_test : (t : Bool) → P (cond {A = Flight} t (change flight) flight)
    by_test true = changes
    by_test false = other

-- what is in a hand is as sound when the batch is in it
hand-put : (seats filters : ℕ) (store : Store) (flight : Flight) (in_it : Option Hand) (hand : Hand) → IsSoundHand seats filters store flight hand
    → IsSoundHand seats filters store (record flight { hand = in_it }) hand
hand-put seats filters store flight in_it hand old = record {
  seat = old.seat;
  each = All-weaker (λ version. IsSoundTask filters store flight version.filter)
      (λ version. IsSoundTask filters store (record flight { hand = in_it }) version.filter)
      (λ version task. record { table = task.table; is_filter = task.is_filter; not_passed = task.not_passed; encodes = task.encodes })
      hand.versions old.each;
  apart = old.apart;
}

-- what holds of present versions and of those in hands holds of those in hands then
in-hands : (P : FilterVersion → Type 0) (worker batch : ℕ) (versions : List FilterVersion) (hand : Flight → Option Hand) (flights : List Flight)
    → ((flight : Flight) → IfSome (hand flight) (IsFilled worker versions))
    → ((version : FilterVersion) → IsPresent versions version → P version)
    → All (λ flight. IfSome flight.hand (λ held. All P held.versions)) flights
    → All (λ flight. IfSome flight.hand (λ held. All P held.versions)) (map (changed batch hand) flights)
in-hands P worker batch versions hand flights filled each all =
    All-map (λ flight. IfSome flight.hand (λ held. All P held.versions)) (changed batch hand) flights
    (λ k d low. let flight = get_or flights k d in
    by-number (λ f. IfSome f.hand (λ held. All P held.versions)) batch (put hand) flight
    (IfSome_then (hand flight) (filled flight) (λ held of_hand. All-weaker (IsPresent versions) P each held.versions of_hand.present)) (all k d low))

-- present versions are in a hand
versions-put : (last worker batch : ℕ) (versions : List FilterVersion) (hand : Flight → Option Hand) (flights : List Flight)
    → ((flight : Flight) → IfSome (hand flight) (IsFilled worker versions)) → AreSoundVersions last versions flights
    → AreSoundVersions last versions (map (changed batch hand) flights)
versions-put last worker batch versions hand flights filled old = record {
  given = old.given;
  held = λ more. in-hands (λ version. version.number ≤ last) worker batch versions hand flights filled
      (λ version at. find-holds (λ v. v.number ≤ last) (λ v. eqb v.filter.dimension version.filter.dimension) versions version at (old.given more))
      (old.held more);
  present = in-hands (IsPresentByNumber versions) worker batch versions hand flights filled
      (λ version at. subst (λ o. IfSome o (λ (v : FilterVersion). v.number ≡ version.number → v ≡ version)) (sym at) (λ number. refl))
      old.present;
}

-- a batch is as sound as it was, whose hand it may be in
pub batch-stays : (words : ℕ) (store : Store) (lives : Lives) (accepted : List Accepted) (flight : Flight) (hand : Option Hand)
    → IsSoundBatch words store lives accepted flight → IsSoundBatch words store lives accepted (record flight { hand = hand })
batch-stays words store lives accepted flight hand old = record {
  within = old.within;
  bits = old.bits;
  keys = old.keys;
  room = old.room;
  roster = old.roster;
  slots = old.slots;
  rows = λ row low. IfSome_then (slice_get store.versions (flight.rows.first + row)) (old.rows row low)
      (λ version r. record { keys = r.keys; bits = r.bits; others = r.others });
}

-- the workers whose hands are full
abbrev pub workers : List Flight → List ℕ
workers flights = filter_map (λ flight. option_map (λ hand. hand.worker) flight.hand) flights

pub cons-tail : (o : Option ℕ) (xs : List ℕ) → AllPairs (λ w other. w ≢ other) (cons_option o xs) → AllPairs (λ w other. w ≢ other) xs
cons-tail None xs h = h
cons-tail (Some x) xs h = λ i j d before low. h (suc i) (suc j) d (omega arith) (omega arith)

pub All-option : {X : Type 0} (P : X → Type 0) (o : Option X) (xs : List X) → IfSome o P → All P xs → All P (cons_option o xs)
All-option P None xs first rest = rest
All-option P (Some x) xs first rest = All-cons P x xs first rest

pub All-option_tail : (P : ℕ → Type 0) (o : Option ℕ) (xs : List ℕ) → All P (cons_option o xs) → IfSome o P × All P xs
All-option_tail P None xs all = (tt, all)
All-option_tail P (Some x) xs all = (All-head P x xs all, All-tail P x xs all)

-- a worker with an empty hand is none of them
not-among : (worker : ℕ) (flights : List Flight) → All (λ flight. found.is_held_by worker flight ≡ false) flights
    → All (λ other. worker ≢ other) (workers flights)
not-among worker [] free = All-nil (λ other. worker ≢ other)
not-among worker (flight ∷ flights) free =
    All-option (λ other. worker ≢ other) (option_map (λ hand. hand.worker) flight.hand) (workers flights)
    (by_hand flight.hand (All-head (λ f. found.is_held_by worker f ≡ false) flight flights free))
    (not-among worker flights (All-tail (λ f. found.is_held_by worker f ≡ false) flight flights free))
  where
    by_hand : (o : Option Hand) → option_map_or (λ hand. eqb hand.worker worker) o false ≡ false
        → IfSome (option_map (λ hand. hand.worker) o) (λ other. worker ≢ other)
    by_hand None e = tt
    by_hand (Some hand) e = λ same. let both : true ≡ false = sym (eq-eqb hand.worker worker (sym same)) ∙ e in cc

-- what holds of the workers holds of those after a batch changes, whose hand it leaves to such a worker or empty
pub workers-changed : (P : ℕ → Type 0) (batch : ℕ) (change : Flight → Flight)
    → ((flight : Flight) → IfSome (option_map (λ hand. hand.worker) (change flight).hand) P) → (flights : List Flight) → All P (workers flights)
    → All P (workers (map (λ flight. cond {A = Flight} (eqb flight.rows.number batch) (change flight) flight) flights))
workers-changed P batch change its [] all = all
workers-changed P batch change its (flight ∷ flights) all =
    let parts = All-option_tail P (option_map (λ hand. hand.worker) flight.hand) (workers flights) all in
    let rest = map (λ (f : Flight). cond {A = Flight} (eqb f.rows.number batch) (change f) f) flights in
    All-option P (option_map (λ hand. hand.worker) (cond {A = Flight} (eqb flight.rows.number batch) (change flight) flight).hand) (workers rest)
    (by-number (λ f. IfSome (option_map (λ hand. hand.worker) f.hand) P) batch change flight (its flight) parts.0)
    (workers-changed P batch change its flights parts.1)

-- a batch is in the worker's hand or in none
in-hand : (P : ℕ → Type 0) (worker : ℕ) (versions : List FilterVersion) → P worker → (o : Option Hand) → IfSome o (IsFilled worker versions)
    → IfSome (option_map (λ hand. hand.worker) o) P
in-hand P worker versions its None is = tt
in-hand P worker versions its (Some hand) is = subst P (sym is.of) its

-- no other batch has the number of the one that is put into a hand
others-stay : (batch : ℕ) (hand : Flight → Option Hand) (flights : List Flight) → All (λ flight. flight.rows.number ≢ batch) flights
    → map (changed batch hand) flights ≡ flights
others-stay batch hand [] apart = refl
others-stay batch hand (flight ∷ flights) apart =
    ap (λ t. cond {A = Flight} t (put hand flight) flight ∷ map (changed batch hand) flights)
    (ne_eqb flight.rows.number batch (All-head (λ f. f.rows.number ≢ batch) flight flights apart))
    ∙ ap (λ rest. flight ∷ rest) (others-stay batch hand flights (All-tail (λ f. f.rows.number ≢ batch) flight flights apart))

-- no worker has two batches
one-each : (worker batch : ℕ) (versions : List FilterVersion) (hand : Flight → Option Hand) (flights : List Flight)
    → ((flight : Flight) → IfSome (hand flight) (IsFilled worker versions))
    → All (λ flight. found.is_held_by worker flight ≡ false) flights
    → AllPairs (λ flight other. flight.rows.number ≢ other.rows.number) flights
    → AllPairs (λ w other. w ≢ other) (workers flights)
    → AllPairs (λ w other. w ≢ other) (workers (map (changed batch hand) flights))
one-each worker batch versions hand [] filled free apart one = one
one-each worker batch versions hand (flight ∷ flights) filled free apart one =
    by_test (eqb flight.rows.number batch) refl
    (one-each worker batch versions hand flights filled rest_free (λ i j d before low. apart (suc i) (suc j) d (omega arith) (omega arith)) rest_one)
  where
    rest_free : All (λ f. found.is_held_by worker f ≡ false) flights
    rest_free = All-tail (λ f. found.is_held_by worker f ≡ false) flight flights free

    rest_one : AllPairs (λ w other. w ≢ other) (workers flights)
    rest_one = cons-tail (option_map (λ h. h.worker) flight.hand) (workers flights) one

    by_put : (o : Option Hand) → IfSome o (IsFilled worker versions)
        → AllPairs (λ w other. w ≢ other) (cons_option (option_map (λ h. h.worker) o) (workers flights))
    by_put None is = rest_one
    by_put (Some held) is = AllPairs-cons (λ w other. w ≢ other) held.worker (workers flights)
        (subst (λ w. All (λ other. w ≢ other) (workers flights)) (sym is.of) (not-among worker flights rest_free)) rest_one

    by_hand : (o : Option Hand) → option_map_or (λ h. eqb h.worker worker) o false ≡ false
        → AllPairs (λ w other. w ≢ other) (cons_option (option_map (λ h. h.worker) o) (workers flights))
        → AllPairs (λ w other. w ≢ other) (workers (map (changed batch hand) flights))
        → AllPairs (λ w other. w ≢ other) (cons_option (option_map (λ h. h.worker) o) (workers (map (changed batch hand) flights)))
    by_hand None e old rest = rest
    by_hand (Some held) e old rest =
        AllPairs-cons (λ w other. w ≢ other) held.worker (workers (map (changed batch hand) flights))
        (workers-changed (λ other. held.worker ≢ other) batch (put hand) (λ f. in-hand (λ other. held.worker ≢ other) worker versions
        (λ same. let both : true ≡ false = sym (eq-eqb held.worker worker same) ∙ e in cc) (hand f) (filled f)) flights
        (λ k d low. old zero (suc k) d (omega arith) (omega arith))) rest

    by_test : (t : Bool) → eqb flight.rows.number batch ≡ t
        → AllPairs (λ w other. w ≢ other) (workers (map (changed batch hand) flights))
        → AllPairs (λ w other. w ≢ other) (workers (cond {A = Flight} t (put hand flight) flight ∷ map (changed batch hand) flights))
    by_test true is rest =
        let here : flight.rows.number ≡ batch = eqb-true flight.rows.number batch is in
        subst (λ fs. AllPairs (λ w other. w ≢ other) (workers (put hand flight ∷ fs)))
        (sym (others-stay batch hand flights (λ k d low same. apart zero (suc k) d (omega arith) (omega arith) (here ∙ sym same))))
        (by_put (hand flight) (filled flight))
    by_test false is rest = by_hand flight.hand (All-head (λ f. found.is_held_by worker f ≡ false) flight flights free) one rest

-- a core whose worker has an empty hand stays sound where a batch is put into it with present versions that it may pass
pub sound-put : (worker batch : ℕ) (state : State) (hand : Flight → Option Hand) → held_by state.scan.flights worker ≡ None
    → ((flight : Flight) → IfSome (hand flight) (IsFilled worker state.filters.versions))
    → ((flight : Flight) → IsSoundBatch (frame_words state) (tables_of state) state.lives state.accepted flight
    → IfSome (hand flight) (IsSoundHand (length state.seats) state.lives.filters (tables_of state) flight))
    → IsSound state → IsSound (flown state state.filters.tallies (changed batch hand))
sound-put worker batch state hand empty filled right sound =
    sound-flown state state.filters.tallies (changed batch hand) flies sound
  where
    flights : List Flight
    flights = state.scan.flights

    Right : Flight → Type 0
    Right f = IfSome f.hand (IsSoundHand (length state.seats) state.lives.filters (tables_of state) f)

    flies : Flies state state.filters.tallies (changed batch hand)
    flies = record {
      place = λ flight. by-number (KeepsPlace flight) batch (put hand) flight
          (record { number = refl; first = refl; count = refl; roster = refl })
          (record { number = refl; first = refl; count = refl; roster = refl });
      batches = All-map (IsSoundBatch (frame_words state) (tables_of state) state.lives state.accepted) (changed batch hand) flights
          (λ k d low. let flight = get_or flights k d in
          by-number (IsSoundBatch (frame_words state) (tables_of state) state.lives state.accepted) batch (put hand) flight
          (batch-stays (frame_words state) (tables_of state) state.lives state.accepted flight (hand flight) (sound.batches k d low))
          (sound.batches k d low));
      hands = record {
        each = All-map Right (changed batch hand) flights (λ k d low. let flight = get_or flights k d in
            by-number Right batch (put hand) flight
            (IfSome_then (hand flight) (right flight (sound.batches k d low))
            (hand-put (length state.seats) state.lives.filters (tables_of state) flight (hand flight))) (sound.hands.each k d low));
        one = one-each worker batch state.filters.versions hand flights filled (find-none (found.is_held_by worker) flights empty)
            sound.numbers.apart sound.hands.one;
      };
      versions = versions-put state.numbers.version worker batch state.filters.versions hand flights filled sound.numbers.versions;
      order = sound.order;
    }

-- the hand of a batch that is taken: the next filter alone
abbrev taken_hand : (worker : ℕ) → Filters → Flight → Option Hand
taken_hand worker filters flight = option_map (λ version. record { worker = worker; versions = version ∷ [] }) (next_filter filters flight)

-- it is filled, and sound, where that version is
by-next : (P : Hand → Type 0) (worker : ℕ) (filters : Filters) (flight : Flight)
    → ((dimension : ℕ) (version : FilterVersion) → has_passed flight dimension ≡ false → version_at filters.versions dimension ≡ Some version
    → P (record { worker = worker; versions = version ∷ [] }))
    → IfSome (taken_hand worker filters flight) P
by-next P worker filters flight each = by_next (next_filter filters flight) refl
  where
    by_next : (o : Option FilterVersion) → next_filter filters flight ≡ o
        → IfSome (option_map {U = Hand} (λ version. record { worker = worker; versions = version ∷ [] }) o) P
    by_next None is = tt
    by_next (Some version) is =
        option_and_then_some (version_at filters.versions) (find (λ dimension. not (has_passed flight dimension)) filters.order) version is
        (λ dimension wants. each dimension version
        (not-true (has_passed flight dimension) (find-passes (λ d. not (has_passed flight d)) filters.order dimension wants)))

-- what holds of one version holds of a list of it
of-one : (P : FilterVersion → Type 0) (version : FilterVersion) → P version → All P (version ∷ [])
of-one P version its = All-cons P version [] its (All-nil P)

pub sound-taken : (worker batch : ℕ) (state : State) → MayTake worker batch state → IsSound state → IsSound (after_take worker batch state)
sound-taken worker batch state can sound =
    sound-put worker batch state (taken_hand worker state.filters) can.empty
    (λ flight. by-next (IsFilled worker state.filters.versions) worker state.filters flight
    (λ dimension version left at. record {
      of = refl;
      present = of-one (IsPresent state.filters.versions) version (present-found state.filters.versions dimension version at);
    }))
    (λ flight of_batch. by-next (IsSoundHand (length state.seats) state.lives.filters (tables_of state) flight) worker state.filters flight
    (λ dimension version left at. record {
      seat = can.seat;
      each = of-one (λ v. IsSoundTask state.lives.filters (tables_of state) flight v.filter) version
          (task-present state sound flight of_batch dimension version left at);
      apart = λ i j d before low. absurd (omega arith);
    })) sound
