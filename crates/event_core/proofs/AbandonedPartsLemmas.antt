-- The parts of a core where a query is abandoned.
use Rattle.event_core.proofs.Words.{◌<◌, ◌∙◌, ◌≡◌, [], Abandon, Abandoned, abandoned, Accepted, accepted_as, accepted_at, accepted_in, after_abandon, after_abandoning, ap, arith, asked_at, AskedQuery, attached_to, Becomes, CanAbandon, cases_lt, Contains, CoreParts, detached_for, Done, empty_seat, eqb, false, find-holds, forgotten, get_or, get_or_past, is_open, IsCore, IsScannedAs, IsSome, IsSound, IsTrue, Known, known_in, length, life-accepted, List, map, map-set, None, Option, option_map, option_map_or, query_in, QueryLife, reaches_in, refl, Scanning, Seat, seat_as, seat_at, set, Some, State, state_of, statements_at, stopped_for, Submitted, subst, sym, true, without_pending, ℕ, ⊎_elim}
use Rattle.std.proofs.Math.ListN as lists
use Rattle.core_state.specs.Events.{after_event}
use Rattle.core_state.specs.Submitting.{with_seat}
use Rattle.event_core.proofs.AskedKeptLemmas.{accepted-forgotten, accepted-of, asked-there, beside-kept}
use Rattle.event_core.proofs.CoreAtLemmas.{KeepSound, becomes-of}
use Rattle.event_core.proofs.SeenLemmas.{known-with_kept, reaches-with_life, state-seen}
use Rattle.event_core.proofs.SlotGroupsLemmas.{detached-elsewhere, detached-here}

-- what an abandoned query had is detached
abbrev pub AbandonDetaches : Type 0
AbandonDetaches = (state : State) (query : ℕ) → IsSound state → CanAbandon query state.lives
    → attached_to (after_abandoning query state) ≡ detached_for state.lives query (attached_to state)

-- and the scan stops it
abbrev pub AbandonStops : Type 0
AbandonStops = (state : State) (scan : Scanning) (query : ℕ) → IsSound state → CanAbandon query state.lives
    → IsScannedAs state scan → IsScannedAs (after_abandoning query state) (stopped_for state.lives query scan)

-- a query that may be abandoned is an accepted one
pub abandon-there : (parts : CoreParts) (query : ℕ) → IsCore parts → CanAbandon query parts.lives → IsSome (asked_at parts.asked query)
abandon-there parts query core can =
    asked-there parts.lives parts.attached parts.asked query
    (life-accepted (state_of parts) query core.sound (by_life (query_in parts.lives.queries query) can))
  where
    by_life : (o : Option QueryLife) → IsTrue (option_map_or is_open (option_map (λ (e : QueryLife). e.life) o) false) → IsSome o
    by_life None opens = absurd (let both : false ≡ true = opens in cc)
    by_life (Some e) opens = refl

-- the seat of a number
seat-seen : (known : List Known) (seats : List (List Submitted)) (seat : ℕ)
    → get_or (map (seat_as known) seats) seat empty_seat ≡ seat_as known (statements_at seats seat)
seat-seen known seats seat = lists.get_or-map (seat_as known) seats seat []

-- a seat that submitted something is there
seat-there : (seats : List Seat) (seat number : ℕ) → Contains (get_or seats seat empty_seat).submitted number → seat < length seats
seat-there seats seat number has = ⊎_elim (λ low. low)
    (λ past. absurd (let none : Contains [] number =
    subst (λ (s : Seat). Contains s.submitted number) (get_or_past seats seat empty_seat past) has in
    let less = none.1 in omega arith)) (cases_lt seat (length seats))

-- the seat of an accepted query is there
pub abandon-seat : (parts : CoreParts) (query : ℕ) (asked : AskedQuery) → IsCore parts → asked_at parts.asked query ≡ Some asked
    → asked.seat < length parts.seats
abandon-seat parts query asked core found =
    let low = seat-there (state_of parts).seats asked.seat asked.number
    (find-holds (λ (a : Accepted). Contains (seat_at (state_of parts) a.seat).submitted a.number) (λ (a : Accepted). eqb a.number query)
    (state_of parts).accepted (accepted_as parts.lives parts.attached asked)
    (accepted-of parts.lives parts.attached parts.asked query asked found) core.sound.seats.queries) in
    let many = lists.length-map parts.seats (seat_as (known_in parts.asked)) in omega arith

-- an abandoned query keeps a core sound
abandon-sound : KeepSound → (state : State) (query : ℕ) → CanAbandon query state.lives → IsSound state → IsSound (after_abandoning query state)
unfolding after_event
abandon-sound keep state query can sound = keep (Done (Abandon query)) state can sound

-- the core without what was asked by an accepted query
abbrev abandoned_by : (query : ℕ) → State → Accepted → State
abandoned_by query state accepted = with_seat accepted.seat (without_pending query) (record state {
  accepted = map (forgotten query) state.accepted;
  lives = after_abandon query state.lives;
})

-- that is what becomes of the core
abandoned-is : (query : ℕ) (state : State) (accepted : Accepted) → accepted_at state.accepted query ≡ Some accepted
    → after_abandoning query state ≡ abandoned_by query state accepted
abandoned-is query state accepted found = ap (λ o. option_map_or (abandoned_by query state) o state) found

-- the seats of which one does not wait for the query any more
seats-abandoned : (known : List Known) (seats : List (List Submitted)) (seat query : ℕ) (statements : List Submitted)
    → seat_as known statements ≡ without_pending query (seat_as known (statements_at seats seat))
    → map (seat_as known) (set seats seat statements)
    ≡ set (map (seat_as known) seats) seat (without_pending query (get_or (map (seat_as known) seats) seat empty_seat))
seats-abandoned known seats seat query statements are =
    map-set (seat_as known) seats seat statements
    ∙ ap (set (map (seat_as known) seats) seat) (are ∙ ap (without_pending query) (sym (seat-seen known seats seat)))

-- the parts stand for the core without the query
pub abandon-becomes : KeepSound → AbandonDetaches → AbandonStops → (parts : CoreParts) (query : ℕ) (asked : AskedQuery) (statements : List Submitted)
    → IsCore parts → CanAbandon query parts.lives → asked_at parts.asked query ≡ Some asked
    → seat_as (known_in parts.asked) statements ≡ without_pending query (seat_as (known_in parts.asked) (statements_at parts.seats asked.seat))
    → Becomes (abandoned query asked.seat statements parts) (after_abandoning query (state_of parts))
abandon-becomes keep detach stops parts query asked statements core can found are =
    subst (Becomes later) (sym is) (becomes-of later after same (record {
      sound = subst IsSound is (abandon-sound keep (state_of parts) query can core.sound);
      tables = record { same = core.tables.same; keyed = core.tables.keyed };
      scanned = scans;
      attached = ap (detached_for parts.lives query) core.attached
          ∙ sym (detach (state_of parts) query core.sound can) ∙ ap attached_to is;
      beside = beside-kept parts.lives later.lives parts.attached later.attached query None parts.asked
          (detached-elsewhere parts.lives parts.attached query) (λ some. refl) core.beside;
      frames = core.frames;
      words = core.words;
    }))
  where
    later : CoreParts
    later = abandoned query asked.seat statements parts

    after : State
    after = abandoned_by query (state_of parts) (accepted_as parts.lives parts.attached asked)

    is : after_abandoning query (state_of parts) ≡ after
    is = abandoned-is query (state_of parts) (accepted_as parts.lives parts.attached asked)
        (accepted-of parts.lives parts.attached parts.asked query asked found)

    scans : IsScannedAs after later.scan
    scans = subst (λ state. IsScannedAs state later.scan) is (stops (state_of parts) parts.scan query core.sound can core.scanned)

    shown : List Seat → (position : ℕ) → State
    shown seats position = record after { seats = seats; scan = record (state_of parts).scan { position = position } }

    same : state_of later ≡ after
    same =
        state-seen later (map (forgotten query) (accepted_in parts.lives parts.attached parts.asked)) (known_in parts.asked)
        (reaches_in parts.lives.queries)
        (accepted-forgotten parts.lives later.lives parts.attached later.attached query parts.asked
        (detached-elsewhere parts.lives parts.attached query) (detached-here parts.lives parts.attached query))
        (known-with_kept query None parts.asked)
        (reaches-with_life query Abandoned parts.lives.queries)
        ∙ ap (λ seats. shown seats later.scan.position)
        (seats-abandoned (known_in parts.asked) parts.seats asked.seat query statements are)
        ∙ ap (shown after.seats) scans.position
