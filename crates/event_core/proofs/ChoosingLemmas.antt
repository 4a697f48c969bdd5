-- No event of a kind may come where the parts of a core offer none, and one that they offer may.
use Rattle.event_core.proofs.Words.{◌+◌, ◌∙◌, ◌∷◌, ◌≡◌, ◌≢◌, [], All, All-cons, All-nil, All-head, All-map, All-tail, AllPairs, ap, arith, bit_at, Bool, Build, CanBuild, CanClear, CanEnd, CanFree, CanRun, Clear, cond, Cut, Distribute, eqb, false, find, Finish, Flight, flight_as, flight_at, flights_as, get_or, get_or-map, IfSome, IsCore, IsSome, IsSomeAnd, IsThrough, IsWanting, Known, known_in, length, length-map, List, list_any, MayCut, MayDistribute, MayFinish, MayReserve, None, NoneMayCome, not-true, Option, option_map, CoreParts, Reach, reaches_in, refl, Release, Reserve, Some, Start, State, state_of, subst, sym, Through, true, Wants, ℕ, Abandon, CanAbandon, Give, IsSound, held_by, MayTake, Reorder, Submit, Take, tables_of, is_some, Statement, none-some, find-passes, some-at, ◌<◌, Event, option_map_or, eqb-true}
use Rattle.std.proofs.lemmas.Bool.{not_from_false}
use Rattle.std.proofs.lemmas.List.{get_or_default}
use Rattle.std.proofs.lemmas.List.Elements.{AllWithin-more}
use Rattle.std.specs.List.{AllWithin}
use Rattle.core_state.specs.Events.{MayCarry}
use Rattle.core_state.specs.Flown.{IsSoundHand}
use Rattle.core_state.specs.Found as found
use Rattle.core_state.specs.State as state
use Rattle.core_state.specs.declared.event.Event.TheVariants.{Carry}
use Rattle.event_core.specs.Chosen.{AreManaged, IsManaged}
use Rattle.event_core.specs.Lent.{HasFreeHand}
use Rattle.event_core.specs.declared.choosing.EventKind.{EventKind}
use Rattle.event_core.specs.declared.choosing.EventKind.TheVariants as kind
use Rattle.event_core.proofs.EnablingLemmas.{find-map, finished-landed}

-- whatever its numbers, an event of a kind may not come
abbrev pub NoneOffered : EventKind → State → Type 0
NoneOffered kind.Submit state = (seat : ℕ) → seat < length state.seats → ⊥
NoneOffered kind.Reserve state = (query slot : ℕ) → MayReserve query slot state → ⊥
NoneOffered kind.Build state = (query dimension : ℕ) → CanBuild query dimension state.lives → ⊥
NoneOffered kind.Start state = (query : ℕ) → CanRun query state.lives → ⊥
NoneOffered kind.Cut state = MayCut state → ⊥
NoneOffered kind.Take state = (worker batch : ℕ) → MayTake worker batch state → ⊥
NoneOffered kind.Carry state = (worker batch : ℕ) → MayCarry worker batch state → ⊥
NoneOffered kind.Give state = (worker : ℕ) → IsSome (held_by state.scan.flights worker) → ⊥
NoneOffered kind.Distribute state = (batch : ℕ) → MayDistribute batch state → ⊥
NoneOffered kind.Finish state = (slot : ℕ) → MayFinish slot state → ⊥
NoneOffered kind.Clear state = (slot dimension : ℕ) → CanClear slot dimension state.lives → ⊥
NoneOffered kind.Release state = (slot : ℕ) → CanFree slot state.lives → ⊥
NoneOffered kind.Reorder state = IsSome (tables_of state).schema.fact → ⊥
NoneOffered kind.Abandon state = (query : ℕ) → CanAbandon query state.lives → ⊥

-- nothing of one kind is offered if nothing of the other is, which is the same
offered-of : (state : State) (one other : EventKind) → one ≡ other → NoneOffered other state → NoneOffered one state
offered-of state one other same none = subst (λ (of : EventKind). NoneOffered of state) (sym same) none

-- so no event of the kind may come
pub none-come : (of : EventKind) (state : State) → NoneOffered of state → NoneMayCome of state
none-come of state none (Submit seat statement) is may = offered-of state kind.Submit of is none seat may
none-come of state none (Reserve query slot) is may = offered-of state kind.Reserve of is none query slot may
none-come of state none (Build query dimension) is may = offered-of state kind.Build of is none query dimension may
none-come of state none (Start query) is may = offered-of state kind.Start of is none query may
none-come of state none Cut is may = offered-of state kind.Cut of is none may
none-come of state none (Take worker batch) is may = offered-of state kind.Take of is none worker batch may
none-come of state none (Carry worker batch) is may = offered-of state kind.Carry of is none worker batch may
none-come of state none (Give worker) is may = offered-of state kind.Give of is none worker may
none-come of state none (Distribute batch) is may = offered-of state kind.Distribute of is none batch may
none-come of state none (Finish slot) is may = offered-of state kind.Finish of is none slot may
none-come of state none (Clear slot dimension) is may = offered-of state kind.Clear of is none slot dimension may
none-come of state none (Release slot) is may = offered-of state kind.Release of is none slot may
none-come of state none Reorder is may = offered-of state kind.Reorder of is none may
none-come of state none (Abandon query) is may = offered-of state kind.Abandon of is none query may

-- managed kinds, one by one
pub all-managed : (kinds : List EventKind) → AreManaged kinds → All IsManaged kinds
all-managed [] managed = All-nil IsManaged
all-managed (first ∷ kinds) managed = All-cons IsManaged first kinds managed.0 (all-managed kinds managed.1)

-- a managed kind is not that of a Submit
pub managed-apart : (of : EventKind) → IsManaged of → of ≢ kind.Submit
managed-apart of managed is = subst IsManaged is managed

-- no event of one kind more may come, if none may of the kind that is asked for next
pub none-more : (kinds : List EventKind) (state : State) (place : ℕ) (d : EventKind) → AreManaged kinds → place < length kinds
    → AllWithin (λ of. NoneMayCome of state) kinds 0 place
    → (get_or kinds place d ≢ kind.Submit → NoneMayCome (get_or kinds place d) state)
    → AllWithin (λ of. NoneMayCome of state) kinds 0 (place + 1)
none-more kinds state place d managed low before none =
    AllWithin-more (λ of. NoneMayCome of state) kinds 0 place before
    (λ other. subst (λ (of : EventKind). NoneMayCome of state) (get_or_default kinds place d other low)
    (none (managed-apart (get_or kinds place d) (all-managed kinds managed place d low))))

-- batches in flight have different numbers in the code, too
pub numbers-apart : (parts : CoreParts) (flights : List Flight) → IsCore parts → flights ≡ parts.flights
    → AllPairs (λ flight other. flight.batch.number ≢ other.batch.number) flights
numbers-apart parts flights core same =
    subst (λ list. AllPairs (λ (flight other : Flight). flight.batch.number ≢ other.batch.number) list) (sym same)
    (λ i j d before low equal.
    let count : length (state_of parts).scan.flights ≡ length parts.flights = length-map parts.flights as_core in
    let left = get_or-map as_core parts.flights i d (as_core d) (omega arith) in
    let right = get_or-map as_core parts.flights j d (as_core d) low in
    core.sound.numbers.apart i j (as_core d) before (omega arith)
    (ap (λ (flight : state.Flight). flight.rows.number) left ∙ equal ∙ sym (ap (λ (flight : state.Flight). flight.rows.number) right)))
  where
    as_core : Flight → state.Flight
    as_core = flight_as (known_in parts.asked) (reaches_in parts.lives.queries)

-- what holds of a batch that is found holds of it as the core has it
found-as : (P : Flight → Type 0) (Q : state.Flight → Type 0) (known : List Known) (reaches : List Reach) (number : ℕ) (flights : List Flight)
    → ((flight : Flight) → P flight → Q (flight_as known reaches flight))
    → IsSomeAnd (find (λ flight. eqb flight.batch.number number) flights) P → IsSomeAnd (flight_at (flights_as known reaches flights) number) Q
found-as P Q known reaches number flights implies found =
    subst (λ o. IsSomeAnd o Q) (sym (find-map (flight_as known reaches) (λ flight. eqb flight.rows.number number) flights))
    (by_found (find (λ flight. eqb flight.batch.number number) flights) found)
  where
    by_found : (o : Option Flight) → IsSomeAnd o P → IsSomeAnd (option_map (flight_as known reaches) o) Q
    by_found None holds = holds
    by_found (Some flight) holds = implies flight holds

-- what holds of all holds of what is found
in-all : {X : Type 0} (P : X → Type 0) (p : X → Bool) (xs : List X) → All P xs → IfSome (find p xs) P
in-all P p [] all = tt
in-all {X} P p (x ∷ xs) all = by_test (p x) (in-all P p xs (All-tail P x xs all))
  where
    by_test : (t : Bool) → IfSome (find p xs) P → IfSome (cond {A = Option X} t (Some x) (find p xs)) P
    by_test true rest = All-head P x xs all
    by_test false rest = rest

-- what is there, and of which this holds where it is, and never does, is not there
never-found : {X : Type 0} (P : X → Type 0) (o : Option X) → IfSome o (λ x. P x → ⊥) → IsSome o → IfSome o P → ⊥
never-found P None never there holds = absurd (let both : false ≡ true = there in cc)
never-found P (Some x) never there holds = never holds

-- what is there, and what holds of it
found-there : {X : Type 0} (P : X → Type 0) (o : Option X) → IsSomeAnd o P → IsSome o × IfSome o P
found-there P None holds = absurd holds
found-there P (Some x) holds = (refl, holds)

-- a batch that is through in the code may be distributed
pub distribute-offered : (parts : CoreParts) (number : ℕ) (filters : state.Filters) (flights : List Flight)
    → filters ≡ parts.filters → flights ≡ parts.flights
    → IsSomeAnd (find (λ flight. eqb flight.batch.number number) flights) (Through filters) → MayDistribute number (state_of parts)
distribute-offered parts number filters flights meant same found = record { there = both.0; through = both.1 }
  where
    in_parts : IsSomeAnd (find (λ (flight : Flight). eqb flight.batch.number number) parts.flights) (Through filters)
    in_parts = subst (λ list. IsSomeAnd (find (λ (flight : Flight). eqb flight.batch.number number) list) (Through filters)) same found

    both : IsSome (flight_at (state_of parts).scan.flights number) × IfSome (flight_at (state_of parts).scan.flights number) (IsThrough parts.filters)
    both = found-there (IsThrough parts.filters) (flight_at (state_of parts).scan.flights number)
        (found-as (Through parts.filters) (IsThrough parts.filters) (known_in parts.asked) (reaches_in parts.lives.queries) number parts.flights
        (λ flight code. record { idle = code.idle; through = code.through })
        (subst (λ of. IsSomeAnd (find (λ (flight : Flight). eqb flight.batch.number number) parts.flights) (Through of)) meant in_parts))

-- where none is through, none may be
pub none-distributed : (parts : CoreParts) (filters : state.Filters) (flights : List Flight) → filters ≡ parts.filters → flights ≡ parts.flights
    → All (λ flight. Through filters flight → ⊥) flights → NoneMayCome kind.Distribute (state_of parts)
none-distributed parts filters flights meant same none = none-come kind.Distribute (state_of parts) (λ number may.
    never-found (IsThrough parts.filters) (flight_at (state_of parts).scan.flights number)
    (in-all (λ flight. IsThrough parts.filters flight → ⊥) (λ flight. eqb flight.rows.number number) (state_of parts).scan.flights each)
    may.there may.through)
  where
    each : All (λ flight. IsThrough parts.filters flight → ⊥) (state_of parts).scan.flights
    each = All-map (λ flight. IsThrough parts.filters flight → ⊥) (flight_as (known_in parts.asked) (reaches_in parts.lives.queries)) parts.flights
        (λ k d low is. subst (λ list. All (λ (flight : Flight). Through filters flight → ⊥) list) same none k d low
        (subst (λ of. Through of (get_or parts.flights k d)) (sym meant) (record { idle = is.idle; through = is.through })))

-- a batch that wants a filter in the code does in the core
pub take-offered : (parts : CoreParts) (found : Option ℕ) (filters : state.Filters) (flights : List Flight)
    → filters ≡ parts.filters → flights ≡ parts.flights
    → IfSome found (λ number. IsSomeAnd (find (λ flight. eqb flight.batch.number number) flights) (Wants filters))
    → IfSome found (λ number. IsSomeAnd (flight_at (state_of parts).scan.flights number) (IsWanting parts.filters))
take-offered parts None filters flights meant same wants = tt
take-offered parts (Some number) filters flights meant same wants =
    found-as (Wants parts.filters) (IsWanting parts.filters) (known_in parts.asked) (reaches_in parts.lives.queries) number parts.flights
    (λ flight code. record { idle = code.idle; bits = code.bits; filter = code.filter })
    (subst (λ of. IsSomeAnd (find (λ (flight : Flight). eqb flight.batch.number number) parts.flights) (Wants of)) meant in_parts)
  where
    in_parts : IsSomeAnd (find (λ (flight : Flight). eqb flight.batch.number number) parts.flights) (Wants filters)
    in_parts = subst (λ list. IsSomeAnd (find (λ (flight : Flight). eqb flight.batch.number number) list) (Wants filters)) same wants

-- where none does in the code, none does
pub none-wanting : (parts : CoreParts) (filters : state.Filters) (flights : List Flight) → filters ≡ parts.filters → flights ≡ parts.flights
    → All (λ flight. Wants filters flight → ⊥) flights → All (λ flight. IsWanting parts.filters flight → ⊥) (state_of parts).scan.flights
none-wanting parts filters flights meant same none =
    All-map (λ flight. IsWanting parts.filters flight → ⊥) (flight_as (known_in parts.asked) (reaches_in parts.lives.queries)) parts.flights
    (λ k d low is. subst (λ list. All (λ (flight : Flight). Wants filters flight → ⊥) list) same none k d low
    (subst (λ of. Wants of (get_or parts.flights k d)) (sym meant) (record { idle = is.idle; bits = is.bits; filter = is.filter })))

-- a slot that is over, and on no roster, may be finished
pub finish-offered : (parts : CoreParts) (slot : ℕ) (flights : List Flight) → IsCore parts → flights ≡ parts.flights
    → CanEnd slot parts.lives × (list_any (λ flight. eqb (bit_at flight.batch.roster slot) 1) flights ≡ false) → MayFinish slot (state_of parts)
finish-offered parts slot flights core same offered =
    (finished-landed parts slot flights (list_any (λ flight. eqb (bit_at flight.batch.roster slot) 1) flights) core same refl offered.0).0
    (not_from_false (list_any (λ flight. eqb (bit_at flight.batch.roster slot) 1) flights) offered.1)

-- where none is, none may be
pub none-finished : (parts : CoreParts) (flights : List Flight) → IsCore parts → flights ≡ parts.flights
    → ((slot : ℕ) → CanEnd slot parts.lives × (list_any (λ flight. eqb (bit_at flight.batch.roster slot) 1) flights ≡ false) → ⊥)
    → NoneMayCome kind.Finish (state_of parts)
none-finished parts flights core same none = none-come kind.Finish (state_of parts) (λ slot may. none slot (
  may.over,
  not-true (list_any (λ flight. eqb (bit_at flight.batch.roster slot) 1) flights)
      ((finished-landed parts slot flights (list_any (λ flight. eqb (bit_at flight.batch.roster slot) 1) flights) core same refl may.over).1 may),
))

-- Hands.

-- a worker with a free hand may take a batch that wants a filter
pub taking-offered : (worker batch : ℕ) (state : State) → HasFreeHand worker state
    → IsSomeAnd (flight_at state.scan.flights batch) (IsWanting state.filters) → MayTake worker batch state
taking-offered worker batch state free wants =
    let both = found-there (IsWanting state.filters) (flight_at state.scan.flights batch) wants in
    record { seat = free.0; empty = free.1; there = both.0; wanting = both.1 }

-- if no batch wants a filter, no worker may take one
pub none-taken : (state : State) → All (λ flight. IsWanting state.filters flight → ⊥) state.scan.flights → NoneMayCome kind.Take state
none-taken state none = none-come kind.Take state (λ worker batch may.
    never-found (IsWanting state.filters) (flight_at state.scan.flights batch)
    (in-all (λ flight. IsWanting state.filters flight → ⊥) (λ flight. eqb flight.rows.number batch) state.scan.flights none)
    may.there may.wanting)

-- nor if no worker has a free hand
pub none-takes : (state : State) → ((worker : ℕ) → HasFreeHand worker state → ⊥) → NoneMayCome kind.Take state
none-takes state none = none-come kind.Take state (λ worker batch may. none worker (may.seat, may.empty))

-- a worker with a free hand may carry a batch that is idle in the code
pub carry-offered : (parts : CoreParts) (worker batch : ℕ) (flights : List Flight) → flights ≡ parts.flights → HasFreeHand worker (state_of parts)
    → IsSomeAnd (find (λ flight. eqb flight.batch.number batch) flights) (λ flight. flight.hand ≡ None)
    → MayCarry worker batch (state_of parts)
carry-offered parts worker batch flights same free idle =
    record { seat = free.0; empty = free.1; there = both.0; idle = both.1 }
  where
    both : IsSome (flight_at (state_of parts).scan.flights batch)
        × IfSome (flight_at (state_of parts).scan.flights batch) (λ flight. flight.hand ≡ None)
    both = found-there (λ (flight : state.Flight). flight.hand ≡ None) (flight_at (state_of parts).scan.flights batch)
        (found-as (λ (flight : Flight). flight.hand ≡ None) (λ (flight : state.Flight). flight.hand ≡ None) (known_in parts.asked)
        (reaches_in parts.lives.queries) batch parts.flights (λ flight code. code)
        (subst (λ list. IsSomeAnd (find (λ (flight : Flight). eqb flight.batch.number batch) list) (λ flight. flight.hand ≡ None)) same idle))

-- if no batch is idle, no worker may carry one
pub none-carried : (parts : CoreParts) (flights : List Flight) → flights ≡ parts.flights → All (λ flight. flight.hand ≡ None → ⊥) flights
    → NoneMayCome kind.Carry (state_of parts)
none-carried parts flights same none = none-come kind.Carry (state_of parts) (λ worker batch may.
    never-found (λ (flight : state.Flight). flight.hand ≡ None) (flight_at (state_of parts).scan.flights batch)
    (in-all (λ flight. flight.hand ≡ None → ⊥) (λ flight. eqb flight.rows.number batch) (state_of parts).scan.flights each)
    may.there may.idle)
  where
    each : All (λ flight. flight.hand ≡ None → ⊥) (state_of parts).scan.flights
    each = All-map (λ (flight : state.Flight). flight.hand ≡ None → ⊥) (flight_as (known_in parts.asked) (reaches_in parts.lives.queries))
        parts.flights (subst (λ list. All (λ (flight : Flight). flight.hand ≡ None → ⊥) list) same none)

-- nor if no worker has a free hand
pub none-carries : (state : State) → ((worker : ℕ) → HasFreeHand worker state → ⊥) → NoneMayCome kind.Carry state
none-carries state none = none-come kind.Carry state (λ worker batch may. none worker (may.seat, may.empty))

-- no worker has a free hand if no seat of the settings has one
pub no-hand : (state : State) → IsSound state → ((k : ℕ) → k < state.settings.seats → HasFreeHand k state → ⊥)
    → (worker : ℕ) → HasFreeHand worker state → ⊥
no-hand state sound none worker free = none worker (subst (λ n. worker < n) sound.seats.count free.0) free

-- a batch is in the hand of a seat alone
held-seat : (now : State) (worker : ℕ) → IsSound now → IsSome (held_by now.scan.flights worker) → worker < length now.seats
held-seat now worker sound = by_found (held_by now.scan.flights worker) refl
  where
    Is : state.Flight → Type 0
    Is flight = IfSome flight.hand (IsSoundHand (length now.seats) now.lives.filters (tables_of now) flight)

    by_hand : (flight : state.Flight) (hand : Option state.Hand) → flight.hand ≡ hand → found.is_held_by worker flight ≡ true → Is flight
        → worker < length now.seats
    by_hand flight None is holds sound =
        absurd (let both : false ≡ true = sym (ap (λ o. option_map_or (λ (hand : state.Hand). eqb hand.worker worker) o false) is) ∙ holds in cc)
    by_hand flight (Some hand) is holds sound =
        let own = some-at (IsSoundHand (length now.seats) now.lives.filters (tables_of now) flight) flight.hand hand is sound in
        let same : hand.worker ≡ worker =
        eqb-true hand.worker worker (sym (ap (λ o. option_map_or (λ (hand : state.Hand). eqb hand.worker worker) o false) is) ∙ holds) in
        subst (λ n. n < length now.seats) same own.seat

    by_found : (o : Option state.Flight) → held_by now.scan.flights worker ≡ o → IsSome o → worker < length now.seats
    by_found None is some = absurd (let both : false ≡ true = some in cc)
    by_found (Some flight) is some =
        by_hand flight flight.hand refl (find-passes (found.is_held_by worker) now.scan.flights flight is)
        (some-at Is (held_by now.scan.flights worker) flight is (in-all Is (found.is_held_by worker) now.scan.flights sound.hands.each))

-- if no seat of the settings may give a batch back, none may
pub none-gives : (state : State) → IsSound state → ((k : ℕ) → k < state.settings.seats → IsSome (held_by state.scan.flights k) → ⊥)
    → NoneMayCome kind.Give state
none-gives state sound none = none-come kind.Give state (λ worker may.
    none worker (subst (λ n. worker < n) sound.seats.count (held-seat state worker sound may)) may)
