-- When an event may come, by what the code asks of the batches in flight.
use Rattle.event_core.proofs.Words.{◌<◌, ◌||◌, ◌∙◌, ◌∷◌, ◌≡◌, [], All, All-head, All-tail, ap, bit_at, Bool, CanEnd, cond, CoreParts, eqb, false, find, find_position, Flight, flight_as, flight_at, flights_as, get_or, held_by, IfSome, IsCore, IsSome, IsThrough, IsWanting, Known, known_in, length, List, list_any, list_any_none, map, MayCut, MayDistribute, MayFinish, MayTake, None, not, not-true, Option, option_map, option_map_or, position, Reach, reaches_in, refl, slots_of, Some, some-at, state_of, subst, sym, Through, true, Wants, ℕ, is_none}
use Rattle.std.proofs.Common.{◌↔◌, is_some, IsTrue, nat_lt}
use Rattle.std.specs.Prelude.{Any}
use Rattle.pipeline_manager.specs.Conditions.{IsRunning}
use Rattle.std.proofs.lemmas.Bool.{lt-ltb, ltb-true}
use Rattle.std.proofs.lemmas.List.Folds.{find_at}
use Rattle.std.proofs.lemmas.Option.{slice_get_past}
use Rattle.core_state.specs.Events.{MayCarry}
use Rattle.core_state.specs.Found.{is_on_roster}
use Rattle.core_state.specs.State as state
use Rattle.core_state.proofs.FinishLemmas.{none-passes}
use Rattle.core_parts.proofs.NextFlightLemmas.{not-both}
use Rattle.event_core.specs.Lent.{HasFreeHand}
use Rattle.event_core.proofs.EnablingSetLemmas.{bit-roster}
use Rattle.star_values.proofs.PlaceLemmas.{past-from_none}

-- what is found in a map
pub find-map : {X Y : Type 0} (f : X → Y) (p : Y → Bool) (xs : List X) → find p (map f xs) ≡ option_map f (find (λ x. p (f x)) xs)
find-map f p [] = refl
find-map {X} {Y} f p (x ∷ xs) =
    ap (λ o. cond {A = Option Y} (p (f x)) (Some (f x)) o) (find-map f p xs) ∙ by_test (p (f x)) (find (λ x. p (f x)) xs)
  where
    by_test : (t : Bool) (o : Option X)
        → cond {A = Option Y} t (Some (f x)) (option_map f o) ≡ option_map f (cond {A = Option X} t (Some x) o)
    by_test true o = refl
    by_test false o = refl

-- where there is no place, nothing is found
none-at : {X : Type 0} (p : X → Bool) (xs : List X) → position p xs ≡ None → find p xs ≡ None
none-at p xs none = find_at p xs ∙ slice_get_past xs _ (past-from_none p xs none)

-- at the place is what is found
some-there : {X : Type 0} (p : X → Bool) (xs : List X) (place : ℕ) (x : X) → position p xs ≡ Some place → x ≡ get_or xs place x
    → find p xs ≡ Some x
some-there p xs place x at is = find_position p xs place x at ∙ ap Some (sym is)

-- there is a place where something is found
is_some-place : {X : Type 0} (p : X → Bool) (xs : List X) → is_some (position p xs) ≡ is_some (find p xs)
is_some-place p [] = refl
is_some-place p (x ∷ xs) = by_place (position p (x ∷ xs)) refl
  where
    by_place : (o : Option ℕ) → position p (x ∷ xs) ≡ o → is_some o ≡ is_some (find p (x ∷ xs))
    by_place None none = sym (ap is_some (none-at p (x ∷ xs) none))
    by_place (Some place) at = sym (ap is_some (find_position p (x ∷ xs) place x at))

-- what is found is there where it is in a map
is_some-map : {X Y : Type 0} (f : X → Y) (o : Option X) → is_some (option_map f o) ≡ is_some o
is_some-map f None = refl
is_some-map f (Some x) = refl

-- a worker's hand is empty where no batch is in it
is-held : (known : List Known) (reaches : List Reach) (worker : ℕ) (flights : List Flight)
    → is_some (position (λ flight. option_map_or (λ hand. eqb hand.worker worker) flight.hand false) flights)
    ≡ is_some (held_by (flights_as known reaches flights) worker)
is-held known reaches worker flights =
    is_some-place (λ flight. option_map_or (λ hand. eqb hand.worker worker) flight.hand false) flights
    ∙ sym (is_some-map (flight_as known reaches)
    (find (λ flight. option_map_or (λ hand. eqb hand.worker worker) flight.hand false) flights))
    ∙ ap is_some (sym (find-map (flight_as known reaches) (λ flight. option_map_or (λ hand. eqb hand.worker worker) flight.hand false) flights))

-- no batch has the number
no-flight : (known : List Known) (reaches : List Reach) (batch : ℕ) (flights : List Flight)
    → position (λ flight. eqb flight.batch.number batch) flights ≡ None → flight_at (flights_as known reaches flights) batch ≡ None
no-flight known reaches batch flights none =
    find-map (flight_as known reaches) (λ flight. eqb flight.rows.number batch) flights
    ∙ ap (option_map (flight_as known reaches)) (none-at (λ flight. eqb flight.batch.number batch) flights none)

-- a batch of the number
flight-there : (known : List Known) (reaches : List Reach) (batch : ℕ) (flights : List Flight) (place : ℕ) (flight : Flight)
    → position (λ flight. eqb flight.batch.number batch) flights ≡ Some place → flight ≡ get_or flights place flight
    → flight_at (flights_as known reaches flights) batch ≡ Some (flight_as known reaches flight)
flight-there known reaches batch flights place flight at is =
    find-map (flight_as known reaches) (λ flight. eqb flight.rows.number batch) flights
    ∙ ap (option_map (flight_as known reaches)) (some-there (λ flight. eqb flight.batch.number batch) flights place flight at is)

-- the batch of the number among those of the parts
found-at : (parts : CoreParts) (batch : ℕ) (flights : List Flight) (place : ℕ) (flight : Flight) → flights ≡ parts.flights
    → position (λ flight. eqb flight.batch.number batch) flights ≡ Some place → flight ≡ get_or flights place flight
    → flight_at (state_of parts).scan.flights batch ≡ Some (flight_as (known_in parts.asked) (reaches_in parts.lives.queries) flight)
found-at parts batch flights place flight same at is =
    subst (λ list. flight_at (flights_as (known_in parts.asked) (reaches_in parts.lives.queries) list) batch
    ≡ Some (flight_as (known_in parts.asked) (reaches_in parts.lives.queries) flight)) same
    (flight-there (known_in parts.asked) (reaches_in parts.lives.queries) batch flights place flight at is)

-- what is found
some-flight : (o : Option state.Flight) (flight : state.Flight) → o ≡ Some flight → IsSome o
some-flight o flight is = ap is_some is

-- what holds of what is found
if-flight : (P : state.Flight → Type 0) (o : Option state.Flight) (flight : state.Flight) → o ≡ Some flight → P flight → IfSome o P
if-flight P o flight is holds = subst (λ o. IfSome o P) (sym is) holds

-- a batch that is not there is not distributed
pub undistributed : (parts : CoreParts) (batch : ℕ) (flights : List Flight) → flights ≡ parts.flights
    → position (λ flight. eqb flight.batch.number batch) flights ≡ None → IsTrue false ↔ MayDistribute batch (state_of parts)
undistributed parts batch flights same none = (
  (λ never. absurd (not-both false refl never)),
  (λ may. absurd (not-both (is_some found) (ap is_some (no-flight known reaches batch parts.flights here)) may.there)),
)
  where
    known : List Known
    known = known_in parts.asked

    reaches : List Reach
    reaches = reaches_in parts.lives.queries

    found : Option state.Flight
    found = flight_at (flights_as known reaches parts.flights) batch

    here : position (λ (flight : Flight). eqb flight.batch.number batch) parts.flights ≡ None
    here = subst (λ list. position (λ (flight : Flight). eqb flight.batch.number batch) list ≡ None) same none

-- one that is there may be distributed where it is through
pub distributed-through : (parts : CoreParts) (batch : ℕ) (filters : state.Filters) (flights : List Flight) (place : ℕ) (flight : Flight)
    → (through : Bool) → filters ≡ parts.filters → flights ≡ parts.flights → position (λ flight. eqb flight.batch.number batch) flights ≡ Some place
    → flight ≡ get_or flights place flight → IsTrue through ↔ Through filters flight
    → IsTrue through ↔ MayDistribute batch (state_of parts)
distributed-through parts batch filters flights place flight through meant same at is test = (
  (λ passes. record { there = some-flight found own there; through = if-flight (IsThrough parts.filters) found own there (of-code (of-parts.0 passes)) }),
  (λ may. of-parts.1 (to-code (some-at (IsThrough parts.filters) found own there may.through))),
)
  where
    known : List Known
    known = known_in parts.asked

    reaches : List Reach
    reaches = reaches_in parts.lives.queries

    found : Option state.Flight
    found = flight_at (flights_as known reaches parts.flights) batch

    own : state.Flight
    own = flight_as known reaches flight

    there : flight_at (flights_as known reaches parts.flights) batch ≡ Some (flight_as known reaches flight)
    there = found-at parts batch flights place flight same at is

    of-parts : IsTrue through ↔ Through parts.filters flight
    of-parts = subst (λ (filters : state.Filters). IsTrue through ↔ Through filters flight) meant test

    of-code : Through parts.filters flight → IsThrough parts.filters (flight_as known reaches flight)
    of-code code = record { idle = code.idle; through = code.through }

    to-code : IsThrough parts.filters (flight_as known reaches flight) → Through parts.filters flight
    to-code law = record { idle = law.idle; through = law.through }

-- where nothing is found there is none
none-found : (o : Option state.Flight) → is_some o ≡ false → o ≡ None
none-found None is = refl
none-found (Some flight) is = absurd (not-both true is refl)

-- a worker's hand is empty where no batch has a place in it
pub empty-hand : (parts : CoreParts) (worker : ℕ) → position (λ flight. option_map_or (λ hand. eqb hand.worker worker) flight.hand false) parts.flights ≡ None
    → held_by (state_of parts).scan.flights worker ≡ None
empty-hand parts worker none =
    none-found (held_by (state_of parts).scan.flights worker)
    (sym (is-held (known_in parts.asked) (reaches_in parts.lives.queries) worker parts.flights) ∙ ap is_some none)

-- whether it is, is told by whether one has
pub free-hand : (parts : CoreParts) (worker : ℕ) (flights : List Flight) (place : Option ℕ) (free : Bool) → flights ≡ parts.flights
    → position (λ flight. option_map_or (λ hand. eqb hand.worker worker) flight.hand false) flights ≡ place
    → is_some place ≡ not free → worker < length (state_of parts).seats → IsTrue free ↔ HasFreeHand worker (state_of parts)
free-hand parts worker flights place free same at told seat = by_place place free here told
  where
    here : position (λ (flight : Flight). option_map_or (λ hand. eqb hand.worker worker) flight.hand false) parts.flights ≡ place
    here = ap (position (λ (flight : Flight). option_map_or (λ hand. eqb hand.worker worker) flight.hand false)) (sym same) ∙ at

    by_place : (o : Option ℕ) (t : Bool)
        → position (λ (flight : Flight). option_map_or (λ hand. eqb hand.worker worker) flight.hand false) parts.flights ≡ o
        → is_some o ≡ not t → IsTrue t ↔ HasFreeHand worker (state_of parts)
    by_place None true none told = (λ _. (seat, empty-hand parts worker none), λ _. refl)
    by_place None false none told = absurd (let both : false ≡ true = told in cc)
    by_place (Some place) true held told = absurd (let both : true ≡ false = told in cc)
    by_place (Some place) false held told = (
      (λ never. absurd (not-both false refl never)),
      (λ free. absurd (not-both (is_some (held_by (state_of parts).scan.flights worker)) (ap is_some free.1)
          (sym (is-held (known_in parts.asked) (reaches_in parts.lives.queries) worker parts.flights) ∙ ap is_some held))),
    )

-- a worker without a seat has none
pub no-seat : (parts : CoreParts) (worker : ℕ) (has : Bool) → IsTrue has ↔ (worker < length (state_of parts).seats) → has ≡ false
    → IsTrue has ↔ HasFreeHand worker (state_of parts)
no-seat parts worker has test none =
    ((λ holds. absurd (not-both has none holds)), (λ free. absurd (not-both has none (test.1 free.0))))

-- a worker whose hand is not empty takes no batch
pub untaken-hand : (parts : CoreParts) (worker batch : ℕ) (free : Bool) → IsTrue free ↔ HasFreeHand worker (state_of parts) → free ≡ false
    → IsTrue false ↔ MayTake worker batch (state_of parts)
untaken-hand parts worker batch free test none = (
  (λ never. absurd (not-both false refl never)),
  (λ may. absurd (not-both free none (test.1 (may.seat, may.empty)))),
)

-- nor does it carry one
pub uncarried-hand : (parts : CoreParts) (worker batch : ℕ) (free : Bool) → IsTrue free ↔ HasFreeHand worker (state_of parts) → free ≡ false
    → IsTrue false ↔ MayCarry worker batch (state_of parts)
uncarried-hand parts worker batch free test none = (
  (λ never. absurd (not-both false refl never)),
  (λ may. absurd (not-both free none (test.1 (may.seat, may.empty)))),
)

-- a batch that has no place is not there
not-there : (parts : CoreParts) (batch : ℕ) (flights : List Flight) → flights ≡ parts.flights
    → position (λ flight. eqb flight.batch.number batch) flights ≡ None → IsSome (flight_at (state_of parts).scan.flights batch) → ⊥
not-there parts batch flights same none there =
    not-both (is_some (flight_at (state_of parts).scan.flights batch))
    (ap is_some (no-flight (known_in parts.asked) (reaches_in parts.lives.queries) batch parts.flights
    (subst (λ list. position (λ (flight : Flight). eqb flight.batch.number batch) list ≡ None) same none))) there

-- so no worker takes it
pub untaken-batch : (parts : CoreParts) (worker batch : ℕ) (flights : List Flight) → flights ≡ parts.flights
    → position (λ flight. eqb flight.batch.number batch) flights ≡ None → IsTrue false ↔ MayTake worker batch (state_of parts)
untaken-batch parts worker batch flights same none = (
  (λ never. absurd (not-both false refl never)),
  (λ may. absurd (not-there parts batch flights same none may.there)),
)

-- nor carries it
pub uncarried-batch : (parts : CoreParts) (worker batch : ℕ) (flights : List Flight) → flights ≡ parts.flights
    → position (λ flight. eqb flight.batch.number batch) flights ≡ None → IsTrue false ↔ MayCarry worker batch (state_of parts)
uncarried-batch parts worker batch flights same none = (
  (λ never. absurd (not-both false refl never)),
  (λ may. absurd (not-there parts batch flights same none may.there)),
)

-- a worker with an empty hand may take a batch that wants a filter
pub taken-wanting : (parts : CoreParts) (worker batch : ℕ) (filters : state.Filters) (flights : List Flight) (place : ℕ)
    → (flight : Flight) (wanting : Bool) → filters ≡ parts.filters → HasFreeHand worker (state_of parts) → flights ≡ parts.flights
    → position (λ flight. eqb flight.batch.number batch) flights ≡ Some place → flight ≡ get_or flights place flight
    → IsTrue wanting ↔ Wants filters flight → IsTrue wanting ↔ MayTake worker batch (state_of parts)
taken-wanting parts worker batch filters flights place flight wanting meant free same at is test = (
  (λ passes. record {
    seat = free.0;
    empty = free.1;
    there = some-flight found own there;
    wanting = if-flight (IsWanting parts.filters) found own there (of-code (of-parts.0 passes));
  }),
  (λ may. of-parts.1 (to-code (some-at (IsWanting parts.filters) found own there may.wanting))),
)
  where
    found : Option state.Flight
    found = flight_at (state_of parts).scan.flights batch

    own : state.Flight
    own = flight_as (known_in parts.asked) (reaches_in parts.lives.queries) flight

    there : flight_at (state_of parts).scan.flights batch ≡ Some own
    there = found-at parts batch flights place flight same at is

    of-parts : IsTrue wanting ↔ Wants parts.filters flight
    of-parts = subst (λ (filters : state.Filters). IsTrue wanting ↔ Wants filters flight) meant test

    of-code : Wants parts.filters flight → IsWanting parts.filters own
    of-code code = record { idle = code.idle; bits = code.bits; filter = code.filter }

    to-code : IsWanting parts.filters own → Wants parts.filters flight
    to-code law = record { idle = law.idle; bits = law.bits; filter = law.filter }

-- and carry one that is idle
pub carried-idle : (parts : CoreParts) (worker batch : ℕ) (flights : List Flight) (place : ℕ) (flight : Flight) (idle : Bool)
    → HasFreeHand worker (state_of parts) → flights ≡ parts.flights
    → position (λ flight. eqb flight.batch.number batch) flights ≡ Some place → flight ≡ get_or flights place flight
    → idle ≡ is_none flight.hand → IsTrue idle ↔ MayCarry worker batch (state_of parts)
carried-idle parts worker batch flights place flight idle free same at is test = (
  (λ holds. record {
    seat = free.0;
    empty = free.1;
    there = some-flight found own there;
    idle = if-flight (λ (one : state.Flight). one.hand ≡ None) found own there (none-there flight.hand (sym test ∙ holds));
  }),
  (λ may. test ∙ ap is_none (some-at (λ (one : state.Flight). one.hand ≡ None) found own there may.idle)),
)
  where
    found : Option state.Flight
    found = flight_at (state_of parts).scan.flights batch

    own : state.Flight
    own = flight_as (known_in parts.asked) (reaches_in parts.lives.queries) flight

    there : flight_at (state_of parts).scan.flights batch ≡ Some own
    there = found-at parts batch flights place flight same at is

    none-there : (o : Option state.Hand) → is_none o ≡ true → o ≡ None
    none-there None none = refl
    none-there (Some hand) never = absurd (not-both false refl never)

-- whether a slot is on some roster, by the rosters' sets and by their entries
on-some : (known : List Known) (reaches : List Reach) (slot : ℕ) (flights : List Flight)
    → All (λ flight. flight.rows.roster ≡ slots_of flight.roster) (flights_as known reaches flights)
    → list_any (λ flight. eqb (bit_at flight.batch.roster slot) 1) flights ≡ list_any (is_on_roster slot) (flights_as known reaches flights)
on-some known reaches slot [] slots = refl
on-some known reaches slot (flight ∷ flights) slots =
    ap (λ t. t || list_any (λ (flight : Flight). eqb (bit_at flight.batch.roster slot) 1) flights)
    (ap (λ set. eqb (bit_at set slot) 1)
    (All-head (λ flight. flight.rows.roster ≡ slots_of flight.roster) (flight_as known reaches flight) (flights_as known reaches flights) slots)
    ∙ bit-roster slot (flight_as known reaches flight).roster)
    ∙ ap (λ t. is_on_roster slot (flight_as known reaches flight) || t)
    (on-some known reaches slot flights
    (All-tail (λ flight. flight.rows.roster ≡ slots_of flight.roster) (flight_as known reaches flight) (flights_as known reaches flights) slots))

-- a slot that is over may be finished where no batch has it on its roster
pub finished-landed : (parts : CoreParts) (slot : ℕ) (flights : List Flight) (on : Bool) → IsCore parts → flights ≡ parts.flights
    → on ≡ list_any (λ flight. eqb (bit_at flight.batch.roster slot) 1) flights → CanEnd slot parts.lives
    → IsTrue (not on) ↔ MayFinish slot (state_of parts)
finished-landed parts slot flights on core same test over = (
  (λ none. record { over = over; landed = none-passes (is_on_roster slot) (state_of parts).scan.flights (sym asked ∙ not-true on none) }),
  (λ may. ap not (asked ∙ list_any_none (is_on_roster slot) (state_of parts).scan.flights may.landed)),
)
  where
    asked : on ≡ list_any (is_on_roster slot) (state_of parts).scan.flights
    asked = test ∙ ap (list_any (λ (flight : Flight). eqb (bit_at flight.batch.roster slot) 1)) same
        ∙ on-some (known_in parts.asked) (reaches_in parts.lives.queries) slot parts.flights
        (λ k d low. (core.sound.batches k d low).slots)

-- a worker may give back where a batch is in its hand
pub given-held : (parts : CoreParts) (worker : ℕ) (flights : List Flight) (held : Bool) → flights ≡ parts.flights
    → held ≡ is_some (position (λ flight. option_map_or (λ hand. eqb hand.worker worker) flight.hand false) flights)
    → IsTrue held ↔ IsSome (held_by (state_of parts).scan.flights worker)
given-held parts worker flights held same test =
    ((λ holds. sym is ∙ holds), (λ some. is ∙ some))
  where
    is : held ≡ is_some (held_by (state_of parts).scan.flights worker)
    is = test ∙ ap (λ list. is_some (position (λ (flight : Flight). option_map_or (λ hand. eqb hand.worker worker) flight.hand false) list)) same
        ∙ is-held (known_in parts.asked) (reaches_in parts.lives.queries) worker parts.flights

-- where a query runs, a cut may come as far as a frame is free
pub cut-seen : (parts now : CoreParts) (free : ℕ) (runs : Bool) → parts ≡ now
    → IsTrue runs ↔ Any (λ entry. IsRunning entry.life) parts.lives.queries → runs ≡ true → free ≡ length parts.pool.inside
    → IsTrue (nat_lt 0 free) ↔ MayCut (state_of now)
cut-seen parts now free runs same exact run counted = subst (λ (one : CoreParts). IsTrue (nat_lt 0 free) ↔ MayCut (state_of one)) same (
  λ some. record {
    running = exact.0 (subst IsTrue (sym run) refl);
    frame = subst (λ n. 0 < n) counted (ltb-true 0 free some);
  },
  λ may. lt-ltb 0 free (subst (λ n. 0 < n) (sym counted) may.frame),
)

-- where no query runs, none may come
pub uncut-seen : (parts now : CoreParts) (runs : Bool) → parts ≡ now
    → IsTrue runs ↔ Any (λ entry. IsRunning entry.life) parts.lives.queries → runs ≡ false → IsTrue runs ↔ MayCut (state_of now)
uncut-seen parts now runs same exact idle =
    subst (λ (one : CoreParts). IsTrue runs ↔ MayCut (state_of one)) same (λ run. absurd (let never : true ≡ false = sym run ∙ idle in cc), λ may. exact.1 may.running)
