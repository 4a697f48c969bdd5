-- What is left of a core where a seat lets go what it waits for: no row has changed but its own, and of that nothing but what it waits for
-- and the replies that it took.
use Rattle.script_run.proofs.Words.{◌<◌, ◌∙◌, ◌∷◌, ◌≡◌, ◌≤◌, [], Abandon, Accepted, accepted_at, after_abandoning, after_taking, ap, append-nil, arith, Bool, cases_lt, cond, Contains, Done, empty_seat, eq-eqb, eqb, Err, false, find, find-holds, first_open, forgotten, get_or, get_or-set_same, get_or_past, IfSome, is_open, IsEnabled, IsSome, IsSound, IsSoundSeat, IsTrue, length, life_of, List, Lives, map, next_ready, None, Ok, OnOk, Option, option_map, option_map_or, Pending, query_in, QueryLife, refl, Result, Seat, seat_at, Some, State, subst, sym, taken_by, Took, true, with_seat, without_pending, ℕ, ⊎_elim}
use Rattle.std.proofs.Common.{not, set}
use Rattle.std.specs.List.{filter}
use Rattle.std.specs.Prelude.{◌↔◌, IsErrOf}
use Rattle.pipeline_manager.specs.Changes.{after_abandon}
use Rattle.pipeline_manager.specs.Conditions.{CanAbandon}
use Rattle.core_state.specs.Events.{after_event}
use Rattle.core_state.specs.Found.{held_by}
use Rattle.core_state.specs.Movers.{mover_of_event}
use Rattle.core_state.specs.Rows.{AbandonsRow, IsMindful, Sight, sight_of}
use Rattle.core_state.specs.Submitting.{Ready}
use Rattle.core_state.proofs.FoundLemmas.{accepted-number, find-passes}
use Rattle.core_state.proofs.MoverLemmas.{abandons-row, mindful-none, mindful-step, mindful-then}
use Rattle.core_state.proofs.RowLemmas.{takes-row}
use Rattle.core_state.proofs.ScannedOverLemmas.{life-accepted}
use Rattle.core_state.proofs.SeatLemmas.{one-seat, pending-submitted}
use Rattle.event_core.specs.Took.{MayWantMemory}
use Rattle.event_core.specs.declared.stepping.StepFault.{StepFault}
use Rattle.event_core.specs.declared.stepping.StepFault.TheVariants.{NotEnabled, Memory}
use Rattle.script_run.specs.Home.{LetsGo}
use Rattle.script_run.proofs.FrontOpenLemmas.{first-waits, some-is, taken-closed}
use Rattle.script_run.proofs.SeatTurnLemmas.{hand-taken, lets-abandoned, lets-then, mindful-taken}
use Rattle.script_run.proofs.TakenLemmas.{WaitsForOpen, idle-next}

-- Whose the query is.

-- a seat that waits for a query that may still be answered is there
open-there : (state : State) (seat query : ℕ) → first_open state.lives (seat_at state seat) ≡ Some query → seat < length state.seats
open-there state seat query opens = ⊎_elim (λ low. low)
    (λ past. absurd (let both : None ≡ Some query =
    sym (ap (first_open state.lives) (get_or_past state.seats seat empty_seat past)) ∙ opens in cc))
    (cases_lt seat (length state.seats))

-- and submitted it
open-submitted : (state : State) (seat query : ℕ) → IsSound state → first_open state.lives (seat_at state seat) ≡ Some query
    → Contains (seat_at state seat).submitted query
open-submitted state seat query sound opens = by_found (find test (seat_at state seat).pending) refl opens
  where
    test : Pending → Bool
    test p = option_map_or is_open (life_of state.lives p.statement) false

    of_seat : IsSoundSeat state.numbers.statement state.accepted state.lives.queries (seat_at state seat)
    of_seat = sound.seats.each seat empty_seat (open-there state seat query opens)

    by_found : (o : Option Pending) → find test (seat_at state seat).pending ≡ o → option_map (λ p. p.statement) o ≡ Some query
        → Contains (seat_at state seat).submitted query
    by_found None found none = absurd (let both : None ≡ Some query = none in cc)
    by_found (Some p) found some =
        let same : p.statement ≡ query = cc in
        subst (Contains (seat_at state seat).submitted) same
        (find-holds (λ (one : Pending). Contains (seat_at state seat).submitted one.statement) test (seat_at state seat).pending p found
        (pending-submitted state (seat_at state seat) of_seat))

-- so it is its own
open-own : (state : State) (seat query : ℕ) (accepted : Accepted) → IsSound state → first_open state.lives (seat_at state seat) ≡ Some query
    → accepted_at state.accepted query ≡ Some accepted → accepted.seat ≡ seat
open-own state seat query accepted sound opens found =
    one-seat state sound.seats accepted.seat seat query
    (subst (Contains (seat_at state accepted.seat).submitted) (accepted-number state.accepted query accepted found)
    (find-holds (λ (a : Accepted). Contains (seat_at state a.seat).submitted a.number) (λ (a : Accepted). eqb a.number query) state.accepted
    accepted found sound.seats.queries))
    (open-submitted state seat query sound opens)

-- and whoever abandons it moves the row of the seat
open-mover : (state : State) (seat query : ℕ) → IsSound state → first_open state.lives (seat_at state seat) ≡ Some query
    → IfSome (mover_of_event state (Abandon query)) (λ mover. mover ≡ seat)
open-mover state seat query sound opens = by_accepted (accepted_at state.accepted query) refl
  where
    by_accepted : (o : Option Accepted) → accepted_at state.accepted query ≡ o
        → IfSome (option_map (λ (a : Accepted). a.seat) o) (λ mover. mover ≡ seat)
    by_accepted None found = tt
    by_accepted (Some accepted) found = open-own state seat query accepted sound opens found

-- It may be abandoned.

-- what is found open may be
open-can : (lives : Lives) (seat : Seat) (query : ℕ) → first_open lives seat ≡ Some query → CanAbandon query lives
open-can lives seat query is = by_found (find test seat.pending) refl is
  where
    test : Pending → Bool
    test p = option_map_or is_open (life_of lives p.statement) false

    by_found : (o : Option Pending) → find test seat.pending ≡ o → option_map (λ p. p.statement) o ≡ Some query
        → option_map_or is_open (life_of lives query) false ≡ true
    by_found None found none = absurd (let both : None ≡ Some query = none in cc)
    by_found (Some p) found some =
        let same : p.statement ≡ query = cc in
        subst (λ n. option_map_or is_open (life_of lives n) false ≡ true) same (find-passes test seat.pending p found)

-- who may be abandoned was accepted
can-accepted : (state : State) (query : ℕ) → IsSound state → CanAbandon query state.lives → IsSome (accepted_at state.accepted query)
can-accepted state query sound can = life-accepted state query sound (by_life (query_in state.lives.queries query) can)
  where
    by_life : (o : Option QueryLife) → IsTrue (option_map_or is_open (option_map (λ (e : QueryLife). e.life) o) false) → IsSome o
    by_life None opens = absurd (let both : false ≡ true = opens in cc)
    by_life (Some e) opens = refl

-- the event was taken, since it may come and wants no memory
took-abandon : {A : Type 0} (query : ℕ) (old new : State) (result : Result A StepFault) → CanAbandon query old.lives
    → (IsErrOf result NotEnabled ↔ (IsEnabled old (Abandon query) → ⊥))
    → (IsErrOf result Memory → IsEnabled old (Abandon query) × MayWantMemory (Abandon query))
    → OnOk result (Took (Abandon query) old new) → new ≡ after_abandoning query old
unfolding after_event
took-abandon query old new (Ok x) can disabled memory took = ⊎_elim (λ done. done) (λ spoilt. absurd spoilt) took.after
took-abandon query old new (Err NotEnabled) can disabled memory took = absurd (disabled.0 refl can)
took-abandon query old new (Err Memory) can disabled memory took = absurd (memory refl).1

-- It is abandoned.

-- how far a seat has come
pub record IsLettingGo (seat : ℕ) (old now : State) : Type 0 where
  pub mindful : IsMindful seat old now
  pub abandons : AbandonsRow (sight_of old seat) (sight_of now seat)
  pub sound : IsSound now

-- nothing was abandoned, and one part behind another
abandons-none : (sight : Sight) → AbandonsRow sight sight
abandons-none sight = record { seen = refl; submitted = refl; made = refl; taken = refl; hand = refl }

abandons-then : (old between new : Sight) → AbandonsRow old between → AbandonsRow between new → AbandonsRow old new
abandons-then old between new first second = record {
  seen = second.seen ∙ first.seen;
  submitted = second.submitted ∙ first.submitted;
  made = second.made ∙ first.made;
  taken = second.taken ∙ first.taken;
  hand = second.hand ∙ first.hand;
}

pub starts-letting : (seat : ℕ) (state : State) → IsSound state → IsLettingGo seat state state
starts-letting seat state sound =
    record { mindful = mindful-none seat state; abandons = abandons-none (sight_of state seat); sound = sound }

-- no other row moves
mindful-abandoned : (seat : ℕ) (old new : State) (query : ℕ) → IsSound old → first_open old.lives (seat_at old seat) ≡ Some query
    → new ≡ after_abandoning query old → IsMindful seat old new
unfolding after_event
mindful-abandoned seat old new query sound opens is =
    subst (IsMindful seat old) (sym is)
    (mindful-step (Done (Abandon query)) old seat (open-can old.lives (seat_at old seat) query opens) sound
    (open-mover old seat query sound opens))

pub lets-more : {A : Type 0} (seat : ℕ) (first old new : State) (query : ℕ) (result : Result A StepFault) → IsLettingGo seat first old
    → Some query ≡ first_open old.lives (seat_at old seat) → (IsErrOf result NotEnabled ↔ (IsEnabled old (Abandon query) → ⊥))
    → (IsErrOf result Memory → IsEnabled old (Abandon query) × MayWantMemory (Abandon query)) → OnOk result (Took (Abandon query) old new)
    → IsSound new → IsLettingGo seat first new
lets-more seat first old new query result way opens disabled memory took sound =
    let is = took-abandon query old new result (open-can old.lives (seat_at old seat) query (sym opens)) disabled memory took in
    record {
      mindful = mindful-then seat first old new way.mindful (mindful-abandoned seat old new query way.sound (sym opens) is);
      abandons = abandons-then (sight_of first seat) (sight_of old seat) (sight_of new seat) way.abandons
          (subst (λ state. AbandonsRow (sight_of old seat) (sight_of state seat)) (sym is) (abandons-row old query seat));
      sound = sound;
    }

-- Less is waited for.

filter-most : (test : Pending → Bool) (pending : List Pending) → length (filter test pending) ≤ length pending
filter-most test [] = omega arith
filter-most test (first ∷ pending) = by_test (test first) (filter-most test pending)
  where
    by_test : (t : Bool) → length (filter test pending) ≤ length pending
        → length (cond {A = List Pending} t (first ∷ filter test pending) (filter test pending)) ≤ length (first ∷ pending)
    by_test true most = omega arith
    by_test false most = omega arith

filter-less : (test : Pending → Bool) (query : ℕ) (pending : List Pending) → option_map (λ p. p.statement) (find test pending) ≡ Some query
    → length (filter (λ p. not (eqb p.statement query)) pending) < length pending
filter-less test query [] found = absurd (let both : None ≡ Some query = found in cc)
filter-less test query (first ∷ pending) found = by_test (test first) found (filter-less test query pending)
  where
    kept : Pending → Bool
    kept p = not (eqb p.statement query)

    by_kept : (t : Bool) → length (filter kept pending) < length pending
        → length (cond {A = List Pending} t (first ∷ filter kept pending) (filter kept pending)) < length (first ∷ pending)
    by_kept true less = omega arith
    by_kept false less = omega arith

    by_test : (t : Bool) → option_map (λ p. p.statement) (cond {A = Option Pending} t (Some first) (find test pending)) ≡ Some query
        → (option_map (λ p. p.statement) (find test pending) ≡ Some query → length (filter kept pending) < length pending)
        → length (cond {A = List Pending} (not (eqb first.statement query)) (first ∷ filter kept pending) (filter kept pending)) < length (first ∷ pending)
    by_test true is others =
        let same : first.statement ≡ query = cc in
        let most = filter-most kept pending in
        subst (λ t. length (cond {A = List Pending} (not t) (first ∷ filter kept pending) (filter kept pending)) < length (first ∷ pending))
        (sym (eq-eqb first.statement query same)) (omega arith)
    by_test false is others = by_kept (not (eqb first.statement query)) (others is)

-- the core without a query of this seat
abbrev without_it : (query : ℕ) → State → Accepted → State
without_it query state accepted = with_seat accepted.seat (without_pending query)
    (record state { accepted = map (forgotten query) state.accepted; lives = after_abandon query state.lives })

-- what its seat waits for behind it
pending-after : (query : ℕ) (state : State) (accepted : Accepted) (seat : ℕ) → accepted.seat ≡ seat → seat < length state.seats
    → (seat_at (without_it query state accepted) seat).pending ≡ filter (λ p. not (eqb p.statement query)) (seat_at state seat).pending
pending-after query state accepted seat is there =
    ap (λ n. (get_or (set state.seats n (without_pending query (get_or state.seats n empty_seat))) seat empty_seat).pending) is
    ∙ ap (λ (s : Seat). s.pending) (get_or-set_same state.seats seat (without_pending query (seat_at state seat)) empty_seat there)

-- a seat whose query is abandoned waits for less
abandoned-less : (query : ℕ) (state : State) (seat : ℕ) → IsSound state → first_open state.lives (seat_at state seat) ≡ Some query
    → length (seat_at (after_abandoning query state) seat).pending < length (seat_at state seat).pending
abandoned-less query state seat sound opens =
    by_accepted (accepted_at state.accepted query) refl
    (can-accepted state query sound (open-can state.lives (seat_at state seat) query opens))
  where
    by_accepted : (o : Option Accepted) → accepted_at state.accepted query ≡ o → IsSome o
        → length (seat_at (option_map_or (without_it query state) o state) seat).pending < length (seat_at state seat).pending
    by_accepted None found some = absurd (let both : false ≡ true = some in cc)
    by_accepted (Some accepted) found some =
        subst (λ (list : List Pending). length list < length (seat_at state seat).pending)
        (sym (pending-after query state accepted seat (open-own state seat query accepted sound opens found)
        (open-there state seat query opens)))
        (filter-less (λ p. option_map_or is_open (life_of state.lives p.statement) false) query (seat_at state seat).pending opens)

pub lets-less : {A : Type 0} (seat : ℕ) (first old new : State) (query : ℕ) (result : Result A StepFault) → IsLettingGo seat first old
    → Some query ≡ first_open old.lives (seat_at old seat) → (IsErrOf result NotEnabled ↔ (IsEnabled old (Abandon query) → ⊥))
    → (IsErrOf result Memory → IsEnabled old (Abandon query) × MayWantMemory (Abandon query)) → OnOk result (Took (Abandon query) old new)
    → length (seat_at new seat).pending < length (seat_at old seat).pending
lets-less seat first old new query result way opens disabled memory took =
    let is = took-abandon query old new result (open-can old.lives (seat_at old seat) query (sym opens)) disabled memory took in
    subst (λ state. length (seat_at state seat).pending < length (seat_at old seat).pending) (sym is)
    (abandoned-less query old seat way.sound (sym opens))

-- A reply is taken, and dropped.

-- how far a seat has come with the replies that are there
pub record IsDropping (seat : ℕ) (old now : State) : Type 0 where
  pub mindful : IsMindful seat old now
  pub lets : LetsGo seat (sight_of old seat) (sight_of now seat)
  pub hand : held_by now.scan.flights seat ≡ held_by old.scan.flights seat
  pub closed : first_open old.lives (seat_at old seat) ≡ None → first_open now.lives (seat_at now seat) ≡ None
  pub sound : IsSound now

pub starts-dropping : (seat : ℕ) (state : State) → IsSound state → IsDropping seat state state
starts-dropping seat state sound = record {
  mindful = mindful-none seat state;
  lets = lets-abandoned seat state state (abandons-none (sight_of state seat));
  hand = refl;
  closed = λ none. none;
  sound = sound;
}

lets-taken : (seat : ℕ) (old new : State) → IsSome (next_ready old seat) → new ≡ after_taking seat old
    → LetsGo seat (sight_of old seat) (sight_of new seat)
lets-taken seat old new ready is =
    let waits = first-waits seat old ready in
    let row = takes-row old seat waits.0 waits.1 in
    subst (λ state. LetsGo seat (sight_of old seat) (sight_of state seat)) (sym is) (record {
      since = [];
      seen = row.seen ∙ sym (append-nil old.entries);
      made = refl;
      all_made = refl;
      submitted = row.submitted;
      more = taken_by waits.0 ∷ [];
      taken = row.taken;
    })

pub drops : (seat : ℕ) (first old new : State) (x : Ready) → IsDropping seat first old → Some x ≡ next_ready old seat
    → new ≡ after_taking seat old → IsSound new → IsDropping seat first new
drops seat first old new x way may is sound =
    let ready = some-is x (next_ready old seat) may in record {
      mindful = mindful-then seat first old new way.mindful (mindful-taken seat old new is);
      lets = lets-then seat (sight_of first seat) (sight_of old seat) (sight_of new seat) way.lets (lets-taken seat old new ready is);
      hand = hand-taken seat old new is ∙ way.hand;
      closed = λ none. taken-closed seat old new ready is (way.closed none);
      sound = sound;
    }

-- where no reply may be taken any more nothing has changed since
pub dropped : (seat : ℕ) (first now new : State) → IsDropping seat first now → new ≡ now → IsDropping seat first new
dropped seat first now new way same = subst (IsDropping seat first) (sym same) way

-- and where no query is open nothing is waited for
pub dropped-idle : WaitsForOpen → (seat : ℕ) (first now new : State) → IsDropping seat first now → new ≡ now → None ≡ next_ready now seat
    → first_open first.lives (seat_at first seat) ≡ None → (seat_at new seat).pending ≡ []
dropped-idle waits seat first now new way same none closed =
    ap (λ state. (seat_at state seat).pending) same ∙ idle-next waits now seat way.sound (way.closed closed) (sym none)
