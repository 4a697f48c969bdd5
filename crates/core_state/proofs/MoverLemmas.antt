-- A step moves no row but that of its mover: which hands stay at each event, and what an abandoned query leaves of a row.
use Rattle.core_state.proofs.Words.{◌++◌, ◌∙◌, ◌∷◌, ◌≡◌, ◌≢◌, [], Abandon, Accepted, accepted_at, after_abandoning, after_carry, after_cutting, after_distribute, after_give, after_step, after_steps, after_submitting, after_take, after_taking, All, All-append, All-cons, All-head, All-nil, All-tail, all_pairs_head, all_pairs_tail, AllPairs, ap, append_assoc, Bool, Carry, cond, Cut, Distribute, Done, empty_seat, Entry, eqb, eqb-true, Event, false, FilterVersion, find, Flight, flight_at, get_or, get_or-set_other, Give, given_back, Hand, held_by, IfSome, is_held_by, IsEnabled, IsSound, IsThrough, List, MayCarry, MayDistribute, MaySpoil, MayStep, MayStepAll, MayTake, ne_eqb, None, not, Option, option_map, option_map_or, refl, Replying, seat_at, Some, State, Step, Submit, subst, sym, Take, true, Wanting, without_pending, ℕ}
use Rattle.core_state.specs.Cutting.{with_flight}
use Rattle.core_state.specs.Events.{IsWanting, after_event, after_want}
use Rattle.core_state.specs.Found.{filters_left, next_filter}
use Rattle.core_state.specs.Movers.{AreOfSeat, IsOfSeat, mover_of_event}
use Rattle.core_state.specs.Rows.{AbandonsRow, IsMindful, sight_of}
use Rattle.core_state.proofs.AcceptedLemmas.{find-holds}
use Rattle.core_state.proofs.DistributeLemmas.{without_flight}
use Rattle.core_state.proofs.FoundLemmas.{find-passes, some-at, some-of}
use Rattle.core_state.proofs.RowLemmas.{mindful-still, submits-mindful, takes-mindful}
use Rattle.core_state.proofs.SeatLemmas.{part-changed}
use Rattle.core_state.proofs.StepLemmas.{StepsKeep}
use Rattle.core_state.proofs.WholeFrameLemmas.{Frame, by-option, frame-want, makes-done}

-- Batches in a hand.

-- a batch of this number is not in the hand of the worker
abbrev IsFreeOf : (worker number : ℕ) → Flight → Type 0
IsFreeOf worker number flight = flight.rows.number ≡ number → is_held_by worker flight ≡ false

-- two batches have different numbers
abbrev Differ : Flight → Flight → Type 0
Differ flight other = flight.rows.number ≢ other.rows.number

-- where a batch that is found is not in the hand, no batch of its number is: there is no other
free-found : (worker number : ℕ) (p : Flight → Bool) (flights : List Flight) (flight : Flight) → find p flights ≡ Some flight
    → flight.rows.number ≡ number → is_held_by worker flight ≡ false → AllPairs Differ flights → All (IsFreeOf worker number) flights
free-found worker number p [] flight is has free apart = All-nil (IsFreeOf worker number)
free-found worker number p (first ∷ flights) flight is has free apart =
    by_test (p first) is (λ found. free-found worker number p flights flight found has free (all_pairs_tail Differ first flights apart))
  where
    others : All (Differ first) flights
    others = all_pairs_head Differ first flights apart

    by_test : (test : Bool) → cond {A = Option Flight} test (Some first) (find p flights) ≡ Some flight
        → (find p flights ≡ Some flight → All (IsFreeOf worker number) flights) → All (IsFreeOf worker number) (first ∷ flights)
    by_test true found rest =
        let same : first ≡ flight = cc in
        All-cons (IsFreeOf worker number) first flights (λ of. subst (λ f. is_held_by worker f ≡ false) (sym same) free)
        (λ k d low of. absurd (others k d low (ap (λ f. f.rows.number) same ∙ has ∙ sym of)))
    by_test false found rest =
        All-cons (IsFreeOf worker number) first flights
        (λ of. absurd (find-holds (Differ first) p flights flight found others (of ∙ sym has))) (rest found)

-- so where it is found by its number, and is idle
free-idle : (worker number : ℕ) (flights : List Flight) (flight : Flight) → flight_at flights number ≡ Some flight → flight.hand ≡ None
    → AllPairs Differ flights → All (IsFreeOf worker number) flights
free-idle worker number flights flight is idle =
    free-found worker number (λ f. eqb f.rows.number number) flights flight is
    (eqb-true flight.rows.number number (find-passes (λ f. eqb f.rows.number number) flights flight is))
    (ap (λ hand. option_map_or (λ (h : Hand). eqb h.worker worker) hand false) idle)

-- what is in the hand of a worker is in that of no other
other-hand : (worker other : ℕ) (hand : Option Hand) → option_map_or (λ h. eqb h.worker worker) hand false ≡ true → other ≢ worker
    → option_map_or (λ h. eqb h.worker other) hand false ≡ false
other-hand worker other None held apart = absurd (let both : false ≡ true = held in cc)
other-hand worker other (Some hand) held apart = ne_eqb hand.worker other (λ same. apart (sym same ∙ eqb-true hand.worker worker held))

-- a hand has what it had where a batch comes that is not in it
held-behind : (worker : ℕ) (flights : List Flight) (flight : Flight) → is_held_by worker flight ≡ false
    → held_by (flights ++ flight ∷ []) worker ≡ held_by flights worker
held-behind worker [] flight free = ap (λ test. cond {A = Option Flight} test (Some flight) None) free
held-behind worker (first ∷ flights) flight free =
    ap (cond {A = Option Flight} (is_held_by worker first) (Some first)) (held-behind worker flights flight free)

-- where one changes that was not in it, and is not in it then
held-changed : (worker number : ℕ) (change : Flight → Flight) → ((flight : Flight) → is_held_by worker (change flight) ≡ false)
    → (flights : List Flight) → All (IsFreeOf worker number) flights → held_by (with_flight number change flights) worker ≡ held_by flights worker
held-changed worker number change empties [] free = refl
held-changed worker number change empties (flight ∷ flights) free =
    by_test (eqb flight.rows.number number) refl
    (held-changed worker number change empties flights (All-tail (IsFreeOf worker number) flight flights free))
  where
    by_test : (test : Bool) → eqb flight.rows.number number ≡ test → held_by (with_flight number change flights) worker ≡ held_by flights worker
        → held_by (cond {A = Flight} test (change flight) flight ∷ with_flight number change flights) worker ≡ held_by (flight ∷ flights) worker
    by_test true is rest =
        ap (λ t. cond {A = Option Flight} t (Some (change flight)) (held_by (with_flight number change flights) worker)) (empties flight)
        ∙ rest
        ∙ sym (ap (λ t. cond {A = Option Flight} t (Some flight) (held_by flights worker))
        (All-head (IsFreeOf worker number) flight flights free (eqb-true flight.rows.number number is)))
    by_test false is rest = ap (cond {A = Option Flight} (is_held_by worker flight) (Some flight)) rest

-- and where one goes that was not in it
held-without : (worker number : ℕ) (flights : List Flight) → All (IsFreeOf worker number) flights
    → held_by (without_flight number flights) worker ≡ held_by flights worker
held-without worker number [] free = refl
held-without worker number (flight ∷ flights) free =
    by_test (eqb flight.rows.number number) refl (held-without worker number flights (All-tail (IsFreeOf worker number) flight flights free))
  where
    by_test : (test : Bool) → eqb flight.rows.number number ≡ test → held_by (without_flight number flights) worker ≡ held_by flights worker
        → held_by (cond {A = List Flight} (not test) (flight ∷ without_flight number flights) (without_flight number flights)) worker
        ≡ held_by (flight ∷ flights) worker
    by_test true is rest =
        rest ∙ sym (ap (λ t. cond {A = Option Flight} t (Some flight) (held_by flights worker))
        (All-head (IsFreeOf worker number) flight flights free (eqb-true flight.rows.number number is)))
    by_test false is rest = ap (cond {A = Option Flight} (is_held_by worker flight) (Some flight)) rest

-- Hands after an event.

-- a batch that is taken was idle, and is in the worker's hand then or in none
hands-taken : (worker batch other : ℕ) (state : State) → MayTake worker batch state → IsSound state → other ≢ worker
    → held_by (after_take worker batch state).scan.flights other ≡ held_by state.scan.flights other
hands-taken worker batch other state may sound apart =
    let found = some-of (flight_at state.scan.flights batch) may.there in
    let wants : IsWanting state.filters found.0 =
    some-at (IsWanting state.filters) (flight_at state.scan.flights batch) found.0 found.1 may.wanting in
    held-changed other batch taken (λ flight. by_next (next_filter state.filters flight)) state.scan.flights
    (free-idle other batch state.scan.flights found.0 found.1 wants.idle sound.numbers.apart)
  where
    taken : Flight → Flight
    taken flight = record flight {
      hand = option_map (λ version. record { worker = worker; versions = version ∷ [] }) (next_filter state.filters flight);
    }

    by_next : (next : Option FilterVersion)
        → option_map_or (λ h. eqb h.worker other) (option_map {U = Hand} (λ version. record { worker = worker; versions = version ∷ [] }) next) false
        ≡ false
    by_next None = refl
    by_next (Some version) = ne_eqb worker other (λ same. apart (sym same))

-- one that is carried was idle, and is in the worker's hand then
hands-carried : (worker batch other : ℕ) (state : State) → MayCarry worker batch state → IsSound state → other ≢ worker
    → held_by (after_carry worker batch state).scan.flights other ≡ held_by state.scan.flights other
hands-carried worker batch other state may sound apart =
    let found = some-of (flight_at state.scan.flights batch) may.there in
    let idle : found.0.hand ≡ None =
    some-at (λ (f : Flight). f.hand ≡ None) (flight_at state.scan.flights batch) found.0 found.1 may.idle in
    held-changed other batch (λ flight. record flight { hand = Some (record { worker = worker; versions = filters_left state.filters flight }) })
    (λ flight. ne_eqb worker other (λ same. apart (sym same))) state.scan.flights
    (free-idle other batch state.scan.flights found.0 found.1 idle sound.numbers.apart)

-- one that is given back was in the worker's hand, and is in none then
hands-given : (worker other : ℕ) (state : State) → IsSound state → other ≢ worker
    → held_by (after_give worker state).scan.flights other ≡ held_by state.scan.flights other
hands-given worker other state sound apart =
    by-option (λ now. held_by now.scan.flights other ≡ held_by state.scan.flights other) (held_by state.scan.flights worker) _ state refl
    (λ flight is. held-changed other flight.rows.number given_back (λ f. refl) state.scan.flights
    (free-found other flight.rows.number (is_held_by worker) state.scan.flights flight is refl
    (other-hand worker other flight.hand (find-passes (is_held_by worker) state.scan.flights flight is) apart) sound.numbers.apart))

-- one that is distributed was idle
hands-landed : (batch worker : ℕ) (spoiled : List ℕ) (state : State) → MayDistribute batch state → IsSound state
    → held_by (after_distribute batch spoiled state).scan.flights worker ≡ held_by state.scan.flights worker
hands-landed batch worker spoiled state may sound =
    by-option (λ now. held_by now.scan.flights worker ≡ held_by state.scan.flights worker) (flight_at state.scan.flights batch) _ state refl
    (λ flight is.
    let through : IsThrough state.filters flight =
    some-at (IsThrough state.filters) (flight_at state.scan.flights batch) flight is may.through in
    held-without worker batch state.scan.flights (free-idle worker batch state.scan.flights flight is through.idle sound.numbers.apart))

-- Rows after a step.

-- where nothing changes no row moves
pub mindful-none : (seat : ℕ) (state : State) → IsMindful seat state state
mindful-none seat state = mindful-still seat state state refl refl (λ other apart. (refl, refl))

-- one change of a seat behind another
pub mindful-then : (seat : ℕ) (old between new : State) → IsMindful seat old between → IsMindful seat between new → IsMindful seat old new
mindful-then seat old between new first second = record {
  rows = λ other apart. second.rows other apart ∙ first.rows other apart;
  since = first.since ++ second.since;
  entries = second.entries ∙ ap (λ list. list ++ second.since) first.entries ∙ append_assoc old.entries first.since second.since;
  own = All-append (λ (entry : Entry). entry.seat ≡ seat) first.since second.since first.own second.own;
  settings = second.settings ∙ first.settings;
}

-- what no seat sees leaves each row but for its hand, and here the hands of others are as they were
mindful-frame : (seat : ℕ) (old new : State) → Frame old new
    → ((other : ℕ) → other ≢ seat → held_by new.scan.flights other ≡ held_by old.scan.flights other) → IsMindful seat old new
mindful-frame seat old new frame hands =
    mindful-still seat old new frame.settings frame.entries
    (λ other apart. (ap (λ seats. get_or seats other empty_seat) frame.seats, hands other apart))

-- a query of the seat is abandoned
abandons-mindful : (query : ℕ) (state : State) (seat : ℕ) → IfSome (mover_of_event state (Abandon query)) (λ mover. mover ≡ seat)
    → IsMindful seat state (after_abandoning query state)
abandons-mindful query state seat of =
    by-option (IsMindful seat state) (accepted_at state.accepted query) _ state (mindful-none seat state)
    (λ accepted is.
    let own : accepted.seat ≡ seat = subst (λ found. IfSome (option_map (λ (a : Accepted). a.seat) found) (λ mover. mover ≡ seat)) is of in
    mindful-still seat state _ refl refl
    (λ other apart. (
      get_or-set_other state.seats accepted.seat other (without_pending query (seat_at state accepted.seat)) empty_seat (λ same. apart (same ∙ own)),
      refl,
    )))

-- and nothing of its row has changed but what is waited for
pub abandons-row : (state : State) (query seat : ℕ) → AbandonsRow (sight_of state seat) (sight_of (after_abandoning query state) seat)
abandons-row state query seat =
    by-option (λ now. AbandonsRow (sight_of state seat) (sight_of now seat)) (accepted_at state.accepted query) _ state
    (record { seen = refl; submitted = refl; made = refl; taken = refl; hand = refl })
    (λ accepted is. record {
      seen = refl;
      submitted = part-changed (λ s. s.submitted) (without_pending query) (λ s. refl) state.seats accepted.seat seat;
      made = refl;
      taken = part-changed (λ s. s.taken) (without_pending query) (λ s. refl) state.seats accepted.seat seat;
      hand = refl;
    })

-- an event for which there was memory
mindful-event : (event : Event) (state : State) (seat : ℕ) → IsEnabled state event → IsSound state
    → IfSome (mover_of_event state event) (λ mover. mover ≡ seat) → IsMindful seat state (after_event event state)
unfolding after_event
mindful-event (Submit mover statement) state seat may sound of =
    subst (λ number. IsMindful number state (after_submitting mover statement state)) of (submits-mindful state mover statement)
mindful-event Cut state seat may sound of =
    mindful-frame seat state (after_cutting state) (makes-done Cut state tt may).frame
    (λ other apart. held-behind other state.scan.flights _ refl)
mindful-event (Take worker batch) state seat may sound of =
    mindful-frame seat state (after_take worker batch state) (makes-done (Take worker batch) state tt may).frame
    (λ other apart. hands-taken worker batch other state may sound (λ same. apart (same ∙ of)))
mindful-event (Carry worker batch) state seat may sound of =
    mindful-frame seat state (after_carry worker batch state) (makes-done (Carry worker batch) state tt may).frame
    (λ other apart. hands-carried worker batch other state may sound (λ same. apart (same ∙ of)))
mindful-event (Give worker) state seat may sound of =
    mindful-frame seat state (after_give worker state) (makes-done (Give worker) state tt may).frame
    (λ other apart. hands-given worker other state sound (λ same. apart (same ∙ of)))
mindful-event (Distribute batch) state seat may sound of =
    mindful-frame seat state (after_distribute batch [] state) (makes-done (Distribute batch) state tt may).frame
    (λ other apart. hands-landed batch other [] state may sound)
mindful-event (Abandon query) state seat may sound of = abandons-mindful query state seat of
mindful-event still state seat may sound of =
    let makes = makes-done still state tt may in
    mindful-frame seat state (after_event still state) makes.frame (λ other apart. ap (λ scan. held_by scan.flights other) (makes.scan tt))

-- an event for which memory was wanted
mindful-want : (event : Event) (spoiled : List ℕ) (state : State) (seat : ℕ) → IsEnabled state event → MaySpoil state event spoiled → IsSound state
    → IsMindful seat state (after_want event spoiled state)
unfolding after_want
mindful-want (Distribute batch) spoiled state seat may can sound =
    mindful-frame seat state (after_distribute batch spoiled state) (frame-want (Distribute batch) spoiled state may can)
    (λ other apart. hands-landed batch other spoiled state may sound)
mindful-want other spoiled state seat may can sound =
    mindful-frame seat state (after_want other spoiled state) (frame-want other spoiled state may can) (λ number apart. refl)

-- a step of the seat
pub mindful-step : (step : Step) (state : State) (seat : ℕ) → MayStep state step → IsSound state → IsOfSeat seat state step
    → IsMindful seat state (after_step step state)
mindful-step (Done event) state seat may sound of = mindful-event event state seat may sound of
mindful-step (Wanting event spoiled) state seat may sound of = mindful-want event spoiled state seat may.0 may.1 sound
mindful-step (Replying mover) state seat may sound of =
    subst (λ number. IsMindful number state (after_taking mover state)) of (takes-mindful state mover)

-- and steps of it, one after the other
pub mindful-steps : StepsKeep → (steps : List Step) (state : State) (seat : ℕ) → MayStepAll state steps → IsSound state
    → AreOfSeat seat state steps → IsMindful seat state (after_steps steps state)
mindful-steps keep [] state seat may sound of = mindful-none seat state
mindful-steps keep (step ∷ steps) state seat may sound of =
    mindful-then seat state (after_step step state) (after_steps steps (after_step step state))
    (mindful-step step state seat may.0 sound of.0)
    (mindful-steps keep steps (after_step step state) seat may.1 (keep step state may.0 sound) of.1)
