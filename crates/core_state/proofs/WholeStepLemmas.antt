-- No step takes a statement back, or changes what is asked.
use Rattle.core_state.proofs.Words.{◌+◌, ◌∷◌, ◌≡◌, [], Abandon, accepted_at, after_abandoning, after_outcome, after_step, after_submitting, after_taking, ap, arith, CanAbandon, cases_eq, cases_lt, Contains, Contains-append_left, Done, empty_seat, Event, forgotten, get_or, get_or-set_other, get_or-set_same, get_or_past, HasAccepted, IsEnabled, IsSound, length, List, MayStep, outcome_of, Query, refl, Replying, Seat, seat_at, set, State, Statement, Step, Submit, subst, sym, tables_of, take, Wanting, with_statement, with_taken, without_pending, ℕ, ⊎_elim}
use Rattle.star_store.specs.Outcome as outcome
use Rattle.core_state.specs.Events.{after_event, after_want}
use Rattle.core_state.proofs.AnewLemmas.{forgets, has-anew}
use Rattle.core_state.proofs.WholeFrameLemmas.{Frame, StayAsked, asked-bare, bare-without, by-option, frame-want, makes-done}
use Rattle.core_state.proofs.WholeToldLemmas.{aside-outcome}

-- what holds after each event that no seat sees, after an outcome of a statement, and where a query is abandoned
event-cases : (P : State → Type 0) (event : Event) (state : State) → IsEnabled state event
    → ((new : State) → Frame state new → P new)
    → ((seat : ℕ) (statement : Statement) → event ≡ Submit seat statement → P (after_submitting seat statement state))
    → ((query : ℕ) → CanAbandon query state.lives → P (after_abandoning query state)) → P (after_event event state)
unfolding after_event
event-cases P (Submit seat statement) state may leaves tells abandons = tells seat statement refl
event-cases P (Abandon query) state may leaves tells abandons = abandons query may
event-cases P other state may leaves tells abandons = leaves _ (makes-done other state tt may).frame

-- what holds after each step
pub step-cases : (P : State → Type 0) (step : Step) (state : State) → MayStep state step → IsSound state
    → ((new : State) → Frame state new → P new)
    → ((seat : ℕ) (statement : Statement) → step ≡ Done (Submit seat statement) → P (after_submitting seat statement state))
    → ((query : ℕ) → CanAbandon query state.lives → P (after_abandoning query state)) → ((seat : ℕ) → P (after_taking seat state))
    → P (after_step step state)
step-cases P (Done event) state may sound leaves tells abandons takes =
    event-cases P event state may leaves (λ seat statement is. tells seat statement (ap Done is)) abandons
step-cases P (Wanting event spoiled) state may sound leaves tells abandons takes =
    leaves (after_want event spoiled state) (frame-want event spoiled state may.0 may.1)
step-cases P (Replying seat) state may sound leaves tells abandons takes = takes seat

asked-abandoning : (query : ℕ) (state : State) → StayAsked state.accepted (after_abandoning query state).accepted
asked-abandoning query state =
    by-option (λ now. StayAsked state.accepted now.accepted) (accepted_at state.accepted query) _ state (λ number asked snapshot has. has)
    (λ accepted is. has-anew (forgotten query) (forgets query) state.accepted)

pub step-asked : (step : Step) (state : State) (number : ℕ) (query : Query) (snapshot : ℕ) → MayStep state step → IsSound state
    → HasAccepted state.accepted number query snapshot → HasAccepted (after_step step state).accepted number query snapshot
step-asked step state number query snapshot may sound =
    step-cases (λ now. StayAsked state.accepted now.accepted) step state may sound
    (λ new frame. asked-bare state.accepted new.accepted frame.asked)
    (λ seat statement is. (aside-outcome seat (outcome_of (tables_of state) statement) state).asked) (λ asked can. asked-abandoning asked state)
    (λ seat. asked-bare state.accepted (after_taking seat state).accepted (bare-without (take 1 (seat_at state seat).pending) state.accepted))
    number query snapshot

-- what was submitted stays so where one seat is another that submitted as much
submitted-set : (seats : List Seat) (seat : ℕ) (now : Seat)
    → ((number : ℕ) → Contains (get_or seats seat empty_seat).submitted number → Contains now.submitted number)
    → (other number : ℕ) → Contains (get_or seats other empty_seat).submitted number
    → Contains (get_or (set seats seat now) other empty_seat).submitted number
submitted-set seats seat now more other number has = ⊎_elim
    (λ same. ⊎_elim
    (λ low. subst (λ n. Contains (get_or (set seats seat now) n empty_seat).submitted number) (sym same)
    (subst (λ (s : Seat). Contains s.submitted number) (sym (get_or-set_same seats seat now empty_seat low))
    (more number (subst (λ n. Contains (get_or seats n empty_seat).submitted number) same has))))
    (λ past. absurd (none (subst (λ (s : Seat). Contains s.submitted number)
    (get_or_past seats other empty_seat (let is = same in omega arith)) has)))
    (cases_lt seat (length seats)))
    (λ apart. subst (λ (s : Seat). Contains s.submitted number) (sym (get_or-set_other seats seat other now empty_seat apart)) has)
    (cases_eq other seat)
  where
    none : Contains {X = ℕ} [] number → ⊥
    none never = let low = never.1 in omega arith

-- what was submitted stays so from a core to another
abbrev StaySubmitted : State → State → Type 0
StaySubmitted old new = (seat number : ℕ) → Contains (seat_at old seat).submitted number → Contains (seat_at new seat).submitted number

submitted-outcome : (seat : ℕ) (found : outcome.Outcome) (state : State) → StaySubmitted state (after_outcome seat found state)
submitted-outcome seat found state other number has =
    subst (λ seats. Contains (get_or seats other empty_seat).submitted number)
    (sym (aside-outcome seat found state).seats)
    (submitted-set state.seats seat (with_statement (state.numbers.statement + 1) found.told (seat_at state seat))
    (λ n among. Contains-append_left (seat_at state seat).submitted ((state.numbers.statement + 1) ∷ []) n among) other number has)

submitted-abandoning : (query : ℕ) (state : State) → StaySubmitted state (after_abandoning query state)
submitted-abandoning query state =
    by-option (StaySubmitted state) (accepted_at state.accepted query) _ state (λ seat number has. has)
    (λ accepted is. submitted-set state.seats accepted.seat (without_pending query (seat_at state accepted.seat)) (λ n among. among))

pub step-submitted : (step : Step) (state : State) (seat statement : ℕ) → MayStep state step → IsSound state
    → Contains (seat_at state seat).submitted statement → Contains (seat_at (after_step step state) seat).submitted statement
step-submitted step state seat statement may sound =
    step-cases (StaySubmitted state) step state may sound
    (λ new frame other number. subst (λ seats. Contains (get_or seats other empty_seat).submitted number) (sym frame.seats))
    (λ other text is. submitted-outcome other (outcome_of (tables_of state) text) state) (λ query can. submitted-abandoning query state)
    (λ other. submitted-set state.seats other (with_taken (seat_at state other)) (λ n among. among))
    seat statement
