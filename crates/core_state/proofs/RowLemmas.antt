-- Rows of seats: what a statement and a reply do to that of their seat, what stands past the seats, and what is in a hand.
use Rattle.core_state.proofs.Words.{◌++◌, ◌+◌, ◌<◌, ◌∙◌, ◌∷◌, ◌≡◌, ◌≢◌, ◌≤◌, [], after_outcome, after_submitting, after_taking, All, All-cons, All-head, All-nil, All-tail, All-weaker, ap, append-nil, arith, Change, cond, Contains, drop, empty_seat, Entry, eqb, Event, false, filter, find, Flight, frame_words, get_or, get_or-set_other, get_or-set_same, get_or_past, Hand, held_by, IfSome, is_held_by, IsEnabled, IsSound, IsSoundBatch, IsSoundHand, length, List, map, MaySpoil, ne_eqb, None, Option, option_map_or, outcome_of, Pending, refl, Seat, seat_at, set, slice_get, Some, State, Statement, sym, tables_of, take, Told, with_query, with_statement, ℕ}
use Rattle.star_store.specs.Outcome as outcome
use Rattle.std.specs.Prelude.{option_to_list}
use Rattle.core_state.specs.Events.{LeavesSeats, after_event, after_want}
use Rattle.core_state.specs.Fronts.{Passes, SubmitsRow, TakesRow}
use Rattle.core_state.specs.Rows.{IsMindful, SeatRow, empty_row, made_by, row_of, sight_of}
use Rattle.core_state.specs.Submitting.{taken_by, with_taken}
use Rattle.core_state.proofs.AcceptedLemmas.{find-holds}
use Rattle.core_state.proofs.FoundLemmas.{some-at}
use Rattle.core_state.proofs.LaterLemmas.{entries-by}
use Rattle.core_state.proofs.SeatLemmas.{pending-there, seat-there}
use Rattle.core_state.proofs.FrontLemmas.{made-append}
use Rattle.core_state.proofs.WholeFrameLemmas.{Frame, Leaves, frame-want, makes-done}
use Rattle.core_state.proofs.WholeToldLemmas.{aside-outcome, seated}

-- What stands past the seats.

-- entries of seats below a number are none of that number
made-past : (entries : List Entry) (seat count : ℕ) → All (λ entry. entry.seat < count) entries → count ≤ seat → made_by seat entries ≡ []
made-past [] seat count low past = refl
made-past (entry ∷ entries) seat count low past =
    let there = All-head (λ e. e.seat < count) entry entries low in
    ap (λ test. map (λ (e : Entry). e.statement) (cond test (entry ∷ filter (λ e. eqb e.seat seat) entries) (filter (λ e. eqb e.seat seat) entries)))
    (ne_eqb entry.seat seat (λ same. omega arith))
    ∙ made-past entries seat count (All-tail (λ e. e.seat < count) entry entries low) past

-- a hand of a worker below a number is not that of the number
not-held : (hand : Option Hand) (seat count : ℕ) → IfSome hand (λ h. h.worker < count) → count ≤ seat
    → option_map_or (λ h. eqb h.worker seat) hand false ≡ false
not-held None seat count low past = refl
not-held (Some hand) seat count low past = ne_eqb hand.worker seat (λ same. omega arith)

-- no batch is in its hand
held-past : (flights : List Flight) (seat count : ℕ) → All (λ flight. IfSome flight.hand (λ hand. hand.worker < count)) flights → count ≤ seat
    → held_by flights seat ≡ None
held-past [] seat count low past = refl
held-past (flight ∷ flights) seat count low past =
    ap (λ test. cond test (Some flight) (find (is_held_by seat) flights))
    (not-held flight.hand seat count (All-head (λ f. IfSome f.hand (λ hand. hand.worker < count)) flight flights low) past)
    ∙ held-past flights seat count (All-tail (λ f. IfSome f.hand (λ hand. hand.worker < count)) flight flights low) past

-- a row by its parts
abbrev row_by : Seat → (made : List ℕ) → Option Flight → SeatRow
row_by seat made hand = record { submitted = seat.submitted; made = made; pending = seat.pending; taken = seat.taken; hand = hand }

-- a row is as it was where its parts are
pub row-same : (old new : State) (seat : ℕ) → seat_at new seat ≡ seat_at old seat → made_by seat new.entries ≡ made_by seat old.entries
    → held_by new.scan.flights seat ≡ held_by old.scan.flights seat → row_of new seat ≡ row_of old seat
row-same old new seat same made held =
    ap (λ s. row_by s (made_by seat new.entries) (held_by new.scan.flights seat)) same
    ∙ ap (λ statements. row_by (seat_at old seat) statements (held_by new.scan.flights seat)) made
    ∙ ap (row_by (seat_at old seat) (made_by seat old.entries)) held

-- the row is empty
pub rows-past : (state : State) (seat : ℕ) → IsSound state → state.settings.seats ≤ seat → row_of state seat ≡ empty_row
rows-past state seat sound past =
    ap (λ s. row_by s (made_by seat state.entries) (held_by state.scan.flights seat)) (get_or_past state.seats seat empty_seat beyond)
    ∙ ap (λ made. row_by empty_seat made (held_by state.scan.flights seat)) (made-past state.entries seat (length state.seats) entries beyond)
    ∙ ap (row_by empty_seat []) (held-past state.scan.flights seat (length state.seats) hands beyond)
  where
    beyond : length state.seats ≤ seat
    beyond = let count = sound.seats.count in omega arith

    entries : All (λ entry. entry.seat < length state.seats) state.entries
    entries = All-weaker (λ entry. Contains (seat_at state entry.seat).submitted entry.statement) (λ entry. entry.seat < length state.seats)
        (λ (entry : Entry) has. seat-there state.seats entry.seat entry.statement has) state.entries sound.seats.entries

    hand-low : (flight : Flight) (hand : Option Hand) → IfSome hand (IsSoundHand (length state.seats) state.lives.filters (tables_of state) flight)
        → IfSome hand (λ h. h.worker < length state.seats)
    hand-low flight None is = tt
    hand-low flight (Some hand) is = is.seat

    hands : All (λ flight. IfSome flight.hand (λ hand. hand.worker < length state.seats)) state.scan.flights
    hands = All-weaker (λ flight. IfSome flight.hand (IsSoundHand (length state.seats) state.lives.filters (tables_of state) flight))
        (λ flight. IfSome flight.hand (λ hand. hand.worker < length state.seats))
        (λ (flight : Flight) is. hand-low flight flight.hand is) state.scan.flights sound.hands.each

-- what is in the hand of a seat is sound
pub work-right : (state : State) (seat : ℕ) (flight : Flight) (hand : Hand) → IsSound state → (row_of state seat).hand ≡ Some flight
    → flight.hand ≡ Some hand
    → IsSoundBatch (frame_words state) (tables_of state) state.lives state.accepted flight
    × IsSoundHand (length state.seats) state.lives.filters (tables_of state) flight hand
work-right state seat flight hand sound has held = (
  find-holds (IsSoundBatch (frame_words state) (tables_of state) state.lives state.accepted) (is_held_by seat) state.scan.flights flight has sound.batches,
  some-at (IsSoundHand (length state.seats) state.lives.filters (tables_of state) flight) flight.hand hand held
      (find-holds (λ f. IfSome f.hand (IsSoundHand (length state.seats) state.lives.filters (tables_of state) f)) (is_held_by seat)
      state.scan.flights flight has sound.hands.each),
)

-- A statement.

entries-query : (seat statement : ℕ) (told : Told) (state : State) → (with_query seat statement told state).entries ≡ state.entries
entries-query seat statement (outcome.Replied reply) state = refl
entries-query seat statement (outcome.Accepted query snapshot) state = refl

entries-outcome : (seat : ℕ) (found : outcome.Outcome) (state : State) → (after_outcome seat found state).entries
    ≡ state.entries ++ map (λ change. record { seat = seat; statement = state.numbers.statement + 1; change = change }) (option_to_list found.change)
entries-outcome seat found state = by_change found.change refl
  where
    by_change : (change : Option Change) → found.change ≡ change → (after_outcome seat found state).entries
        ≡ state.entries ++ map (λ change. record { seat = seat; statement = state.numbers.statement + 1; change = change }) (option_to_list change)
    by_change None is =
        ap (λ o. (after_outcome seat (record { change = o; told = found.told }) state).entries) is
        ∙ entries-query seat (state.numbers.statement + 1) found.told _ ∙ sym (append-nil state.entries)
    by_change (Some change) is =
        ap (λ o. (after_outcome seat (record { change = o; told = found.told }) state).entries) is
        ∙ entries-query seat (state.numbers.statement + 1) found.told _ ∙ entries-by change _

pub submits-row : (state : State) (seat : ℕ) (statement : Statement) → seat < length state.seats
    → SubmitsRow seat (state.numbers.statement + 1) statement (sight_of state seat) (sight_of (after_submitting seat statement state) seat)
submits-row state seat statement there = record {
  seen = entries-outcome seat (outcome_of (tables_of state) statement) state;
  submitted = ap (λ s. s.submitted) same;
  pending = ap (λ s. s.pending) same;
  taken = ap (λ s. s.taken) same;
  hand = ap (λ scan. held_by scan.flights seat) aside.scan;
}
  where
    aside : Leaves (seated seat (outcome_of (tables_of state) statement).told state) (after_submitting seat statement state)
    aside = aside-outcome seat (outcome_of (tables_of state) statement) state

    same : seat_at (after_submitting seat statement state) seat
        ≡ with_statement (state.numbers.statement + 1) (outcome_of (tables_of state) statement).told (seat_at state seat)
    same = ap (λ seats. get_or seats seat empty_seat) aside.seats
        ∙ get_or-set_same state.seats seat (with_statement (state.numbers.statement + 1) (outcome_of (tables_of state) statement).told (seat_at state seat))
        empty_seat there

-- A reply.

pub takes-row : (state : State) (seat : ℕ) (pending : Pending) → slice_get (row_of state seat).pending 0 ≡ Some pending
    → TakesRow pending (sight_of state seat) (sight_of (after_taking seat state) seat)
takes-row state seat pending first = by_list (seat_at state seat).pending refl first
  where
    by_list : (waited : List Pending) → (seat_at state seat).pending ≡ waited → slice_get waited 0 ≡ Some pending
        → TakesRow pending (sight_of state seat) (sight_of (after_taking seat state) seat)
    by_list [] is e = absurd (let both : None ≡ Some pending = e in cc)
    by_list (head ∷ rest) is e =
        let is_first : head ≡ pending = cc in
        let same : seat_at (after_taking seat state) seat ≡ with_taken (seat_at state seat) =
        get_or-set_same state.seats seat (with_taken (seat_at state seat)) empty_seat (pending-there state.seats seat head rest is) in record {
          seen = refl;
          submitted = ap (λ s. s.submitted) same;
          pending = is ∙ ap (λ p. p ∷ rest) is_first ∙ ap (λ list. pending ∷ list) (sym (ap (λ s. s.pending) same ∙ ap (drop 1) is));
          taken = ap (λ s. s.taken) same
              ∙ ap (λ list. (seat_at state seat).taken ++ map taken_by (take 1 list)) is
              ∙ ap (λ p. (seat_at state seat).taken ++ taken_by p ∷ []) is_first;
          hand = refl;
        }

-- What others see.

-- the row of another seat
other-row : (old new : State) (seat other : ℕ) (now : Seat) (since : List Entry) → other ≢ seat → new.seats ≡ set old.seats seat now
    → new.entries ≡ old.entries ++ since → made_by other since ≡ [] → new.scan ≡ old.scan → row_of new other ≡ row_of old other
other-row old new seat other now since apart seats entries none scan =
    row-same old new other
    (ap (λ list. get_or list other empty_seat) seats ∙ get_or-set_other old.seats seat other now empty_seat apart)
    (ap (made_by other) entries
    ∙ made-append other old.entries since ∙ ap (λ list. made_by other old.entries ++ list) none ∙ append-nil (made_by other old.entries))
    (ap (λ s. held_by s.flights other) scan)

-- the entry of a statement is no other seat's
others-made : (seat other number : ℕ) (change : Option Change) → other ≢ seat
    → made_by other (map (λ c. record { seat = seat; statement = number; change = c }) (option_to_list change)) ≡ []
others-made seat other number None apart = refl
others-made seat other number (Some change) apart =
    ap (λ test. map (λ (e : Entry). e.statement) (cond test (record { seat = seat; statement = number; change = change } ∷ []) []))
    (ne_eqb seat other (λ same. apart (sym same)))

own-made : (seat number : ℕ) (change : Option Change)
    → All (λ (entry : Entry). entry.seat ≡ seat) (map (λ c. record { seat = seat; statement = number; change = c }) (option_to_list change))
own-made seat number None = All-nil (λ (entry : Entry). entry.seat ≡ seat)
own-made seat number (Some change) =
    All-cons (λ (entry : Entry). entry.seat ≡ seat) (record { seat = seat; statement = number; change = change }) [] refl
    (All-nil (λ (entry : Entry). entry.seat ≡ seat))

pub submits-mindful : (state : State) (seat : ℕ) (statement : Statement) → IsMindful seat state (after_submitting seat statement state)
submits-mindful state seat statement = record {
  rows = λ other apart. other-row state (after_submitting seat statement state) seat other
      (with_statement (state.numbers.statement + 1) found.told (seat_at state seat)) made apart aside.seats
      (entries-outcome seat found state) (others-made seat other (state.numbers.statement + 1) found.change apart) aside.scan;
  since = made;
  entries = entries-outcome seat found state;
  own = own-made seat (state.numbers.statement + 1) found.change;
  settings = aside.settings;
}
  where
    found : outcome.Outcome
    found = outcome_of (tables_of state) statement

    made : List Entry
    made = map (λ c. record { seat = seat; statement = state.numbers.statement + 1; change = c }) (option_to_list found.change)

    aside : Leaves (seated seat found.told state) (after_submitting seat statement state)
    aside = aside-outcome seat found state

-- no entry came, and the other seats and their hands are as they were
pub mindful-still : (seat : ℕ) (old new : State) → new.settings ≡ old.settings → new.entries ≡ old.entries
    → ((other : ℕ) → other ≢ seat → (seat_at new other ≡ seat_at old other) × (held_by new.scan.flights other ≡ held_by old.scan.flights other))
    → IsMindful seat old new
mindful-still seat old new settings entries others = record {
  rows = λ other apart. row-same old new other (others other apart).0 (ap (made_by other) entries) (others other apart).1;
  since = [];
  entries = entries ∙ sym (append-nil old.entries);
  own = All-nil (λ (entry : Entry). entry.seat ≡ seat);
  settings = settings;
}

pub takes-mindful : (state : State) (seat : ℕ) → IsMindful seat state (after_taking seat state)
takes-mindful state seat = mindful-still seat state (after_taking seat state) refl refl
    (λ other apart. (get_or-set_other state.seats seat other (with_taken (seat_at state seat)) empty_seat apart, refl))

-- what no seat sees leaves each row but for its hand
pub passes-frame : (old new : State) (seat : ℕ) → Frame old new → Passes (sight_of old seat) (sight_of new seat)
passes-frame old new seat frame = record {
  submitted = ap (λ seats. (get_or seats seat empty_seat).submitted) frame.seats;
  made = ap (made_by seat) frame.entries;
  pending = ap (λ seats. (get_or seats seat empty_seat).pending) frame.seats;
  taken = ap (λ seats. (get_or seats seat empty_seat).taken) frame.seats;
  since = [];
  seen = frame.entries ∙ sym (append-nil old.entries);
}

pub passes-done : (event : Event) (state : State) (seat : ℕ) → LeavesSeats event → IsEnabled state event
    → Passes (sight_of state seat) (sight_of (after_event event state) seat)
passes-done event state seat leaves may = passes-frame state (after_event event state) seat (makes-done event state leaves may).frame

pub passes-want : (event : Event) (spoiled : List ℕ) (state : State) (seat : ℕ) → IsEnabled state event → MaySpoil state event spoiled
    → Passes (sight_of state seat) (sight_of (after_want event spoiled state) seat)
passes-want event spoiled state seat may can = passes-frame state (after_want event spoiled state) seat (frame-want event spoiled state may can)
