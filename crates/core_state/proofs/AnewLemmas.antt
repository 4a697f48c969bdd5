-- What stays sound where other groups are kept of accepted queries, and lives and seats are others.
use Rattle.core_state.proofs.Words.{◌∙◌, ◌∷◌, ◌≡◌, [], Accepted, accepted_at, All, All-map, ap, AreSoundFilters, AreSoundHands, AreSoundQueries, AreSoundSeats, AreSoundSlots, arith, Bool, cond, Contains, Contains-get_or, Encodes, eqb, false, Filter, FitsSlot, Flight, forgotten, frame_words, get_or, Grouped, HasAccepted, Held, IfSome, IsSomeAnd, IsSound, IsSoundAccepted, IsSoundBatch, IsSoundHand, IsSoundQuery, length, List, map, None, Option, option_map, Query, query_in, QueryLife, refl, rows_in, ScanState, Seat, slot_at, SlotState, Some, State, Store, subst, sym, tables_of, true, ℕ}
use Rattle.core_state.proofs.FrameLemmas.{LivesAs, StaysOnRoster, batches-with, filter-with, query-with}

-- a change of what is kept of accepted queries, and of nothing else of them
abbrev pub KeepsAsked : (Accepted → Accepted) → Type 0
KeepsAsked change = (accepted : Accepted) → (groups : Option Grouped) × (change accepted ≡ record accepted { groups = groups })

-- a query that is let go is still asked
pub forgets : (query : ℕ) → KeepsAsked (forgotten query)
forgets query accepted = by_test (eqb accepted.number query)
  where
    by_test : (t : Bool) → (groups : Option Grouped)
        × (cond {A = Accepted} t (record accepted { groups = None }) accepted ≡ record accepted { groups = groups })
    by_test true = (None, refl)
    by_test false = (accepted.groups, refl)

-- the core that keeps other groups, with other lives, other seats and another scan
abbrev pub kept_anew : State → (Accepted → Accepted) → List QueryLife → List Seat → ScanState → State
kept_anew state change queries seats scan = record state {
  seats = seats;
  accepted = map change state.accepted;
  lives = record state.lives { queries = queries };
  scan = scan;
}

-- what holds of an accepted query whatever is kept of it
pub by-change : (P : Accepted → Type 0) (change : Accepted → Accepted) → KeepsAsked change → (accepted : Accepted)
    → ((groups : Option Grouped) → P (record accepted { groups = groups })) → P (change accepted)
by-change P change keeps accepted holds = subst P (sym (keeps accepted).1) (holds (keeps accepted).0)

-- an accepted query is found as before, with its query and its snapshot
pub found-anew : (change : Accepted → Accepted) → KeepsAsked change → (number : ℕ) (accepted : List Accepted)
    → accepted_at (map change accepted) number ≡ option_map change (accepted_at accepted number)
found-anew change keeps number [] = refl
found-anew change keeps number (first ∷ accepted) =
    ap (λ n. cond {A = Option Accepted} (eqb n number) (Some (change first)) (accepted_at (map change accepted) number))
    (by-change (λ a. a.number ≡ first.number) change keeps first (λ groups. refl))
    ∙ by_test (eqb first.number number) (found-anew change keeps number accepted)
  where
    by_test : (t : Bool) → accepted_at (map change accepted) number ≡ option_map change (accepted_at accepted number)
        → cond {A = Option Accepted} t (Some (change first)) (accepted_at (map change accepted) number)
        ≡ option_map change (cond {A = Option Accepted} t (Some first) (accepted_at accepted number))
    by_test true rest = refl
    by_test false rest = rest

pub some-anew : (P : Query → ℕ → Type 0) (change : Accepted → Accepted) → KeepsAsked change → (number : ℕ) (accepted : List Accepted)
    → IfSome (accepted_at accepted number) (λ a. P a.query a.snapshot)
    → IfSome (accepted_at (map change accepted) number) (λ a. P a.query a.snapshot)
some-anew P change keeps number accepted holds =
    subst (λ o. IfSome o (λ a. P a.query a.snapshot)) (sym (found-anew change keeps number accepted)) (by_found (accepted_at accepted number) holds)
  where
    by_found : (o : Option Accepted) → IfSome o (λ a. P a.query a.snapshot) → IfSome (option_map change o) (λ a. P a.query a.snapshot)
    by_found None h = tt
    by_found (Some a) h = by-change (λ b. P b.query b.snapshot) change keeps a (λ groups. h)

pub has-anew : (change : Accepted → Accepted) → KeepsAsked change → (accepted : List Accepted) (number : ℕ) (query : Query) (snapshot : ℕ)
    → HasAccepted accepted number query snapshot → HasAccepted (map change accepted) number query snapshot
has-anew change keeps accepted number query snapshot holds =
    subst (λ o. IsSomeAnd o (λ a. (a.query ≡ query) × (a.snapshot ≡ snapshot))) (sym (found-anew change keeps number accepted))
    (by_found (accepted_at accepted number) holds)
  where
    by_found : (o : Option Accepted) → IsSomeAnd o (λ a. (a.query ≡ query) × (a.snapshot ≡ snapshot))
        → IsSomeAnd (option_map change o) (λ a. (a.query ≡ query) × (a.snapshot ≡ snapshot))
    by_found None h = absurd h
    by_found (Some a) h = by-change (λ b. (b.query ≡ query) × (b.snapshot ≡ snapshot)) change keeps a (λ groups. h)

fits-anew : (store : Store) (accepted : List Accepted) (change : Accepted → Accepted) → KeepsAsked change → (filter : Filter) (slot : ℕ) (holder : SlotState)
    → FitsSlot accepted store filter slot holder → FitsSlot (map change accepted) store filter slot holder
fits-anew store accepted change keeps filter slot (Held number built) fits = (
  λ has. some-anew (λ asked snapshot. Encodes filter slot asked snapshot (rows_in store.dimensions filter.dimension))
      change keeps number accepted (fits.0 has),
  fits.1,
)
fits-anew store accepted change keeps filter slot other fits = fits

pub filters-anew : (state : State) (change : Accepted → Accepted) → KeepsAsked change → (queries : List QueryLife) (seats : List Seat) (scan : ScanState) → AreSoundFilters state
    → AreSoundFilters (kept_anew state change queries seats scan)
filters-anew state change keeps queries seats scan old = record {
  each = λ k d low.
      let filter = (get_or state.filters.versions k d).filter in
      filter-with state.accepted (map change state.accepted) (tables_of state) state.lives.slots state.lives.slots state.lives.filters filter refl
      (λ slot there. fits-anew (tables_of state) state.accepted change keeps filter slot (slot_at state.lives slot)) (old.each k d low);
  dimensions = old.dimensions;
  set = old.set;
}

pub batches-anew : (state : State) (change : Accepted → Accepted) → KeepsAsked change → (queries : List QueryLife) (flights : List Flight)
    → ((number : ℕ) → StaysOnRoster state.lives.queries queries number)
    → All (IsSoundBatch (frame_words state) (tables_of state) state.lives state.accepted) flights
    → All (IsSoundBatch (frame_words state) (tables_of state) (record state.lives { queries = queries }) (map change state.accepted)) flights
batches-anew state change keeps queries flights stays old =
    batches-with (frame_words state) (tables_of state) state.lives queries state.lives.slots state.accepted (map change state.accepted) flights
    (λ k d low j e inside.
    let entry = get_or (get_or flights k d).roster j e in
    let on = (old k d low).roster j e inside in
    record {
      there = on.there;
      held = on.held;
      life = (stays entry.number).0 on.life;
      same = some-anew (λ asked snapshot. (asked ≡ entry.query) × (snapshot ≡ entry.snapshot)) change keeps entry.number state.accepted on.same;
      extent = (stays entry.number).1 ∙ on.extent;
    }) old

pub hands-anew : (state : State) (change : Accepted → Accepted) (queries : List QueryLife) (seats : List Seat) (scan : ScanState)
    → length seats ≡ length state.seats → AreSoundHands (record state { scan = scan }) → AreSoundHands (kept_anew state change queries seats scan)
hands-anew state change queries seats scan count old = record {
  each = subst (λ n. All (λ flight. IfSome flight.hand (IsSoundHand n state.lives.filters (tables_of state) flight)) scan.flights) (sym count) old.each;
  one = old.one;
}

numbers-anew : (change : Accepted → Accepted) → KeepsAsked change → (accepted : List Accepted)
    → map (λ a. a.number) (map change accepted) ≡ map (λ a. a.number) accepted
numbers-anew change keeps [] = refl
numbers-anew change keeps (first ∷ accepted) =
    ap (λ n. n ∷ map (λ a. a.number) (map change accepted)) (by-change (λ a. a.number ≡ first.number) change keeps first (λ groups. refl))
    ∙ ap (λ rest. first.number ∷ rest) (numbers-anew change keeps accepted)

-- the accepted queries are sound where each is by its life
pub queries-anew : (state : State) (change : Accepted → Accepted) → KeepsAsked change → (queries : List QueryLife) (seats : List Seat) (scan : ScanState)
    → map (λ entry. entry.query) queries ≡ map (λ entry. entry.query) state.lives.queries
    → ((accepted : Accepted) → Contains state.accepted accepted → IsSoundQuery state accepted
    → IfSome (query_in queries accepted.number) (LivesAs (tables_of state) seats scan accepted (change accepted)))
    → AreSoundQueries state → AreSoundQueries (kept_anew state change queries seats scan)
queries-anew state change keeps queries seats scan same each old = record {
  same = numbers-anew change keeps state.accepted ∙ old.same ∙ sym same;
  each = All-map Sound change state.accepted (λ k d low.
      let accepted = get_or state.accepted k d in
      subst Sound (sym (keeps accepted).1)
      (query-with state.numbers.statement state.numbers.statement (tables_of state) state.lives.queries queries state.seats seats state.scan scan
      accepted (keeps accepted).0 (omega arith)
      (subst (λ given. IfSome (query_in queries accepted.number) (LivesAs (tables_of state) seats scan accepted given))
      (keeps accepted).1 (each accepted (Contains-get_or state.accepted k d low) (old.each k d low))) (old.each k d low)));
}
  where
    Sound : Accepted → Type 0
    Sound = IsSoundAccepted state.numbers.statement (tables_of state) queries seats scan

-- a core is sound with other lives, other seats and other groups where its queries, slots and seats are
pub sound-anew : (state : State) (change : Accepted → Accepted) → KeepsAsked change → (queries : List QueryLife) (seats : List Seat)
    → ((number : ℕ) → StaysOnRoster state.lives.queries queries number)
    → length seats ≡ length state.seats → AreSoundQueries (kept_anew state change queries seats state.scan)
    → AreSoundSlots (kept_anew state change queries seats state.scan) → AreSoundSeats (kept_anew state change queries seats state.scan)
    → IsSound state → IsSound (kept_anew state change queries seats state.scan)
sound-anew state change keeps queries seats stays count sound_queries slots sound_seats sound = record {
  settings = sound.settings;
  filters = filters-anew state change keeps queries seats state.scan sound.filters;
  batches = batches-anew state change keeps queries state.scan.flights stays sound.batches;
  hands = hands-anew state change queries seats state.scan count (record { each = sound.hands.each; one = sound.hands.one });
  queries = sound_queries;
  slots = slots;
  store = sound.store;
  ends = sound.ends;
  quiet = λ none. (ap (map change) (sound.quiet none).0, (sound.quiet none).1, (sound.quiet none).2);
  numbers = record {
    apart = sound.numbers.apart;
    given = sound.numbers.given;
    versions = sound.numbers.versions;
    unnumbered = sound.numbers.unnumbered;
  };
  scan = record { frames = sound.scan.frames; position = sound.scan.position };
  order = sound.order;
  seats = sound_seats;
}
