-- A core is sound after a statement by what is told of it: a reply, with a change or without one, or that it is accepted.
use Rattle.core_state.proofs.Words.{◌+◌, ◌<◌, ◌∙◌, ◌∷◌, ◌≡◌, ◌≢◌, [], Accepted, accepted_at, All, All-head, All-push, All-tail, all_pairs_push, ap, AreSoundSeats, arith, Change, changes_of, cond, Contains, empty_seat, EndsAscending, Entry, Filters, get_or, IfSome, IsOver, IsSettled, IsSome, IsSomeAnd, IsSound, IsSoundBeside, length, length-set, List, map, ne_eqb, None, Option, option_map, Query, query_in-push_same, QueryLife, refl, Reply, Seat, Some, State, subst, sym, tables_of, Told, versions_in, with_statement, ℕ}
use Rattle.star_store.specs.Outcome as outcome
use Rattle.pipeline_manager.specs.declared.life.Life.TheVariants as life
use Rattle.core_state.specs.Settings.{AreWithin}
use Rattle.core_state.proofs.AskLemmas.{accepted-push_same, accepted_as, asked_now, beside-asked, of-numbers, still-asked}
use Rattle.core_state.proofs.BesideLemmas.{beside-seated, later}
use Rattle.core_state.proofs.DeclareLemmas.{declared_now}
use Rattle.core_state.proofs.FrameLemmas.{StayTaken}
use Rattle.core_state.proofs.GrownLemmas.{ends-with}
use Rattle.core_state.proofs.SeatLemmas.{part-stays}
use Rattle.core_state.proofs.SubmitSeatsLemmas.{seats-submitted, seats_by, stands, stands-low, stands-new}

beside-of : (state : State) → IsSound state → IsSoundBeside state
beside-of state sound = record {
  filters = sound.filters;
  batches = sound.batches;
  hands = sound.hands;
  queries = sound.queries;
  slots = sound.slots;
  store = sound.store;
  quiet = sound.quiet;
  numbers = sound.numbers;
  scan = sound.scan;
  order = sound.order;
}

-- the rest of what is sound reads the entries and the seats
sound-beside : (state : State) → AreWithin state.settings → IsSoundBeside state → All EndsAscending (changes_of state.entries) → AreSoundSeats state
    → IsSound state
sound-beside state within beside ends seats = record {
  settings = within;
  filters = beside.filters;
  batches = beside.batches;
  hands = beside.hands;
  queries = beside.queries;
  slots = beside.slots;
  store = beside.store;
  ends = ends;
  quiet = beside.quiet;
  numbers = beside.numbers;
  scan = beside.scan;
  order = beside.order;
  seats = seats;
}

accepted-none : (accepted : List Accepted) (number : ℕ) → All (λ a. a.number ≢ number) accepted → accepted_at accepted number ≡ None
accepted-none [] number apart = refl
accepted-none (first ∷ accepted) number apart =
    ap (λ t. cond {A = Option Accepted} t (Some first) (accepted_at accepted number))
    (ne_eqb first.number number (All-head (λ a. a.number ≢ number) first accepted apart))
    ∙ accepted-none accepted number (All-tail (λ a. a.number ≢ number) first accepted apart)

-- no accepted query has the next number
next-apart : (state : State) → IsSound state → All (λ a. a.number ≢ state.numbers.statement + 1) state.accepted
next-apart state sound = λ k d low same. let query = sound.queries.each k d low in let given = query.number in omega arith

-- the seats where a statement is told this
abbrev seats_now : State → (seat : ℕ) → Told → List Seat
seats_now state seat told = seats_by state seat (state.numbers.statement + 1) told

seats-many : (state : State) (seat : ℕ) (told : Told) → length (seats_now state seat told) ≡ length state.seats
seats-many state seat told =
    length-set state.seats seat (with_statement (state.numbers.statement + 1) told (get_or state.seats seat empty_seat))

-- what was taken stays so
seats-stay : (state : State) (seat : ℕ) (told : Told) → seat < length state.seats → StayTaken state.seats (seats_now state seat told)
seats-stay state seat told there other number = subst (λ taken. Contains (map (λ t. t.statement) taken) number)
    (sym (part-stays (λ (s : Seat). s.taken) state.seats seat
    (with_statement (state.numbers.statement + 1) told (get_or state.seats seat empty_seat)) there refl other))

-- a statement that is replied to, and changes nothing
pub sound-told : (seat : ℕ) (reply : Reply) (state : State) → seat < length state.seats → IsSound state
    → IsSound (later state (seats_now state seat (outcome.Replied reply)) (state.numbers.statement + 1) state.accepted state.lives.queries)
sound-told seat reply state there sound =
    let told = outcome.Replied reply in
    let number = state.numbers.statement + 1 in
    let beside = beside-seated state (seats_now state seat told) number (seats-many state seat told) (omega arith) (seats-stay state seat told there) (beside-of state sound) in
    sound-beside _ sound.settings beside sound.ends
    (seats-submitted state (later state (seats_now state seat told) number state.accepted state.lives.queries) seat number told
    (record {
      there = there;
      above = omega arith;
      number = refl;
      settings = refl;
      still = record { asked = λ n low. refl; lives = λ n low. refl };
      awaited = accepted-none state.accepted number (next-apart state sound);
      rising = sound.seats.rising;
      entries = λ k d low. let entry = get_or state.entries k d in
          stands state seat number told there entry.seat entry.statement (sound.seats.entries k d low);
      queries = λ k d low. let accepted = get_or state.accepted k d in
          stands state seat number told there accepted.seat accepted.number (sound.seats.queries k d low);
    }) sound.seats)

-- a statement that is replied to, and makes a change
pub sound-changed : (seat : ℕ) (change : Change) (reply : Reply) (set : ℕ) (filters : Filters) (version : ℕ) (state : State)
    → seat < length state.seats → EndsAscending change
    → IsSoundBeside (declared_now state (record { seat = seat; statement = state.numbers.statement + 1; change = change }) set filters version)
    → IsSound state
    → IsSound (later (declared_now state (record { seat = seat; statement = state.numbers.statement + 1; change = change }) set filters version)
    (seats_now state seat (outcome.Replied reply)) (state.numbers.statement + 1) state.accepted state.lives.queries)
sound-changed seat change reply set filters version state there ascends changed sound =
    let told = outcome.Replied reply in
    let number = state.numbers.statement + 1 in
    let entry : Entry = record { seat = seat; statement = number; change = change } in
    let middle = declared_now state entry set filters version in
    let beside = beside-seated middle (seats_now state seat told) number (seats-many state seat told) (omega arith) (seats-stay state seat told there) changed in
    sound-beside _ sound.settings beside (ends-with state.entries entry sound.ends ascends)
    (seats-submitted state (later middle (seats_now state seat told) number state.accepted state.lives.queries) seat number told
    (record {
      there = there;
      above = omega arith;
      number = refl;
      settings = refl;
      still = record { asked = λ n low. refl; lives = λ n low. refl };
      awaited = accepted-none state.accepted number (next-apart state sound);
      rising = all_pairs_push (λ (e : Entry) later. e.statement < later.statement) state.entries entry sound.seats.rising
          (λ k d low. let given = stands-low state sound.seats.each (get_or state.entries k d).seat (get_or state.entries k d).statement
          (sound.seats.entries k d low) in omega arith);
      entries = All-push (λ (e : Entry). Contains (get_or (seats_now state seat told) e.seat empty_seat).submitted e.statement)
          state.entries entry
          (λ k d low. let before = get_or state.entries k d in
          stands state seat number told there before.seat before.statement (sound.seats.entries k d low))
          (stands-new state seat number told there);
      queries = λ k d low. let accepted = get_or state.accepted k d in
          stands state seat number told there accepted.seat accepted.number (sound.seats.queries k d low);
    }) sound.seats)

-- a statement that is a query
pub sound-asked : (seat : ℕ) (query : Query) (snapshot : ℕ) (state : State) → seat < length state.seats → IsSettled (tables_of state)
    → snapshot ≡ (tables_of state).commits → IsOver (tables_of state).schema query → IsSome (tables_of state).schema.fact → IsSound state
    → IsSound (asked_now state (seats_now state seat (outcome.Accepted query snapshot)) seat (state.numbers.statement + 1) query snapshot)
sound-asked seat query snapshot state there settled is over declared sound =
    sound-beside _ sound.settings beside sound.ends
    (seats-submitted state now seat number told
    (record {
      there = there;
      above = omega arith;
      number = refl;
      settings = refl;
      still = still-asked state (seats_now state seat told) seat number query snapshot (omega arith);
      awaited = (
        subst (λ o. IsSomeAnd o (λ (a : Accepted). (a.query ≡ query) × (a.snapshot ≡ snapshot)))
            (sym (accepted-push_same state.accepted new (next-apart state sound))) (refl, refl),
        subst (λ o. IfSome (option_map (λ (e : QueryLife). e.life) o) (λ now. now ≢ life.Abandoned))
            (sym (query_in-push_same state.lives.queries entry missing))
            (λ same. let both : life.Waiting ≡ life.Abandoned = same in cc),
      );
      rising = sound.seats.rising;
      entries = λ k d low. let before = get_or state.entries k d in
          stands state seat number told there before.seat before.statement (sound.seats.entries k d low);
      queries = All-push (λ (a : Accepted). Contains (get_or (seats_now state seat told) a.seat empty_seat).submitted a.number) state.accepted new
          (λ k d low. let accepted = get_or state.accepted k d in
          stands state seat number told there accepted.seat accepted.number (sound.seats.queries k d low))
          (stands-new state seat number told there);
    }) sound.seats)
  where
    told : Told
    told = outcome.Accepted query snapshot

    number : ℕ
    number = state.numbers.statement + 1

    new : Accepted
    new = accepted_as seat number query snapshot

    entry : QueryLife
    entry = record { query = number; extent = versions_in state; life = life.Waiting }

    now : State
    now = asked_now state (seats_now state seat told) seat number query snapshot

    beside : IsSoundBeside now
    beside = beside-asked state (seats_now state seat told) seat number query snapshot (seats-many state seat told) (omega arith)
        (seats-stay state seat told there) settled is over declared (beside-of state sound)

    missing : All (λ e. e.query ≡ number → ⊥) state.lives.queries
    missing = of-numbers (λ n. n ≡ number → ⊥) (λ (a : Accepted). a.number) (λ (e : QueryLife). e.query) state.accepted state.lives.queries
        sound.queries.same (next-apart state sound)
