-- A reply that is taken keeps a core sound.
use Rattle.core_state.proofs.Words.{◌++◌, ◌<◌, ◌∙◌, ◌∷◌, ◌≡◌, ◌≢◌, ◌⊎◌, [], Accepted, after_taking, All, All-contains, All-head, All-push, All-tail, All-weaker, AllPairs, ap, append_assoc, AreSoundQueries, Asked, Awaited, cases_eq, cond, Contains, Contains-append_left, Contains-push, drop, empty_seat, eq-eqb, false, forgotten, get_or, get_or-set_other, get_or-set_same, HasTaken, IfSome, inl, inr, is_open, IsAccountedFor, IsAwaited, IsKept, IsSome, IsSound, IsSoundQuery, IsSoundSeat, IsTaken, length, length-set, Life, life_in, List, map, map-append, map_push, ne_eqb, next_ready, None, Option, option_and_then, Pending, query_in, QueryLife, ready_by, ready_to, refl, Replied, Seat, seat_at, set, slice_get, Some, State, subst, sym, tables_of, take, Taken, taken_by, true, without_groups, ℕ, ⊎_elim}
use Rattle.pipeline_manager.specs.declared.life.Life.TheVariants as life
use Rattle.core_state.proofs.AcceptedLemmas.{none-lives}
use Rattle.core_state.proofs.AnewLemmas.{by-change, forgets, kept_anew, queries-anew, sound-anew}
use Rattle.core_state.proofs.FoundLemmas.{life-found, some-at, some-by}
use Rattle.core_state.proofs.FrameLemmas.{LivesAs, StayTaken, Told, at-set, kept-with, lives-as}
use Rattle.core_state.proofs.SeatLemmas.{contains-cases, one-seat, part-stays, pending-submitted, pending-there, seat-anew, seats-anew}

-- what is ready is no query, or one that is over
pub ready-told : (state : State) (statement : ℕ) (awaited : Awaited) → AreSoundQueries state → IsAwaited state.accepted state.lives.queries statement awaited
    → IsSome (ready_to state statement awaited) → IfSome (life_in state.lives.queries statement) Told
ready-told state statement (Replied reply) queries none ready = subst (λ o. IfSome o Told) (sym (none-lives state queries statement none)) tt
ready-told state statement (Asked query snapshot) queries awaited ready = by_life (life_in state.lives.queries statement) ready
  where
    by_life : (o : Option Life) → IsSome (option_and_then (ready_by state statement snapshot) o) → IfSome o Told
    by_life None e = tt
    by_life (Some life.Answered) e = inl refl
    by_life (Some life.Spoiled) e = inr refl
    by_life other e = absurd (let both : false ≡ true = e in cc)

told-closed : (now : Life) → Told now → is_open now ≡ false
told-closed now told = ⊎_elim (λ e. ap is_open e) (λ e. ap is_open e) told

-- nothing has to be kept of a query that is over once its seat took the reply
told-kept : (state : State) (accepted : Accepted) (extent : ℕ) (now : Life) → Told now → accepted.groups ≡ None → HasTaken state.seats accepted
    → IsKept (tables_of state) state.seats state.scan accepted extent now
told-kept state accepted extent now told none taken =
    ⊎_elim (λ e. subst (IsKept (tables_of state) state.seats state.scan accepted extent) (sym e) (inl (none, taken))) (λ e. subst (IsKept (tables_of state) state.seats state.scan accepted extent) (sym e) none) told

-- a seat that has taken the reply to its first statement
abbrev with_first : Pending → List Pending → Seat → Seat
with_first first rest seat = record seat { pending = rest; taken = seat.taken ++ taken_by first ∷ [] }

seat-taken : (state : State) (first : Pending) (rest : List Pending) (seat : Seat) → IfSome (life_in state.lives.queries first.statement) Told
    → IsSoundSeat state.numbers.statement state.accepted state.lives.queries (record seat { pending = first ∷ rest }) → IsSoundSeat state.numbers.statement state.accepted state.lives.queries (with_first first rest seat)
seat-taken state first rest seat told old = record {
  rising = old.rising;
  given = old.given;
  in_order = subst (AllPairs (λ statement later. statement < later)) (sym same) old.in_order;
  submitted = subst (All (Contains seat.submitted)) (sym same) old.submitted;
  taken = All-push (λ taken. IsTaken state.accepted state.lives.queries taken.statement taken.told) seat.taken (taken_by first) old.taken
      (by_awaited first.awaited (All-head (λ pending. IsAwaited state.accepted state.lives.queries pending.statement pending.awaited) first rest old.awaited));
  awaited = All-tail (λ pending. IsAwaited state.accepted state.lives.queries pending.statement pending.awaited) first rest old.awaited;
  whole = All-weaker (IsAccountedFor state.lives.queries (record seat { pending = first ∷ rest }))
      (IsAccountedFor state.lives.queries (with_first first rest seat)) accounted seat.submitted old.whole;
}
  where
    same : map (λ taken. taken.statement) (seat.taken ++ taken_by first ∷ []) ++ map (λ pending. pending.statement) rest
        ≡ map (λ taken. taken.statement) seat.taken ++ (first.statement ∷ map (λ pending. pending.statement) rest)
    same =
        ap (λ front. front ++ map (λ pending. pending.statement) rest)
        (map-append (λ (taken : Taken). taken.statement) seat.taken (taken_by first ∷ []))
        ∙ append_assoc (map (λ taken. taken.statement) seat.taken) (first.statement ∷ []) (map (λ pending. pending.statement) rest)

    by_awaited : (awaited : Awaited) → IsAwaited state.accepted state.lives.queries first.statement awaited → IsTaken state.accepted state.lives.queries first.statement awaited
    by_awaited (Replied reply) none = none
    by_awaited (Asked query snapshot) is = (is.0, told)

    before : List ℕ
    before = map (λ taken. taken.statement) seat.taken

    took : (number : ℕ) → Contains (before ++ first.statement ∷ []) number → Contains (map (λ taken. taken.statement) (seat.taken ++ taken_by first ∷ [])) number
    took number = subst (λ numbers. Contains numbers number) (sym (map_push (λ (taken : Taken). taken.statement) seat.taken (taken_by first)))

    accounted : (number : ℕ) → IsAccountedFor state.lives.queries (record seat { pending = first ∷ rest }) number
        → IsAccountedFor state.lives.queries (with_first first rest seat) number
    accounted number is = ⊎_elim (λ taken. inl (took number (Contains-append_left before (first.statement ∷ []) number taken)))
        (λ other. ⊎_elim
        (λ waits. ⊎_elim (λ same. inl (took number (subst (Contains (before ++ first.statement ∷ [])) same (Contains-push before first.statement))))
        (λ among. inr (inl among)) (contains-cases first.statement (map (λ pending. pending.statement) rest) number waits))
        (λ lost. inr (inr lost)) other) is

sound-with_first : (seat : ℕ) (first : Pending) (rest : List Pending) (state : State)
    → (get_or state.seats seat empty_seat).pending ≡ first ∷ rest → IfSome (life_in state.lives.queries first.statement) Told → IsSound state
    → IsSound (kept_anew state (forgotten first.statement) state.lives.queries
    (set state.seats seat (with_first first rest (get_or state.seats seat empty_seat))) state.scan)
sound-with_first seat first rest state is told sound =
    sound-anew state (forgotten first.statement) (forgets first.statement) queries seats (λ number. (λ on. on, refl)) (length-set state.seats seat with)
    (queries-anew state (forgotten first.statement) (forgets first.statement) queries seats state.scan refl
    (λ accepted among of_query. some-by (LivesAs (tables_of state) seats state.scan accepted (forgotten first.statement accepted)) (query_in queries accepted.number)
    (λ entry found. lives accepted among of_query entry found (cases_eq accepted.number first.statement))) sound.queries)
    (record { lives = sound.slots.lives; count = sound.slots.count; built = sound.slots.built })
    (seats-anew state (forgotten first.statement) (forgets first.statement) queries seats state.scan (length-set state.seats seat with)
    (part-stays (λ (s : Seat). s.submitted) state.seats seat with there refl)
    (λ k d low. each k d (subst (λ n. k < n) (length-set state.seats seat with) low)) sound.seats) sound
  where
    queries : List QueryLife
    queries = state.lives.queries

    with : Seat
    with = with_first first rest (get_or state.seats seat empty_seat)

    seats : List Seat
    seats = set state.seats seat with

    now : State
    now = kept_anew state (forgotten first.statement) queries seats state.scan

    there : seat < length state.seats
    there = pending-there state.seats seat first rest is

    each : (k : ℕ) (d : Seat) → k < length state.seats → IsSoundSeat now.numbers.statement now.accepted now.lives.queries (get_or seats k d)
    each k d low = at-set (IsSoundSeat now.numbers.statement now.accepted now.lives.queries) state.seats seat k with d low
        (λ same. seat-anew state (forgotten first.statement) (forgets first.statement) queries with (λ j p inside h. h) (λ number h. h) (λ number was. was)
        (seat-taken state first rest (get_or state.seats seat empty_seat) told
        (subst (λ ps. IsSoundSeat state.numbers.statement state.accepted state.lives.queries (record (get_or state.seats seat empty_seat) { pending = ps }))
        is (sound.seats.each seat empty_seat there))))
        (λ apart. seat-anew state (forgotten first.statement) (forgets first.statement) queries (get_or state.seats k d) (λ j p inside h. h) (λ number h. h) (λ number was. was)
        (sound.seats.each k d low))

    -- the number of a statement stands in one seat
    one_seat : (accepted : Accepted) → Contains state.accepted accepted → accepted.number ≡ first.statement → accepted.seat ≡ seat
    one_seat accepted among same =
        one-seat state sound.seats accepted.seat seat first.statement
        (subst (Contains (get_or state.seats accepted.seat empty_seat).submitted) same
        (All-contains (λ a. Contains (get_or state.seats a.seat empty_seat).submitted a.number) state.accepted accepted sound.seats.queries among))
        (All-head (λ pending. Contains (get_or state.seats seat empty_seat).submitted pending.statement) first rest
        (subst (All (λ pending. Contains (get_or state.seats seat empty_seat).submitted pending.statement)) is
        (pending-submitted state (get_or state.seats seat empty_seat) (sound.seats.each seat empty_seat there))))

    -- what was taken stays taken, and the reply is
    stay : StayTaken state.seats seats
    stay other number has = ⊎_elim
        (λ same. subst (λ n. Contains (map (λ taken. taken.statement) (get_or seats n empty_seat).taken) number) (sym same)
        (subst (λ (s : Seat). Contains (map (λ taken. taken.statement) s.taken) number) (sym (get_or-set_same state.seats seat with empty_seat there))
        (subst (λ numbers. Contains numbers number)
        (sym (map-append (λ (taken : Taken). taken.statement) (get_or state.seats seat empty_seat).taken (taken_by first ∷ [])))
        (Contains-append_left (map (λ taken. taken.statement) (get_or state.seats seat empty_seat).taken) (first.statement ∷ []) number
        (subst (λ n. Contains (map (λ taken. taken.statement) (get_or state.seats n empty_seat).taken) number) same has)))))
        (λ apart. subst (λ (s : Seat). Contains (map (λ taken. taken.statement) s.taken) number)
        (sym (get_or-set_other state.seats seat other with empty_seat apart)) has)
        (cases_eq other seat)

    taken : (accepted : Accepted) → Contains state.accepted accepted → accepted.number ≡ first.statement → HasTaken now.seats (forgotten first.statement accepted)
    taken accepted among same = by-change (HasTaken now.seats) (forgotten first.statement) (forgets first.statement) accepted (λ groups.
        subst (λ n. Contains (map (λ t. t.statement) (get_or seats n empty_seat).taken) accepted.number) (sym (one_seat accepted among same))
        (subst (λ (s : Seat). Contains (map (λ t. t.statement) s.taken) accepted.number) (sym (get_or-set_same state.seats seat with empty_seat there))
        (subst (Contains (map (λ t. t.statement) with.taken)) (sym same)
        (subst (λ numbers. Contains numbers first.statement)
        (sym (map-append (λ (t : Taken). t.statement) (get_or state.seats seat empty_seat).taken (taken_by first ∷ [])))
        (Contains-push (map (λ t. t.statement) (get_or state.seats seat empty_seat).taken) first.statement)))))

    lives : (accepted : Accepted) → Contains state.accepted accepted → IsSoundQuery state accepted → (entry : QueryLife) → query_in queries accepted.number ≡ Some entry
        → (accepted.number ≡ first.statement) ⊎ (accepted.number ≢ first.statement)
        → LivesAs (tables_of state) seats state.scan accepted (forgotten first.statement accepted) entry
    lives accepted among of_query entry found (inl same) =
        let over : Told entry.life = some-at Told (life_in queries first.statement) entry.life
        (subst (λ n. life_in queries n ≡ Some entry.life) same (life-found queries accepted.number entry found)) told in (
          told-kept now (forgotten first.statement accepted) entry.extent entry.life over
              (ap (λ t. (cond {A = Accepted} t (record accepted { groups = None }) accepted).groups) (eq-eqb accepted.number first.statement same))
              (taken accepted among same),
          λ opens. absurd (let both : true ≡ false = sym opens ∙ told-closed entry.life over in cc),
          (lives-as state accepted of_query entry found).2,
        )
    lives accepted among of_query entry found (inr apart) =
        let was = lives-as state accepted of_query entry found in
        subst (λ given. LivesAs (tables_of state) seats state.scan accepted given entry)
        (sym (ap (λ t. cond {A = Accepted} t (record accepted { groups = None }) accepted) (ne_eqb accepted.number first.statement apart))) (
          kept-with (tables_of state) state.seats seats state.scan state.scan stay accepted entry.extent entry.life refl refl was.0,
          was.1,
          was.2,
        )

-- where a reply may be taken, the seat waits for a first statement, which is no query, or one that is over
pub ready-first : (state : State) (seat : ℕ) → IsSound state → IsSome (next_ready state seat)
    → (first : Pending) × (rest : List Pending) × ((seat_at state seat).pending ≡ first ∷ rest)
    × IfSome (life_in state.lives.queries first.statement) Told
ready-first state seat sound = by_pending (seat_at state seat).pending refl
  where
    by_pending : (pending : List Pending) → (seat_at state seat).pending ≡ pending
        → IsSome (option_and_then (λ (first : Pending). ready_to state first.statement first.awaited) (slice_get pending 0))
        → (first : Pending) × (rest : List Pending) × ((seat_at state seat).pending ≡ first ∷ rest)
        × IfSome (life_in state.lives.queries first.statement) Told
    by_pending [] is some = absurd (let both : false ≡ true = some in cc)
    by_pending (first ∷ rest) is some = (
      first,
      rest,
      is,
      ready-told state first.statement first.awaited sound.queries
          (All-head (λ pending. IsAwaited state.accepted state.lives.queries pending.statement pending.awaited) first rest
          (subst (All (λ pending. IsAwaited state.accepted state.lives.queries pending.statement pending.awaited)) is
          (sound.seats.each seat empty_seat (pending-there state.seats seat first rest is)).awaited)) some,
    )

pub sound-replied : (seat : ℕ) (state : State) → IsSome (next_ready state seat) → IsSound state → IsSound (after_taking seat state)
sound-replied seat state ready sound =
    let first = ready-first state seat sound ready in
    subst (λ pending. IsSound (record state {
      accepted = without_groups (take 1 pending) state.accepted;
      seats = set state.seats seat (record here { pending = drop 1 pending; taken = here.taken ++ map taken_by (take 1 pending) });
    })) (sym first.2) (sound-with_first seat first.0 first.1 state first.2 first.3 sound)
  where
    here : Seat
    here = seat_at state seat
