-- Which queries a core has where one seat alone submitted: those among what it took and waits for.
use Rattle.core_state.proofs.Words.{◌++◌, ◌<◌, ◌∙◌, ◌∷◌, ◌≡◌, ◌≢◌, [], Accepted, accepted_at, All, All-cons, All-contains, All-head, All-nil, All-tail, all_pairs_head, all_pairs_tail, AllPairs, ap, arith, Asked, Awaited, cases_eq, cases_lt, cond, cons_option, Contains, Contains-append_left, Contains-append_right, empty_seat, eq-eqb, eqb, filter_map, filter_map-append, find, get_or, get_or_past, HasAccepted, IsAccountedFor, IsAwaited, IsSomeAnd, IsSound, IsTaken, length, life_of, List, map, ne_eqb, None, Option, option_map, Pending, Query, QueryLife, refl, Replied, Seat, seat_at, Some, State, subst, sym, Taken, taken_by, ℕ, ⊎_elim}
use Rattle.std.proofs.lemmas.Map.Made.{Contains-tail}
use Rattle.star_values.proofs.RisingLemmas.{IsMissing, RisesBy, above_head, find-missing, tail_rises}
use Rattle.pipeline_manager.specs.declared.life.Life.TheVariants as life
use Rattle.core_state.specs.Queries.{accepted_by, given_in, queries_among, query_by}
use Rattle.core_state.proofs.AcceptedLemmas.{accepted-rising}
use Rattle.core_state.proofs.FoundLemmas.{accepted-number}
use Rattle.core_state.proofs.FrameLemmas.{numbers_of}
use Rattle.core_state.proofs.ReplyLemmas.{in-order}
use Rattle.core_state.proofs.SeatLemmas.{seat-there}

-- What is found by numbers that rise.

-- what is found by a number, made into something else
abbrev found_by : {X Y : Type 0} → (number_of : X → ℕ) → (X → Y) → List X → (number : ℕ) → Option Y
found_by number_of f xs number = option_map f (find (λ x. eqb (number_of x) number) xs)

-- by numbers above that of the first the others are found
found-behind : {X Y : Type 0} (number_of : X → ℕ) (f : X → Y) (x : X) (xs : List X) (numbers : List ℕ) → All (λ n. number_of x < n) numbers
    → filter_map (found_by number_of f (x ∷ xs)) numbers ≡ filter_map (found_by number_of f xs) numbers
found-behind number_of f x xs [] above = refl
found-behind {X = X} number_of f x xs (n ∷ numbers) above =
    ap (λ t. cons_option (option_map f (cond {A = Option X} t (Some x) (find (λ y. eqb (number_of y) n) xs)))
    (filter_map (found_by number_of f (x ∷ xs)) numbers))
    (ne_eqb (number_of x) n (λ same. let low = All-head (λ m. number_of x < m) n numbers above in omega arith))
    ∙ ap (cons_option (found_by number_of f xs n)) (found-behind number_of f x xs numbers (All-tail (λ m. number_of x < m) n numbers above))

-- what is found by rising numbers, which have that of each of a rising list, is the list
pub found-rising : {X Y : Type 0} (number_of : X → ℕ) (f : X → Y) (numbers : List ℕ) (xs : List X) → AllPairs (λ n later. n < later) numbers
    → RisesBy number_of xs → All (λ x. Contains numbers (number_of x)) xs → filter_map (found_by number_of f xs) numbers ≡ map f xs
found-rising number_of f [] [] ordered rising there = refl
found-rising number_of f [] (x ∷ xs) ordered rising there =
    absurd (let none = All-head (λ y. Contains [] (number_of y)) x xs there in let less = none.1 in omega arith)
found-rising number_of f (n ∷ numbers) [] ordered rising there =
    found-rising number_of f numbers [] (all_pairs_tail (λ m later. m < later) n numbers ordered) rising
    (All-nil (λ y. Contains numbers (number_of y)))
found-rising {X = X} number_of f (n ∷ numbers) (x ∷ xs) ordered rising there = ⊎_elim
    (λ same. is_first same (found-rising number_of f numbers xs behind (tail_rises number_of x xs rising) (others same)))
    (λ apart. is_later apart (found-rising number_of f numbers (x ∷ xs) behind rising (all_later apart)))
    (cases_eq (number_of x) n)
  where
    behind : AllPairs (λ m later. m < later) numbers
    behind = all_pairs_tail (λ m later. m < later) n numbers ordered

    above : All (λ m. n < m) numbers
    above = all_pairs_head (λ m later. m < later) n numbers ordered

    others : number_of x ≡ n → All (λ y. Contains numbers (number_of y)) xs
    others same k d low = Contains-tail n numbers (number_of (get_or xs k d))
        (λ is. let over = above_head number_of x xs rising k d low in omega arith)
        (All-tail (λ y. Contains (n ∷ numbers) (number_of y)) x xs there k d low)

    is_first : number_of x ≡ n → filter_map (found_by number_of f xs) numbers ≡ map f xs
        → filter_map (found_by number_of f (x ∷ xs)) (n ∷ numbers) ≡ map f (x ∷ xs)
    is_first same rest =
        ap (λ t. cons_option (option_map f (cond {A = Option X} t (Some x) (find (λ y. eqb (number_of y) n) xs)))
        (filter_map (found_by number_of f (x ∷ xs)) numbers)) (eq-eqb (number_of x) n same)
        ∙ ap (λ list. f x ∷ list)
        (found-behind number_of f x xs numbers (λ k d low. let over = above k d low in omega arith) ∙ rest)

    missing : number_of x ≢ n → IsMissing number_of n (x ∷ xs)
    missing apart =
        let first_there = Contains-tail n numbers (number_of x) (λ is. apart (sym is))
        (All-head (λ y. Contains (n ∷ numbers) (number_of y)) x xs there) in
        let less = All-contains (λ m. n < m) numbers (number_of x) above first_there in
        All-cons (λ y. number_of y ≡ n → ⊥) x xs apart
        (λ k d low same. let over = above_head number_of x xs rising k d low in omega arith)

    all_later : number_of x ≢ n → All (λ y. Contains numbers (number_of y)) (x ∷ xs)
    all_later apart k d low = Contains-tail n numbers (number_of (get_or (x ∷ xs) k d)) (λ is. missing apart k d low (sym is)) (there k d low)

    is_later : number_of x ≢ n → filter_map (found_by number_of f (x ∷ xs)) numbers ≡ map f (x ∷ xs)
        → filter_map (found_by number_of f (x ∷ xs)) (n ∷ numbers) ≡ map f (x ∷ xs)
    is_later apart rest =
        ap (λ o. cons_option (option_map f o) (filter_map (found_by number_of f (x ∷ xs)) numbers))
        (find-missing number_of (x ∷ xs) n (missing apart)) ∙ rest

-- What the statements of a seat ask.

-- what is asked by a statement of this number
abbrev asked_at : List Accepted → (number : ℕ) → Option (ℕ × (Query × ℕ))
asked_at accepted number = option_map accepted_by (accepted_at accepted number)

-- a query of the core is asked by its number
has-asked : (accepted : List Accepted) (number : ℕ) (query : Query) (snapshot : ℕ) → HasAccepted accepted number query snapshot
    → asked_at accepted number ≡ Some (number, (query, snapshot))
has-asked accepted number query snapshot has = by_found (accepted_at accepted number) refl has
  where
    asked : ℕ → Query → ℕ → Option (ℕ × (Query × ℕ))
    asked n q s = Some (n, (q, s))

    by_found : (o : Option Accepted) → accepted_at accepted number ≡ o → IsSomeAnd o (λ a. (a.query ≡ query) × (a.snapshot ≡ snapshot))
        → option_map accepted_by o ≡ Some (number, (query, snapshot))
    by_found None is found = absurd found
    by_found (Some a) is found =
        ap (λ n. asked n a.query a.snapshot) (accepted-number accepted number a is)
        ∙ ap (λ q. asked number q a.snapshot) found.0 ∙ ap (asked number query) found.1

-- a statement whose reply was taken is the query of its number, if it is one
asked-taken : (accepted : List Accepted) (queries : List QueryLife) (taken : Taken) → IsTaken accepted queries taken.statement taken.told
    → query_by taken ≡ asked_at accepted taken.statement
asked-taken accepted queries taken is = by_told taken.told is
  where
    by_told : (told : Awaited) → IsTaken accepted queries taken.statement told
        → query_by (record { statement = taken.statement; told = told }) ≡ asked_at accepted taken.statement
    by_told (Replied reply) none = sym (ap (option_map accepted_by) none)
    by_told (Asked query snapshot) has = sym (has-asked accepted taken.statement query snapshot has.0)

-- so is one that is waited for
asked-awaited : (accepted : List Accepted) (queries : List QueryLife) (pending : Pending)
    → IsAwaited accepted queries pending.statement pending.awaited → query_by (taken_by pending) ≡ asked_at accepted pending.statement
asked-awaited accepted queries pending is = by_awaited pending.awaited is
  where
    by_awaited : (awaited : Awaited) → IsAwaited accepted queries pending.statement awaited
        → query_by (taken_by (record { statement = pending.statement; awaited = awaited })) ≡ asked_at accepted pending.statement
    by_awaited (Replied reply) none = sym (ap (option_map accepted_by) none)
    by_awaited (Asked query snapshot) has = sym (has-asked accepted pending.statement query snapshot has.0)

-- the queries among statements whose replies were taken are those of their numbers
among-taken : (accepted : List Accepted) (queries : List QueryLife) (taken : List Taken)
    → All (λ t. IsTaken accepted queries t.statement t.told) taken
    → queries_among taken ≡ filter_map (asked_at accepted) (map (λ t. t.statement) taken)
among-taken accepted queries [] all = refl
among-taken accepted queries (first ∷ taken) all =
    ap (λ o. cons_option o (queries_among taken))
    (asked-taken accepted queries first (All-head (λ t. IsTaken accepted queries t.statement t.told) first taken all))
    ∙ ap (cons_option (asked_at accepted first.statement))
    (among-taken accepted queries taken (All-tail (λ t. IsTaken accepted queries t.statement t.told) first taken all))

-- and so are those among statements that are waited for
among-awaited : (accepted : List Accepted) (queries : List QueryLife) (pending : List Pending)
    → All (λ p. IsAwaited accepted queries p.statement p.awaited) pending
    → queries_among (map taken_by pending) ≡ filter_map (asked_at accepted) (map (λ p. p.statement) pending)
among-awaited accepted queries [] all = refl
among-awaited accepted queries (first ∷ pending) all =
    ap (λ o. cons_option o (queries_among (map taken_by pending)))
    (asked-awaited accepted queries first (All-head (λ p. IsAwaited accepted queries p.statement p.awaited) first pending all))
    ∙ ap (cons_option (asked_at accepted first.statement))
    (among-awaited accepted queries pending (All-tail (λ p. IsAwaited accepted queries p.statement p.awaited) first pending all))

-- and those among what a seat took and waits for
among-given : (accepted : List Accepted) (queries : List QueryLife) (seat : Seat)
    → All (λ t. IsTaken accepted queries t.statement t.told) seat.taken
    → All (λ p. IsAwaited accepted queries p.statement p.awaited) seat.pending
    → queries_among (given_in seat) ≡ filter_map (asked_at accepted) (numbers_of seat)
among-given accepted queries seat taken awaited =
    filter_map-append query_by seat.taken (map taken_by seat.pending)
    ∙ ap (λ list. list ++ queries_among (map taken_by seat.pending)) (among-taken accepted queries seat.taken taken)
    ∙ ap (λ list. filter_map (asked_at accepted) (map (λ (t : Taken). t.statement) seat.taken) ++ list)
    (among-awaited accepted queries seat.pending awaited)
    ∙ sym (filter_map-append (asked_at accepted) (map (λ (t : Taken). t.statement) seat.taken) (map (λ (p : Pending). p.statement) seat.pending))

-- where one seat alone submitted, and no query was abandoned, the queries of the core are those among what it took and waits for
pub accepted-given : (state : State) (seat : ℕ) → IsSound state → ((other : ℕ) → other ≢ seat → (seat_at state other).submitted ≡ [])
    → ((query : ℕ) → life_of state.lives query ≢ Some life.Abandoned)
    → map accepted_by state.accepted ≡ queries_among (given_in (seat_at state seat))
accepted-given state seat sound alone kept =
    sym (among ∙ found-rising (λ (a : Accepted). a.number) accepted_by (numbers_of here) state.accepted (in-order state seat sound)
    (accepted-rising state sound.queries sound.slots.lives.rising) (λ k d low. by_seat (get_or state.accepted k d) (sound.seats.queries k d low)))
  where
    here : Seat
    here = seat_at state seat

    among : queries_among (given_in here) ≡ filter_map (asked_at state.accepted) (numbers_of here)
    among = ⊎_elim
        (λ low. let is = sound.seats.each seat empty_seat low in among-given state.accepted state.lives.queries here is.taken is.awaited)
        (λ past. subst (λ (s : Seat). queries_among (given_in s) ≡ filter_map (asked_at state.accepted) (numbers_of s))
        (sym (get_or_past state.seats seat empty_seat past)) refl)
        (cases_lt seat (length state.seats))

    -- what it submitted it took or waits for
    given : (number : ℕ) → Contains here.submitted number → Contains (numbers_of here) number
    given number has =
        let took : List ℕ = map (λ (t : Taken). t.statement) here.taken in
        let waits : List ℕ = map (λ (p : Pending). p.statement) here.pending in
        ⊎_elim (λ is. Contains-append_left took waits number is)
        (λ other. ⊎_elim (λ is. Contains-append_right took waits number is) (λ lost. absurd (kept number lost)) other)
        (All-contains (IsAccountedFor state.lives.queries here) here.submitted number
        (sound.seats.each seat empty_seat (seat-there state.seats seat number has)).whole has)

    by_seat : (accepted : Accepted) → Contains (seat_at state accepted.seat).submitted accepted.number → Contains (numbers_of here) accepted.number
    by_seat accepted has = ⊎_elim
        (λ same. given accepted.number (subst (λ n. Contains (seat_at state n).submitted accepted.number) same has))
        (λ apart. absurd (let none : Contains [] accepted.number =
        subst (λ list. Contains list accepted.number) (alone accepted.seat apart) has in
        let less = none.1 in omega arith))
        (cases_eq accepted.seat seat)
