-- What a seat may take is right, and it waits only for what may still be answered.
use Rattle.core_state.proofs.Words.{◌++◌, ◌<◌, ◌∙◌, ◌∷◌, ◌≡◌, ◌≢◌, ◌⊎◌, [], Accepted, accepted_at, All, All-contains, All-head, all_pairs_head, all_pairs_tail, AllPairs, answer_of, ap, AreSoundQueries, arith, Asked, Awaited, cases_lt, Contains, empty_seat, eqb, false, get_or_past, Grouped, grouped_of, Grouping, groups_in, HasAccepted, HasTaken, IfSome, inl, inr, is_open, is_some, IsAnswer, IsAwaited, IsKept, IsPermutation, IsRight, IsSomeAnd, IsSound, IsSoundQuery, IsSoundSeat, IsTrue, Joined, kept, length, Life, life_of, List, map, next_ready, None, Option, option_and_then, option_map, option_map_or, Pending, Query, query_in, QueryLife, Ready, ready_by, ready_to, refl, Replied, Seat, seat_at, slice_get, Some, State, subst, suc, sym, tables_of, true, Whole, zero, ℕ, ⊎_elim}
use Rattle.reply_text.specs.declared.reply.Reply.TheVariants.{Memory}
use Rattle.pipeline_manager.specs.declared.life.Life.TheVariants as life
use Rattle.core_state.specs.Answers.{AnswersAlone}
use Rattle.core_state.proofs.AcceptedLemmas.{accepted-lives, find-holds, of-accepted}
use Rattle.core_state.proofs.FoundLemmas.{some-at}
use Rattle.core_state.proofs.SeatLemmas.{one-seat, pending-submitted}

-- rows in another order have the same answer
abbrev pub IgnoresOrder : Type 0
IgnoresOrder = (query : Query) (rows others : List Joined) → IsPermutation rows others → answer_of query rows ≡ answer_of query others

-- the first statement that a seat waits for
record IsFirst (state : State) (seat : ℕ) (pending : Pending) : Type 0 where
  there : seat < length state.seats
  sound : IsSoundSeat state.numbers.statement state.accepted state.lives.queries (seat_at state seat)
  rest : (rest : List Pending) × ((seat_at state seat).pending ≡ pending ∷ rest)

first-of : (state : State) (seat : ℕ) (pending : Pending) → IsSound state → slice_get (seat_at state seat).pending 0 ≡ Some pending
    → IsFirst state seat pending
first-of state seat pending sound is = record {
  there = there;
  sound = sound.seats.each seat empty_seat there;
  rest = by_list (seat_at state seat).pending is;
}
  where
    there : seat < length state.seats
    there = ⊎_elim (λ low. low)
        (λ past. absurd (let both : None ≡ Some pending =
        sym (ap (λ (s : Seat). slice_get s.pending 0) (get_or_past state.seats seat empty_seat past)) ∙ is in cc))
        (cases_lt seat (length state.seats))

    by_list : (waited : List Pending) → slice_get waited 0 ≡ Some pending → (rest : List Pending) × (waited ≡ pending ∷ rest)
    by_list [] e = absurd (let both : None ≡ Some pending = e in cc)
    by_list (first ∷ rest) e = let same : first ≡ pending = cc in (rest, ap (λ p. p ∷ rest) same)

-- the seat waits for it as it should
awaits : (state : State) (seat : ℕ) (pending : Pending) → IsFirst state seat pending → IsAwaited state.accepted state.lives.queries pending.statement pending.awaited
awaits state seat pending first =
    All-head (λ p. IsAwaited state.accepted state.lives.queries p.statement p.awaited) pending first.rest.0
    (subst (All (λ p. IsAwaited state.accepted state.lives.queries p.statement p.awaited)) first.rest.1 first.sound.awaited)

-- an accepted query that is answered and whose reply was not taken keeps groups that answer it
answer-kept : IgnoresOrder → (state : State) (accepted : Accepted) → IsSoundQuery state accepted → life_of state.lives accepted.number ≡ Some life.Answered
    → ((accepted.groups ≡ None) × HasTaken state.seats accepted)
    ⊎ ((groups : Grouped) × (accepted.groups ≡ Some groups) × AnswersAlone (tables_of state) accepted.query accepted.snapshot groups)
answer-kept ignores state accepted sound is = by_entry (query_in state.lives.queries accepted.number) refl is
  where
    by_kept : ((accepted.groups ≡ None) × HasTaken state.seats accepted) ⊎ IsAnswer (tables_of state) accepted
        → ((accepted.groups ≡ None) × HasTaken state.seats accepted)
        ⊎ ((groups : Grouped) × (accepted.groups ≡ Some groups) × AnswersAlone (tables_of state) accepted.query accepted.snapshot groups)
    by_kept (inl gone) = inl gone
    by_kept (inr answer) = inr (
      grouped_of accepted.query answer.rows,
      answer.groups,
      record {
        rows = answer.rows;
        of_rows = refl;
        answer = ignores accepted.query answer.rows (kept (tables_of state) accepted.query accepted.snapshot) answer.all;
      },
    )

    by_entry : (o : Option QueryLife) → query_in state.lives.queries accepted.number ≡ o → option_map (λ entry. entry.life) o ≡ Some life.Answered
        → ((accepted.groups ≡ None) × HasTaken state.seats accepted)
        ⊎ ((groups : Grouped) × (accepted.groups ≡ Some groups) × AnswersAlone (tables_of state) accepted.query accepted.snapshot groups)
    by_entry None found e = absurd (let both : None ≡ Some life.Answered = e in cc)
    by_entry (Some entry) found e =
        let answered : entry.life ≡ life.Answered = cc in
        by_kept (subst (IsKept (tables_of state) state.seats state.scan accepted entry.extent) answered
        (some-at (λ q. IsKept (tables_of state) state.seats state.scan accepted q.extent q.life) (query_in state.lives.queries accepted.number) entry found sound.kept))

-- a seat did not take what it waits for
not-taken : (state : State) (seat : ℕ) (pending : Pending) (accepted : Accepted) → IsSound state → IsFirst state seat pending
    → accepted.number ≡ pending.statement → Contains (seat_at state accepted.seat).submitted accepted.number → HasTaken state.seats accepted → ⊥
not-taken state seat pending accepted sound first same submits taken =
    let here : Contains (seat_at state seat).submitted pending.statement =
    All-head (λ p. Contains (seat_at state seat).submitted p.statement) pending first.rest.0
    (subst (All (λ p. Contains (seat_at state seat).submitted p.statement)) first.rest.1
    (pending-submitted state (seat_at state seat) first.sound)) in
    let seats_same : accepted.seat ≡ seat =
    one-seat state sound.seats accepted.seat seat pending.statement (subst (Contains (seat_at state accepted.seat).submitted) same submits) here in
    twice (map (λ t. t.statement) (seat_at state seat).taken) (map (λ p. p.statement) first.rest.0) pending.statement
    (subst (λ waited. AllPairs (λ statement later. statement < later)
    (map (λ t. t.statement) (seat_at state seat).taken ++ map (λ p. p.statement) waited)) first.rest.1 first.sound.in_order)
    (subst (Contains (map (λ t. t.statement) (seat_at state seat).taken)) same
    (subst (λ n. Contains (map (λ t. t.statement) (seat_at state n).taken) accepted.number) seats_same taken))
  where
    behind : (front back : List ℕ) (number : ℕ) → Contains (front ++ number ∷ back) number
    behind [] back number = (zero, (omega arith), refl)
    behind (x ∷ front) back number = let rest = behind front back number in (suc rest.0, (let low = rest.1 in omega arith), rest.2)

    -- a number does not rise over itself
    twice : (front back : List ℕ) (number : ℕ) → AllPairs (λ statement later. statement < later) (front ++ number ∷ back) → Contains front number → ⊥
    twice [] back number rising has = let low = has.1 in omega arith
    twice (x ∷ front) back number rising (zero, low, is) =
        let above = All-contains (λ later. x < later) (front ++ number ∷ back) number
        (all_pairs_head (λ s later. s < later) x (front ++ number ∷ back) rising) (behind front back number) in
        let same_number : x ≡ number = is in omega arith
    twice (x ∷ front) back number rising (suc k, low, is) =
        twice front back number (all_pairs_tail (λ s later. s < later) x (front ++ number ∷ back) rising) (k, (omega arith), is)

-- an awaited query that is answered has groups that answer it
asked-answer : IgnoresOrder → (state : State) (seat : ℕ) (pending : Pending) (query : Query) (snapshot : ℕ) → IsSound state → IsFirst state seat pending
    → HasAccepted state.accepted pending.statement query snapshot → life_of state.lives pending.statement ≡ Some life.Answered
    → (groups : Grouped) × (groups_in state pending.statement ≡ Some groups) × AnswersAlone (tables_of state) query snapshot groups
asked-answer ignores state seat pending query snapshot sound first has is = by_found (accepted_at state.accepted pending.statement) refl has
  where
    by_found : (o : Option Accepted) → accepted_at state.accepted pending.statement ≡ o
        → IsSomeAnd o (λ a. (a.query ≡ query) × (a.snapshot ≡ snapshot))
        → (groups : Grouped) × (groups_in state pending.statement ≡ Some groups) × AnswersAlone (tables_of state) query snapshot groups
    by_found None found h = absurd h
    by_found (Some accepted) found h =
        let of = of-accepted state pending.statement accepted sound.queries found in
        let submits : Contains (seat_at state accepted.seat).submitted accepted.number =
        find-holds (λ a. Contains (seat_at state a.seat).submitted a.number) (λ a. eqb a.number pending.statement) state.accepted accepted found
        sound.seats.queries in
        ⊎_elim (λ gone. absurd (not-taken state seat pending accepted sound first of.1 submits gone.1))
        (λ answer. (
          answer.0,
          ap (λ o. option_map_or (λ a. a.groups) o None) found ∙ answer.1,
          subst (λ q. AnswersAlone (tables_of state) q snapshot answer.0) h.0
              (subst (λ s. AnswersAlone (tables_of state) accepted.query s answer.0) h.1 answer.2),
        )) (answer-kept ignores state accepted of.0 (subst (λ n. life_of state.lives n ≡ Some life.Answered) (sym of.1) is))

-- a query that is asked has a life
asked-lives : (state : State) (statement : ℕ) (query : Query) (snapshot : ℕ) → AreSoundQueries state → HasAccepted state.accepted statement query snapshot
    → life_of state.lives statement ≡ None → ⊥
asked-lives state statement query snapshot queries has none =
    let found : is_some (accepted_at state.accepted statement) ≡ true = by_found (accepted_at state.accepted statement) has in
    let missing : is_some (query_in state.lives.queries statement) ≡ false = by_entry (query_in state.lives.queries statement) none in
    let both : true ≡ false = sym found ∙ accepted-lives state statement queries ∙ missing in
    cc
  where
    by_found : (o : Option Accepted) → IsSomeAnd o (λ a. (a.query ≡ query) × (a.snapshot ≡ snapshot)) → is_some o ≡ true
    by_found None h = absurd h
    by_found (Some accepted) h = refl

    by_entry : (o : Option QueryLife) → option_map (λ entry. entry.life) o ≡ None → is_some o ≡ false
    by_entry None e = refl
    by_entry (Some entry) e = absurd (let both : Some entry.life ≡ None = e in cc)

pub reply-right : IgnoresOrder → (state : State) (seat : ℕ) (pending : Pending) (ready : Ready) → IsSound state
    → slice_get (seat_at state seat).pending 0 ≡ Some pending → next_ready state seat ≡ Some ready
    → IsRight state pending.statement pending.awaited ready
reply-right ignores state seat pending ready sound is may =
    by_awaited pending.awaited (awaits state seat pending first)
    (sym (ap (option_and_then (λ p. ready_to state p.statement p.awaited)) is) ∙ may)
  where
    first : IsFirst state seat pending
    first = first-of state seat pending sound is

    by_life : (query : Query) (snapshot : ℕ) → HasAccepted state.accepted pending.statement query snapshot → (o : Option Life) → life_of state.lives pending.statement ≡ o
        → option_and_then (ready_by state pending.statement snapshot) o ≡ Some ready → IsRight state pending.statement (Asked query snapshot) ready
    by_life query snapshot has (Some life.Answered) was e =
        let answer = asked-answer ignores state seat pending query snapshot sound first has was in
        let gives : Some (Grouping snapshot answer.0) ≡ Some ready = sym (ap (option_map (Grouping snapshot)) answer.1) ∙ e in
        let same : Grouping snapshot answer.0 ≡ ready = cc in
        subst (IsRight state pending.statement (Asked query snapshot)) same (refl, was, answer.2)
    by_life query snapshot has (Some life.Spoiled) was e =
        let same : Whole Memory ≡ ready = cc in
        subst (IsRight state pending.statement (Asked query snapshot)) same (refl, was)
    by_life query snapshot has other was e = absurd (let both : None ≡ Some ready = e in cc)

    by_awaited : (awaited : Awaited) → IsAwaited state.accepted state.lives.queries pending.statement awaited → ready_to state pending.statement awaited ≡ Some ready
        → IsRight state pending.statement awaited ready
    by_awaited (Replied reply) none e = let same : Whole reply ≡ ready = cc in sym same
    by_awaited (Asked query snapshot) has e = by_life query snapshot has.0 (life_of state.lives pending.statement) refl e

-- where nothing may be taken the first statement is a query that may still be answered
pub waits-open : IgnoresOrder → (state : State) (seat : ℕ) (pending : Pending) → IsSound state
    → slice_get (seat_at state seat).pending 0 ≡ Some pending → next_ready state seat ≡ None
    → (query : Query) × (snapshot : ℕ) × (pending.awaited ≡ Asked query snapshot)
    × IsSomeAnd (life_of state.lives pending.statement) (λ now. IsTrue (is_open now))
waits-open ignores state seat pending sound is none =
    by_awaited pending.awaited refl (awaits state seat pending first)
    (sym (ap (option_and_then (λ p. ready_to state p.statement p.awaited)) is) ∙ none)
  where
    first : IsFirst state seat pending
    first = first-of state seat pending sound is

    by_life : (query : Query) (snapshot : ℕ) → IsAwaited state.accepted state.lives.queries pending.statement (Asked query snapshot) → (o : Option Life)
        → life_of state.lives pending.statement ≡ o → option_and_then (ready_by state pending.statement snapshot) o ≡ None
        → IfSome o (λ now. now ≢ life.Abandoned) → IsSomeAnd o (λ now. IsTrue (is_open now))
    by_life query snapshot has None was e wanted = absurd (asked-lives state pending.statement query snapshot sound.queries has.0 was)
    by_life query snapshot has (Some life.Answered) was e wanted =
        let answer = asked-answer ignores state seat pending query snapshot sound first has.0 was in
        absurd (let both : Some (Grouping snapshot answer.0) ≡ None = sym (ap (option_map (Grouping snapshot)) answer.1) ∙ e in cc)
    by_life query snapshot has (Some life.Spoiled) was e wanted = absurd (let both : Some (Whole Memory) ≡ None = e in cc)
    by_life query snapshot has (Some life.Abandoned) was e wanted = absurd (wanted refl)
    by_life query snapshot has other was e wanted = refl

    by_awaited : (awaited : Awaited) → pending.awaited ≡ awaited → IsAwaited state.accepted state.lives.queries pending.statement awaited
        → ready_to state pending.statement awaited ≡ None
        → (query : Query) × (snapshot : ℕ) × (pending.awaited ≡ Asked query snapshot)
        × IsSomeAnd (life_of state.lives pending.statement) (λ now. IsTrue (is_open now))
    by_awaited (Replied reply) same has e = absurd (let both : Some (Whole reply) ≡ None = e in cc)
    by_awaited (Asked query snapshot) same has e =
        (query, snapshot, same, by_life query snapshot has (life_of state.lives pending.statement) refl e has.1)

-- what is kept of each answered query
pub kept-answer : IgnoresOrder → (state : State) (accepted : Accepted) → IsSound state → Contains state.accepted accepted
    → life_of state.lives accepted.number ≡ Some life.Answered
    → ((accepted.groups ≡ None) × HasTaken state.seats accepted)
    ⊎ ((groups : Grouped) × (accepted.groups ≡ Some groups) × AnswersAlone (tables_of state) accepted.query accepted.snapshot groups)
kept-answer ignores state accepted sound among is =
    answer-kept ignores state accepted (All-contains (IsSoundQuery state) state.accepted accepted sound.queries.each among) is
