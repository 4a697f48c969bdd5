-- A reply that a seat takes is right for the statement that it waited for first, and one may be taken where no query may still be answered.
use Rattle.script_run.proofs.Words.{◌++◌, ◌<◌, ◌∙◌, ◌∷◌, ◌≡◌, ◌⊎◌, [], after_taking, ap, Asked, Awaited, cases_lt, cond, drop, empty_seat, Entry, false, find, first_open, get_or, get_or-set_same, get_or_past, IfSome, inl, inr, is_open, IsReplyOf, IsRight, IsSome, IsSomeAnd, IsSound, IsTakenAs, IsTrue, length, Life, life_of, List, Lives, Memory, next_ready, None, Option, option_and_then, option_map, option_map_or, Pending, Query, ready_of, ready_to, refl, Replied, Reply, Seat, seat_at, slice_get, Some, State, Statement, subst, sym, take, take-append-drop, true, with_taken, ℕ, ⊎_elim}
use Rattle.core_state.specs.Submitting.{Grouping, Ready, Whole, asked_by}
use Rattle.core_state.specs.Fronts.{Goes, IsDue, TakesRow}
use Rattle.core_state.specs.Rows.{row_of, sight_of}
use Rattle.core_state.specs.Sent.{Given, IsReplyBehind, Sent, pending_behind, taken_of}
use Rattle.core_state.proofs.FrontLemmas.{goes-takes}
use Rattle.core_state.proofs.RowLemmas.{takes-row}
use Rattle.event_core.specs.declared.replies.Ready as code
use Rattle.event_core.specs.declared.replies.Ready.TheVariants as variant
use Rattle.pipeline_manager.specs.declared.life.Life.TheVariants.{Answered}
use Rattle.script_run.specs.Answered.{IsAnswered}
use Rattle.script_run.proofs.OnLemmas.{FirstDue, first-due}

-- a seat that waits for something is there
pub seat-waits : (state : State) (seat : ℕ) (pending : Pending) → slice_get (seat_at state seat).pending 0 ≡ Some pending → seat < length state.seats
seat-waits state seat pending is = ⊎_elim (λ low. low)
    (λ past. absurd (let both : None ≡ Some pending =
    sym (ap (λ (s : Seat). slice_get s.pending 0) (get_or_past state.seats seat empty_seat past)) ∙ is in cc))
    (cases_lt seat (length state.seats))

-- the seat after its reply was taken
pub taken-seat : (seat : ℕ) (state : State) → seat < length state.seats → seat_at (after_taking seat state) seat ≡ with_taken (seat_at state seat)
taken-seat seat state there = get_or-set_same state.seats seat (with_taken (get_or state.seats seat empty_seat)) empty_seat there

-- what is behind the first that is waited for
pub split-first : (waits : List Pending) (pending : Pending) → slice_get waits 0 ≡ Some pending → (rest : List Pending) × (waits ≡ pending ∷ rest)
split-first [] pending is = absurd (let both : None ≡ Some pending = is in cc)
split-first (first ∷ rest) pending is = let same : first ≡ pending = cc in (rest, ap (λ p. p ∷ rest) same)

-- a seat has to wait for a query that may still be answered, and for nothing else
abbrev pub WaitsForOpen : Type 0
WaitsForOpen = (state : State) (seat : ℕ) (pending : Pending) → IsSound state
    → slice_get (seat_at state seat).pending 0 ≡ Some pending → next_ready state seat ≡ None
    → (query : Query) × (snapshot : ℕ) × (pending.awaited ≡ Asked query snapshot)
    × IsSomeAnd (life_of state.lives pending.statement) (λ now. IsTrue (is_open now))

-- a query that may still be answered is found where a seat waits for it first
first-found : (lives : Lives) (pending : Pending) (seat : Seat) → slice_get seat.pending 0 ≡ Some pending
    → IsSomeAnd (life_of lives pending.statement) (λ now. IsTrue (is_open now)) → first_open lives seat ≡ Some pending.statement
first-found lives pending seat is opens =
    let behind = split-first seat.pending pending is in
    ap (λ waits. option_map (λ p. p.statement) (find (λ p. option_map_or is_open (life_of lives p.statement) false) waits)) behind.1
    ∙ ap (λ t. option_map (λ p. p.statement)
    (cond {A = Option Pending} t (Some pending) (find (λ p. option_map_or is_open (life_of lives p.statement) false) behind.0)))
    (by_life (life_of lives pending.statement) opens)
  where
    by_life : (o : Option Life) → IsSomeAnd o (λ now. IsTrue (is_open now)) → option_map_or is_open o false ≡ true
    by_life None none = absurd none
    by_life (Some now) is = is

-- where no query that the front waits for may still be answered, and it waits for something, a reply may be taken
pub ready-next : WaitsForOpen → (state : State) (seat : ℕ) (pending : Pending) → IsSound state → first_open state.lives (seat_at state seat) ≡ None
    → slice_get (seat_at state seat).pending 0 ≡ Some pending → IsSome (next_ready state seat)
ready-next waits state seat pending sound none is = by_ready (next_ready state seat) refl
  where
    by_ready : (o : Option Ready) → next_ready state seat ≡ o → IsSome o
    by_ready (Some ready) was = refl
    by_ready None was =
        let opens = waits state seat pending sound is was in
        absurd (let both : None ≡ Some pending.statement = sym none ∙ first-found state.lives pending (seat_at state seat) is opens.3 in cc)

-- where no query that a seat waits for may still be answered, and no reply may be taken, it waits for nothing
pub idle-next : WaitsForOpen → (state : State) (seat : ℕ) → IsSound state → first_open state.lives (seat_at state seat) ≡ None
    → next_ready state seat ≡ None → (seat_at state seat).pending ≡ []
idle-next waits state seat sound none not_ready = by_list (seat_at state seat).pending refl
  where
    by_list : (list : List Pending) → (seat_at state seat).pending ≡ list → list ≡ []
    by_list [] is = refl
    by_list (first ∷ rest) is =
        let some = ready-next waits state seat first sound none (ap (λ list. slice_get list 0) is) in
        absurd (let both : false ≡ true = subst IsSome not_ready some in cc)

-- A reply that is taken.

-- on any core a row tells the reply
abbrev pub RowTells : Type 0
RowTells = (state : State) (seat number : ℕ) (before since : List Entry) (statement : Statement) (ready : Ready) (reply : Reply) → IsSound state
    → state.entries ≡ before ++ since → slice_get (row_of state seat).pending 0 ≡ Some (pending_behind number before statement)
    → next_ready state seat ≡ Some ready → IsTakenAs ready reply → IsReplyBehind before statement reply

-- as code takes it
taken-as : (ready : code.Ready) (reply : Reply) → IsReplyOf ready reply → IsTakenAs (ready_of ready) reply
taken-as (variant.Whole given) reply is = is
taken-as (variant.Grouped snapshot groups) reply is = is

-- a query is answered to which it is the reply, unless that is `memory`
answered-taken : (state : State) (statement : ℕ) (awaited : Awaited) (ready : Ready) (reply : Reply) → IsRight state statement awaited ready
    → IsTakenAs ready reply → (reply ≡ Memory) ⊎ IfSome (asked_by awaited) (λ asked. life_of state.lives statement ≡ Some Answered)
answered-taken state statement (Replied told) ready reply right is = inr tt
answered-taken state statement (Asked query snapshot) (Whole given) reply right is = inl (is ∙ right.0)
answered-taken state statement (Asked query snapshot) (Grouping at groups) reply right is = inr right.1

-- a seat took a reply, and this is the reply
pub record TakesReply (seat : ℕ) (old new : State) (ready : code.Ready) (reply : Reply) : Type 0 where
  pub sound : IsSound old
  pub may : Some (ready_of ready) ≡ next_ready old seat
  pub taken : new ≡ after_taking seat old
  pub right : IfSome (slice_get (seat_at old seat).pending 0) (λ pending. IsRight old pending.statement pending.awaited (ready_of ready))
  pub is : IsReplyOf ready reply

-- it is that to the first that the seat waited for
pub record TookFirst (seat : ℕ) (old new : State) (due : List Sent) (reply : Reply) : Type 0 where
  pub first : Sent
  pub rest : List Sent
  pub goes : Goes seat (sight_of old seat) due (sight_of new seat) rest [] (first ∷ []) (reply ∷ [])
  pub answered : IsAnswered new.lives (taken_of new.entries first) reply

pub took-first : RowTells → (seat : ℕ) (old new : State) (ready : code.Ready) (reply : Reply) → TakesReply seat old new ready reply
    → (due : List Sent) → IsDue seat (sight_of old seat) due → TookFirst seat old new due reply
took-first tells seat old new ready reply takes due waits = by_first (slice_get (seat_at old seat).pending 0) refl takes.may takes.right
  where
    by_due : (pending : Pending) → slice_get (seat_at old seat).pending 0 ≡ Some pending → IsRight old pending.statement pending.awaited (ready_of ready)
        → FirstDue old.entries due pending → TookFirst seat old new due reply
    by_due pending found right first =
        let before : List Entry = take first.point old.entries in
        let own : Pending = pending_behind first.number before first.statement in
        let there : slice_get (seat_at old seat).pending 0 ≡ Some own = found ∙ ap Some first.is in
        let replied : IsReplyBehind before first.statement reply =
        tells old seat first.number before (drop first.point old.entries) first.statement (ready_of ready) reply takes.sound
        (sym (take-append-drop first.point old.entries)) there (sym takes.may) (taken-as ready reply takes.is) in
        let row : TakesRow own (sight_of old seat) (sight_of new seat) =
        subst (λ state. TakesRow own (sight_of old seat) (sight_of state seat)) (sym takes.taken) (takes-row old seat own there) in
        let answered : IsAnswered old.lives (taken_of old.entries (Given first.number first.point first.statement)) reply =
        subst (λ (p : Pending). (reply ≡ Memory) ⊎ IfSome (asked_by p.awaited) (λ asked. life_of old.lives p.statement ≡ Some Answered)) first.is
        (answered-taken old pending.statement pending.awaited (ready_of ready) reply right (taken-as ready reply takes.is)) in
        record {
          first = Given first.number first.point first.statement;
          rest = first.rest;
          goes = subst (λ list. Goes seat (sight_of old seat) list (sight_of new seat) first.rest [] (Given first.number first.point first.statement ∷ []) (reply ∷ []))
              (sym first.all) (goes-takes seat (sight_of old seat) (sight_of new seat) first.rest first.number first.point first.statement reply
              (subst (IsDue seat (sight_of old seat)) first.all waits) refl row replied);
          answered = subst (λ (state : State). IsAnswered state.lives (taken_of state.entries (Given first.number first.point first.statement)) reply)
              (sym takes.taken) answered;
        }

    by_first : (o : Option Pending) → slice_get (seat_at old seat).pending 0 ≡ o
        → Some (ready_of ready) ≡ option_and_then (λ pending. ready_to old pending.statement pending.awaited) o
        → IfSome o (λ pending. IsRight old pending.statement pending.awaited (ready_of ready)) → TookFirst seat old new due reply
    by_first None found may right = absurd (let both : Some (ready_of ready) ≡ None = may in cc)
    by_first (Some pending) found may right =
        let behind = split-first (seat_at old seat).pending pending found in
        by_due pending found right (first-due old.entries due pending behind.0 waits.given (sym behind.1 ∙ waits.pending))
