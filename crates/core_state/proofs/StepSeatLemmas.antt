-- What a written seat, an outcome and a reply leave of what the seats wait for, and of the last number of a statement.
use Rattle.core_state.proofs.Words.{◌++◌, ◌+◌, ◌<◌, ◌∙◌, ◌∷◌, ◌≡◌, ◌≢◌, ◌≤◌, ◌⊎◌, [], accepted_at, after_abandoning, after_outcome, after_taking, All, All-contains, All-nil, All-weaker, ap, arith, Awaited, awaited_at, awaited_by, cases_eq, cases_lt, Contains, empty_seat, false, get_or, get_or-set_other, get_or_past, inl, inr, IsSome, IsSound, length, map, None, none-some, Option, Outcome, Pending, refl, Seat, seat_at, set, Some, State, subst, sym, true, with_statement, with_taken, without_pending, ℕ, ⊎_elim}
use Rattle.core_state.proofs.PendingLemmas.{Stays, pairs-back, stays-dropped, stays-filtered, stays-same, stays-set, waited, waited-before, waited-none}
use Rattle.core_state.proofs.ReplyLemmas.{in-order}
use Rattle.core_state.proofs.SeatLemmas.{pending-submitted}
use Rattle.core_state.proofs.WholeFrameLemmas.{by-option}
use Rattle.core_state.proofs.WholeToldLemmas.{aside-outcome}

-- what a seat waits for has numbers that were given
pub waiting-low : (state : State) (seat statement : ℕ) → IsSound state → state.numbers.statement < statement
    → All (λ pending. pending.statement ≢ statement) (get_or state.seats seat empty_seat).pending
waiting-low state seat statement sound above = ⊎_elim
    (λ low. let here = get_or state.seats seat empty_seat in
    let is = sound.seats.each seat empty_seat low in
    All-weaker (λ (p : Pending). Contains here.submitted p.statement) (λ p. p.statement ≢ statement)
    (λ p has same. let given = All-contains (λ s. s ≤ state.numbers.statement) here.submitted p.statement is.given has in omega arith)
    here.pending (pending-submitted state here is))
    (λ past. subst (λ (s : Seat). All (λ pending. pending.statement ≢ statement) s.pending)
    (sym (get_or_past state.seats seat empty_seat past)) (All-nil (λ (p : Pending). p.statement ≢ statement)))
    (cases_lt seat (length state.seats))

-- what is waited for by the numbers that were given stays, what is waited for by another is added, and no number falls
pub record Tells (adds : (seat statement : ℕ) → Type 0) (before after : State) : Type 0 where
  pub awaited : (seat statement : ℕ) → statement ≤ before.numbers.statement
      → Stays (awaited_at before seat statement) (awaited_at after seat statement)
  pub added : (seat statement : ℕ) → before.numbers.statement < statement → IsSome (awaited_at after seat statement) → adds seat statement
  pub number : before.numbers.statement ≤ after.numbers.statement

-- where nothing was waited for and what is waited for stays, nothing is
none-stays : (before after : Option Awaited) → before ≡ None → Stays before after → IsSome after → ⊥
none-stays before None none stays some = let both : false ≡ true = some in cc
none-stays before (Some awaited) none stays some = none-some awaited (sym none ∙ stays)

-- where all that is waited for stays, nothing is added
tells-all : (adds : (seat statement : ℕ) → Type 0) (before after : State) → IsSound before → before.numbers.statement ≤ after.numbers.statement
    → ((seat statement : ℕ) → Stays (awaited_at before seat statement) (awaited_at after seat statement)) → Tells adds before after
tells-all adds before after sound number stays = record {
  awaited = λ seat statement low. stays seat statement;
  added = λ seat statement above some. absurd (none-stays (awaited_at before seat statement) (awaited_at after seat statement)
      (waited-none (get_or before.seats seat empty_seat).pending statement (waiting-low before seat statement sound above))
      (stays seat statement) some);
  number = number;
}

-- where the seats and the last number of a statement stay
pub tells-aside : (adds : (seat statement : ℕ) → Type 0) (before after : State) → IsSound before → after.seats ≡ before.seats
    → after.numbers.statement ≡ before.numbers.statement → Tells adds before after
tells-aside adds before after sound seats number =
    tells-all adds before after sound (omega arith)
    (λ seat statement. stays-same (awaited_at before seat statement) (awaited_at after seat statement)
    (ap (λ ss. waited (get_or ss seat empty_seat).pending statement) seats))

-- where one seat is written and no number falls, and what that seat waits for stays
tells-written : (adds : (seat statement : ℕ) → Type 0) (before after : State) (seat : ℕ) (now : Seat) → IsSound before
    → after.seats ≡ set before.seats seat now → before.numbers.statement ≤ after.numbers.statement
    → ((statement : ℕ) → Stays (waited (get_or before.seats seat empty_seat).pending statement) (waited now.pending statement))
    → Tells adds before after
tells-written adds before after seat now sound seats number stays =
    tells-all adds before after sound number
    (λ other statement. subst (λ ss. Stays (awaited_at before other statement) (waited (get_or ss other empty_seat).pending statement)) (sym seats)
    (stays-set before.seats seat now statement (stays statement) other))

-- what is waited for by another number stays, and by its own number in another seat
stays-outcome : (seat : ℕ) (found : Outcome) (state : State) (other statement : ℕ)
    → (statement ≢ state.numbers.statement + 1) ⊎ (other ≢ seat)
    → Stays (awaited_at state other statement) (awaited_at (after_outcome seat found state) other statement)
stays-outcome seat found state other statement apart =
    subst (λ ss. Stays (awaited_at state other statement) (waited (get_or ss other empty_seat).pending statement))
    (sym (aside-outcome seat found state).seats) (by_cases apart)
  where
    here : Seat
    here = get_or state.seats seat empty_seat

    now : Seat
    now = with_statement (state.numbers.statement + 1) found.told here

    last : Pending
    last = record { statement = state.numbers.statement + 1; awaited = awaited_by found.told }

    by_cases : (statement ≢ state.numbers.statement + 1) ⊎ (other ≢ seat)
        → Stays (awaited_at state other statement) (waited (get_or (set state.seats seat now) other empty_seat).pending statement)
    by_cases (inl number) =
        stays-set state.seats seat now statement
        (stays-same (waited here.pending statement) (waited (here.pending ++ last ∷ []) statement)
        (waited-before here.pending last statement (λ same. number (sym same)))) other
    by_cases (inr place) =
        stays-same (awaited_at state other statement) (waited (get_or (set state.seats seat now) other empty_seat).pending statement)
        (ap (λ (s : Seat). waited s.pending statement) (get_or-set_other state.seats seat other now empty_seat place))

-- a submission adds by its own number alone, and in its own seat
pub tells-outcome : (adds : (seat statement : ℕ) → Type 0) (seat : ℕ) (found : Outcome) (state : State) → IsSound state
    → adds seat (state.numbers.statement + 1) → Tells adds state (after_outcome seat found state)
tells-outcome adds seat found state sound own = record {
  awaited = λ other statement low. stays-outcome seat found state other statement (inl (λ same. omega arith));
  added = λ other statement above some.
      let new : (statement ≢ state.numbers.statement + 1) ⊎ (other ≢ seat) → adds other statement = λ apart.
      absurd (none-stays (awaited_at state other statement) (awaited_at (after_outcome seat found state) other statement)
      (waited-none (get_or state.seats other empty_seat).pending statement (waiting-low state other statement sound above))
      (stays-outcome seat found state other statement apart) some) in
      ⊎_elim
      (λ number. ⊎_elim
      (λ place. subst (λ n. adds other n) (sym number) (subst (λ k. adds k (state.numbers.statement + 1)) (sym place) own))
      (λ apart. new (inr apart)) (cases_eq other seat))
      (λ apart. new (inl apart)) (cases_eq statement (state.numbers.statement + 1));
  number = let same = (aside-outcome seat found state).number in omega arith;
}

-- nobody waits for a query any more
pub tells-abandoned : (adds : (seat statement : ℕ) → Type 0) (query : ℕ) (state : State) → IsSound state → Tells adds state (after_abandoning query state)
tells-abandoned adds query state sound =
    by-option (Tells adds state) (accepted_at state.accepted query) _ state (tells-aside adds state state sound refl refl)
    (λ accepted is. tells-written adds state _ accepted.seat (without_pending query (get_or state.seats accepted.seat empty_seat)) sound refl
    (omega arith) (λ statement. stays-filtered query (get_or state.seats accepted.seat empty_seat).pending statement))

-- the reply to a seat's first statement is taken
pub tells-taken : (adds : (seat statement : ℕ) → Type 0) (seat : ℕ) (state : State) → IsSound state → Tells adds state (after_taking seat state)
tells-taken adds seat state sound =
    let here = seat_at state seat in
    tells-written adds state (after_taking seat state) seat (with_taken here) sound refl (omega arith)
    (λ statement. stays-dropped here.pending statement
    (pairs-back (λ number later. number < later) (map (λ taken. taken.statement) here.taken) (map (λ pending. pending.statement) here.pending)
    (in-order state seat sound)))
