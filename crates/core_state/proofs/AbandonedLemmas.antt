-- Every step but the event that abandons a query leaves it as it is: whoever is abandoned after it was so before.
use Rattle.core_state.proofs.Words.{◌+◌, ◌-◌, ◌≡◌, ◌⊎◌, [], Abandon, accepted_at, after_abandoning, after_distribute, after_give, after_outcome, after_start, after_step, ap, Build, cases_eq, Change, Cut, DimensionDeclared, Distribute, Done, end_in, Event, extent_in, Finish, first_in, first_of, flight_at, Give, inl, inr, is_held_by, life_in, life_of, List, option_map_or, outcome_of, Replying, Reserve, Some, Start, started, State, Step, Submit, subst, sym, tables_of, Told, versions_in, Wanting, with_change, with_query, ℕ, ⊎_elim}
use Rattle.std.proofs.Common.{find}
use Rattle.star_store.specs.Outcome as outcome
use Rattle.pipeline_manager.specs.declared.life.Life.TheVariants as life
use Rattle.core_state.specs.Events.{after_event, after_want}
use Rattle.core_state.proofs.AbandonedLivesLemmas.{WereLost, started-never, were-behind, were-cut, were-ended, were-others, were-reserved, were-spoiled, were-written}
use Rattle.core_state.proofs.WholeFrameLemmas.{by-option}
use Rattle.core_state.proofs.WholeLivesLemmas.{built-queries}
use Rattle.core_state.proofs.WholeToldLemmas.{seated}

-- whoever is abandoned in a core was so in another
abbrev pub Abandons : State → State → Type 0
Abandons old new = WereLost old.lives.queries new.lives.queries

-- nobody is where nothing changes
were-all : (state : State) → Abandons state state
were-all state number is = is

were-start : (query : ℕ) (state : State) → Abandons state (after_start query state)
were-start query state =
    were-written query (started (first_of state.scan.position (versions_in state)) (extent_in state.lives.queries query)) state.lives.queries
    (started-never (first_of state.scan.position (versions_in state)) (extent_in state.lives.queries query))

were-give : (worker : ℕ) (state : State) → Abandons state (after_give worker state)
were-give worker state =
    by-option (Abandons state) (find (is_held_by worker) state.scan.flights) _ state (were-all state) (λ flight found number is. is)

were-distribute : (batch : ℕ) (spoiled : List ℕ) (state : State) → Abandons state (after_distribute batch spoiled state)
were-distribute batch spoiled state =
    by-option (Abandons state) (flight_at state.scan.flights batch) _ state (were-all state) (λ flight found. were-spoiled spoiled state.lives)

-- the change of a statement
were-change : (seat statement : ℕ) (change : Change) (state : State) → Abandons state (with_change seat statement change state)
were-change seat statement (DimensionDeclared table) state number is = is
were-change seat statement other state number is = is

-- the query of a statement
were-query : (seat statement : ℕ) (told : Told) (state : State) → Abandons state (with_query seat statement told state)
were-query seat statement (outcome.Replied reply) state number is = is
were-query seat statement (outcome.Accepted query snapshot) state number is =
    were-behind state.lives.queries (record { query = statement; extent = versions_in state; life = life.Waiting }) (λ e. cc) number is

-- all of a statement
were-outcome : (seat : ℕ) (found : outcome.Outcome) (state : State) → Abandons state (after_outcome seat found state)
were-outcome seat found state number is =
    by-option (Abandons seated_so) found.change (λ change. with_change seat statement change seated_so) seated_so (were-all seated_so)
    (λ change found. were-change seat statement change seated_so) number
    (were-query seat statement found.told changed number is)
  where
    statement : ℕ
    statement = state.numbers.statement + 1

    seated_so : State
    seated_so = seated seat found.told state

    changed : State
    changed = option_map_or (λ change. with_change seat statement change seated_so) found.change seated_so

-- a query that is abandoned, and no other
were-abandoning : (query number : ℕ) (state : State) → life_of (after_abandoning query state).lives number ≡ Some life.Abandoned
    → (life_of state.lives number ≡ Some life.Abandoned) ⊎ (query ≡ number)
were-abandoning query number state =
    by-option (λ now. life_of now.lives number ≡ Some life.Abandoned → (life_of state.lives number ≡ Some life.Abandoned) ⊎ (query ≡ number))
    (accepted_at state.accepted query) _ state (λ is. inl is)
    (λ accepted found is. ⊎_elim (λ same. inr (sym same))
    (λ apart. inl (were-others query state.lives.queries number apart is)) (cases_eq number query))

abandons-event : (event : Event) (state : State) (number : ℕ) → life_of (after_event event state).lives number ≡ Some life.Abandoned
    → (life_of state.lives number ≡ Some life.Abandoned) ⊎ (Done event ≡ Done (Abandon number))
unfolding after_event
abandons-event (Submit seat statement) state number is = inl (were-outcome seat (outcome_of (tables_of state) statement) state number is)
abandons-event (Reserve query slot) state number is = inl (were-reserved slot state.lives number is)
abandons-event (Build query dimension) state number is =
    inl (subst (λ queries. life_in queries number ≡ Some life.Abandoned) (built-queries query dimension state.lives) is)
abandons-event (Start query) state number is = inl (were-start query state number is)
abandons-event Cut state number is = inl (were-cut (first_in state) (end_in state - 1) state.lives.queries number is)
abandons-event (Give worker) state number is = inl (were-give worker state number is)
abandons-event (Distribute batch) state number is = inl (were-distribute batch [] state number is)
abandons-event (Finish slot) state number is = inl (were-ended slot state.lives number is)
abandons-event (Abandon query) state number is =
    ⊎_elim (λ was. inl was) (λ same. inr (ap (λ n. Done (Abandon n)) same)) (were-abandoning query number state is)
abandons-event other state number is = inl is

were-want : (event : Event) (spoiled : List ℕ) (state : State) → Abandons state (after_want event spoiled state)
unfolding after_want
were-want (Build query dimension) spoiled state = were-written query life.Spoiled state.lives.queries (λ e. cc)
were-want (Distribute batch) spoiled state = were-distribute batch spoiled state
were-want other spoiled state = were-all state

pub abandons-step : (step : Step) (state : State) (number : ℕ) → life_of (after_step step state).lives number ≡ Some life.Abandoned
    → (life_of state.lives number ≡ Some life.Abandoned) ⊎ (step ≡ Done (Abandon number))
abandons-step (Done event) state number is = abandons-event event state number is
abandons-step (Wanting event spoiled) state number is = inl (were-want event spoiled state number is)
abandons-step (Replying seat) state number is = inl is
