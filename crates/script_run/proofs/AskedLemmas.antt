-- What a statement leaves of the tables and of the queries.
use Rattle.script_run.proofs.Words.{◌+◌, ◌<◌, ◌∙◌, ◌≡◌, after_change, after_outcome, after_submitting, All-weaker, ap, arith, Change, DimensionDeclared, entries-by, IsSound, IsSoundQuery, None, of-numbers, Option, option_map_or, outcome_of, refl, Some, State, Statement, store_after, tables_by, tables_of, Told, with_change, ℕ}
use Rattle.star_store.specs.Outcome as outcome
use Rattle.pipeline_manager.specs.Conditions.{IsNew}
use Rattle.core_state.proofs.GrownLemmas.{tables-with}

-- what a statement changes leaves the queries and their lives
abbrev pub changed_by : (seat statement : ℕ) → Option Change → State → State
changed_by seat statement change state = option_map_or (λ change. with_change seat statement change state) change state

pub lives-changed : (seat statement : ℕ) (change : Option Change) (state : State)
    → (changed_by seat statement change state).lives.queries ≡ state.lives.queries
lives-changed seat statement (Some (DimensionDeclared table)) state = refl
lives-changed seat statement other state = refl

-- the next number is that of no query
pub is-new : (state : State) → IsSound state → IsNew (state.numbers.statement + 1) state.lives
is-new state sound =
    of-numbers (λ number. number < state.numbers.statement + 1) (λ accepted. accepted.number) (λ entry. entry.query) state.accepted state.lives.queries
    sound.queries.same
    (All-weaker (IsSoundQuery state) (λ accepted. accepted.number < state.numbers.statement + 1)
    (λ accepted is. let low = is.number in omega arith) state.accepted sound.queries.each)

-- the tables after a statement
outcome-tables : (seat : ℕ) (change : Option Change) (told : Told) (state : State)
    → tables_of (after_outcome seat (record { change = change; told = told }) state)
    ≡ option_map_or (after_change (tables_of state)) change (tables_of state)
outcome-tables seat None (outcome.Replied reply) state = refl
outcome-tables seat None (outcome.Accepted query snapshot) state = refl
outcome-tables seat (Some change) (outcome.Replied reply) state = ap tables_by (entries-by change _)
    ∙ tables-with state.entries (record { seat = seat; statement = state.numbers.statement + 1; change = change })
outcome-tables seat (Some change) (outcome.Accepted query snapshot) state = ap tables_by (entries-by change _)
    ∙ tables-with state.entries (record { seat = seat; statement = state.numbers.statement + 1; change = change })

pub submitted-tables : (seat : ℕ) (statement : Statement) (state : State)
    → tables_of (after_submitting seat statement state) ≡ store_after (tables_of state) statement
submitted-tables seat statement state =
    let found = outcome_of (tables_of state) statement in outcome-tables seat found.change found.told state
