-- No later step changes an answer.
use Rattle.core_state.proofs.Words.{◌+◌, ◌∙◌, ◌∷◌, ◌≡◌, ◌≤◌, ◌⊎◌, [], accepted_at, Accepts, after_change, after_outcome, after_step, after_steps, after_submitting, alone, ap, arith, Change, changes_of, DimensionDeclared, Fact, FitsTables, inl, inr, IsSettled, IsSound, List, Loaded, MayStep, MayStepAll, None, Option, outcome_of, Query, refl, Some, State, Statement, Step, Store, subst, sym, tables_by, tables_of, Told, ℕ}
use Rattle.star_store.specs.Outcome as outcome
use Rattle.core_state.specs.Submitting.{filters_by}
use Rattle.core_state.proofs.GivenLemmas.{Settles}
use Rattle.core_state.proofs.GrownLemmas.{tables-with}
use Rattle.core_state.proofs.StepLemmas.{StepsKeep}
use Rattle.core_state.proofs.SubmitLemmas.{Outcomes}
use Rattle.core_state.proofs.WholeFrameLemmas.{by-option}
use Rattle.core_state.proofs.WholeStepLemmas.{step-cases}

-- a change that comes after a snapshot changes no answer
abbrev pub AnswersStay : Type 0
AnswersStay = (store : Store) (change : Change) (query : Query) (snapshot : ℕ) → IsSettled store → Accepts store change
    → snapshot ≤ store.commits → alone (after_change store change) query snapshot ≡ alone store query snapshot

-- the tables stay as they are, or take one change
abbrev pub NextTables : Store → (next : Store) → Type 0
NextTables store next = (next ≡ store) ⊎ ((change : Change) × (next ≡ after_change store change) × Accepts store change)

-- commits are never taken back
commits-rise : (store : Store) (change : Change) → store.commits ≤ (after_change store change).commits
commits-rise store (Loaded Fact rows) = omega arith
commits-rise store other = omega arith

-- the entries of a change
pub entries-by : (change : Change) (state : State) → (filters_by change state).entries ≡ state.entries
entries-by (DimensionDeclared table) state = refl
entries-by other state = refl

submit-tables : Outcomes → (seat : ℕ) (statement : Statement) (state : State) → IsSettled (tables_of state)
    → NextTables (tables_of state) (tables_of (after_submitting seat statement state))
submit-tables outcomes seat statement state settled =
    by_outcome (outcome_of (tables_of state) statement).change (outcome_of (tables_of state) statement).told
    (outcomes (tables_of state) statement settled)
  where
    by_outcome : (change : Option Change) (told : Told) → FitsTables (tables_of state) change told
        → NextTables (tables_of state) (tables_of (after_outcome seat (record { change = change; told = told }) state))
    by_outcome None (outcome.Replied reply) follows = inl refl
    by_outcome None (outcome.Accepted query snapshot) follows = inl refl
    by_outcome (Some change) (outcome.Replied reply) follows = inr (
      change,
      ap tables_by (entries-by change _)
          ∙ tables-with state.entries (record { seat = seat; statement = state.numbers.statement + 1; change = change }),
      follows,
    )
    by_outcome (Some change) (outcome.Accepted query snapshot) follows = absurd follows

-- a step makes one change of the tables, or none
step-tables : Outcomes → (step : Step) (state : State) → MayStep state step → IsSound state → IsSettled (tables_of state)
    → NextTables (tables_of state) (tables_of (after_step step state))
step-tables outcomes step state may sound settled =
    step-cases (λ now. NextTables (tables_of state) (tables_of now)) step state may sound (λ new frame. inl (ap tables_by frame.entries))
    (λ seat statement is. submit-tables outcomes seat statement state settled)
    (λ query can. by-option (λ now. NextTables (tables_of state) (tables_of now)) (accepted_at state.accepted query) _ state (inl refl) (λ accepted is. inl refl))
    (λ seat. inl refl)

-- an answer at a snapshot so far is that after the next step, and the snapshot is still one so far
pub one-later : AnswersStay → (query : Query) (snapshot : ℕ) (store next : Store) → IsSettled store → snapshot ≤ store.commits → NextTables store next
    → (snapshot ≤ next.commits) × (alone next query snapshot ≡ alone store query snapshot)
one-later stays query snapshot store next settled low (inl same) =
    (subst (λ s. snapshot ≤ s.commits) (sym same) low, ap (λ s. alone s query snapshot) same)
one-later stays query snapshot store next settled low (inr made) =
    let rise = commits-rise store made.0 in (
      subst (λ s. snapshot ≤ s.commits) (sym made.1) (omega arith),
      ap (λ s. alone s query snapshot) made.1 ∙ stays store made.0 query snapshot settled made.2 low,
    )

pub answers-later : AnswersStay → Settles → Outcomes → StepsKeep → (steps : List Step) (state : State) (query : Query) (snapshot : ℕ)
    → MayStepAll state steps → IsSound state → snapshot ≤ (tables_of state).commits
    → alone (tables_of (after_steps steps state)) query snapshot ≡ alone (tables_of state) query snapshot
answers-later stays settles outcomes keep [] state query snapshot may sound low = refl
answers-later stays settles outcomes keep (step ∷ steps) state query snapshot may sound low =
    let settled : IsSettled (tables_of state) = settles (changes_of state.entries) sound.store in
    let next = one-later stays query snapshot (tables_of state) (tables_of (after_step step state)) settled low
    (step-tables outcomes step state may.0 sound settled) in
    answers-later stays settles outcomes keep steps (after_step step state) query snapshot may.1 (keep step state may.0 sound) next.0 ∙ next.1
