-- What each step leaves of what the seats wait for, and what it adds.
use Rattle.core_state.proofs.Words.{◌+◌, ◌<◌, ◌≡◌, ◌≤◌, after_step, awaited_at, Done, IsSome, IsSound, MayStep, outcome_of, refl, State, Statement, Step, Submit, tables_of, ℕ}
use Rattle.core_state.proofs.PendingLemmas.{Stays}
use Rattle.core_state.proofs.StepSeatLemmas.{Tells, tells-abandoned, tells-aside, tells-outcome, tells-taken}
use Rattle.core_state.proofs.WholeStepLemmas.{step-cases}

-- what a step adds to what is waited for: the statement that it submits, in its seat, by the next number
abbrev pub adds_by : Step → State → (seat statement : ℕ) → Type 0
adds_by step state seat statement = (statement ≡ state.numbers.statement + 1) × (text : Statement) × (step ≡ Done (Submit seat text))

pub tells-step : (step : Step) (state : State) → MayStep state step → IsSound state → Tells (adds_by step state) state (after_step step state)
tells-step step state may sound =
    step-cases (Tells (adds_by step state) state) step state may sound
    (λ new frame. tells-aside (adds_by step state) state new sound frame.seats frame.number)
    (λ seat text is. tells-outcome (adds_by step state) seat (outcome_of (tables_of state) text) state sound (refl, text, is))
    (λ query can. tells-abandoned (adds_by step state) query state sound) (λ seat. tells-taken (adds_by step state) seat state sound)

-- a step leaves what a seat waits for as it was told
pub told-as-before : (step : Step) (state : State) (seat statement : ℕ) → MayStep state step → IsSound state → statement ≤ state.numbers.statement
    → Stays (awaited_at state seat statement) (awaited_at (after_step step state) seat statement)
told-as-before step state seat statement may sound low = (tells-step step state may sound).awaited seat statement low

-- only a submission adds to it
pub told-anew : (step : Step) (state : State) (seat statement : ℕ) → MayStep state step → IsSound state → state.numbers.statement < statement
    → IsSome (awaited_at (after_step step state) seat statement) → adds_by step state seat statement
told-anew step state seat statement may sound above some = (tells-step step state may sound).added seat statement above some
