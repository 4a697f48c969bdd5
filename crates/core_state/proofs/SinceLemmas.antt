-- What a seat waits for is what its statement was told over the tables of its submission, whatever steps came since.
use Rattle.core_state.proofs.Words.{◌+◌, ◌<◌, ◌∙◌, ◌∷◌, ◌≡◌, ◌≢◌, ◌≤◌, [], after_step, after_steps, after_submitting, ap, arith, Awaited, awaited_at, awaited_by, Done, empty_seat, get_or, get_or-set_other, get_or-set_same, IfSome, IsSound, length, List, MayStepAll, None, Option, outcome_of, refl, Seat, Some, State, Statement, Step, Submit, subst, sym, tables_of, with_statement, ℕ}
use Rattle.core_state.specs.Events.{after_event}
use Rattle.core_state.proofs.PendingLemmas.{Stays, stays-itself, stays-then, waited, waited-last, waited-none}
use Rattle.core_state.proofs.StepLemmas.{StepsKeep}
use Rattle.core_state.proofs.StepSeatLemmas.{waiting-low}
use Rattle.core_state.proofs.StepToldLemmas.{tells-step}
use Rattle.core_state.proofs.WholeToldLemmas.{aside-outcome}

-- steps leave what is waited for by the numbers that were given as it was told
stays-all : StepsKeep → (steps : List Step) (state : State) (seat statement : ℕ) → MayStepAll state steps → IsSound state
    → statement ≤ state.numbers.statement → Stays (awaited_at state seat statement) (awaited_at (after_steps steps state) seat statement)
stays-all keeps [] state seat statement may sound low = stays-itself (awaited_at state seat statement)
stays-all keeps (step ∷ steps) state seat statement may sound low =
    let tells = tells-step step state may.0 sound in
    let number = tells.number in
    stays-then (awaited_at state seat statement) (awaited_at (after_step step state) seat statement)
    (awaited_at (after_steps steps (after_step step state)) seat statement)
    (tells.awaited seat statement low)
    (stays-all keeps steps (after_step step state) seat statement may.1 (keeps step state may.0 sound) (omega arith))

-- right after its submission the seat waits for what the statement was told, and no other seat waits for it
at-submission : (seat : ℕ) (statement : Statement) (state : State) → IsSound state → seat < length state.seats
    → awaited_at (after_submitting seat statement state) seat (state.numbers.statement + 1)
    ≡ Some (awaited_by (outcome_of (tables_of state) statement).told)
at-submission seat statement state sound there =
    let number = state.numbers.statement + 1 in
    let told = (outcome_of (tables_of state) statement).told in
    let here = get_or state.seats seat empty_seat in
    ap (λ seats. waited (get_or seats seat empty_seat).pending number) (aside-outcome seat (outcome_of (tables_of state) statement) state).seats
    ∙ ap (λ (s : Seat). waited s.pending number) (get_or-set_same state.seats seat (with_statement number told here) empty_seat there)
    ∙ waited-last here.pending (record { statement = number; awaited = awaited_by told }) number (waiting-low state seat number sound (omega arith)) refl

beside-submission : (seat other : ℕ) (statement : Statement) (state : State) → IsSound state → other ≢ seat
    → awaited_at (after_submitting seat statement state) other (state.numbers.statement + 1) ≡ None
beside-submission seat other statement state sound apart =
    let number = state.numbers.statement + 1 in
    let told = (outcome_of (tables_of state) statement).told in
    ap (λ seats. waited (get_or seats other empty_seat).pending number) (aside-outcome seat (outcome_of (tables_of state) statement) state).seats
    ∙ ap (λ (s : Seat). waited s.pending number)
    (get_or-set_other state.seats seat other (with_statement number told (get_or state.seats seat empty_seat)) empty_seat apart)
    ∙ waited-none (get_or state.seats other empty_seat).pending number (waiting-low state other number sound (omega arith))

sound-submission : StepsKeep → (seat : ℕ) (statement : Statement) (state : State) → IsSound state → seat < length state.seats
    → IsSound (after_submitting seat statement state)
unfolding after_event
sound-submission keeps seat statement state sound there = keeps (Done (Submit seat statement)) state there sound

-- what the steps after a submission leave of what is waited for by its number
stays-since : StepsKeep → (seat other : ℕ) (statement : Statement) (state : State) (steps : List Step) → IsSound state → seat < length state.seats
    → MayStepAll (after_submitting seat statement state) steps
    → Stays (awaited_at (after_submitting seat statement state) other (state.numbers.statement + 1))
    (awaited_at (after_steps steps (after_submitting seat statement state)) other (state.numbers.statement + 1))
stays-since keeps seat other statement state steps sound there may =
    let number = (aside-outcome seat (outcome_of (tables_of state) statement) state).number in
    stays-all keeps steps (after_submitting seat statement state) other (state.numbers.statement + 1) may
    (sound-submission keeps seat statement state sound there) (subst (λ n. state.numbers.statement + 1 ≤ n) (sym number) (omega arith))

-- what a seat waits for is what its statement was told
pub told-stays : StepsKeep → (seat : ℕ) (statement : Statement) (state : State) (steps : List Step) → IsSound state → seat < length state.seats
    → MayStepAll (after_submitting seat statement state) steps
    → IfSome (awaited_at (after_steps steps (after_submitting seat statement state)) seat (state.numbers.statement + 1))
    (λ awaited. awaited ≡ awaited_by (outcome_of (tables_of state) statement).told)
told-stays keeps seat statement state steps sound there may =
    by_later (awaited_by (outcome_of (tables_of state) statement).told)
    (awaited_at (after_steps steps (after_submitting seat statement state)) seat (state.numbers.statement + 1))
    (subst (λ o. Stays o (awaited_at (after_steps steps (after_submitting seat statement state)) seat (state.numbers.statement + 1)))
    (at-submission seat statement state sound there) (stays-since keeps seat seat statement state steps sound there may))
  where
    by_later : (told : Awaited) (after : Option Awaited) → Stays (Some told) after → IfSome after (λ awaited. awaited ≡ told)
    by_later told None stays = tt
    by_later told (Some awaited) stays = let same : Some told ≡ Some awaited = stays in cc

-- no other seat waits for it
pub told-alone : StepsKeep → (seat other : ℕ) (statement : Statement) (state : State) (steps : List Step) → IsSound state → seat < length state.seats
    → other ≢ seat → MayStepAll (after_submitting seat statement state) steps
    → awaited_at (after_steps steps (after_submitting seat statement state)) other (state.numbers.statement + 1) ≡ None
told-alone keeps seat other statement state steps sound there apart may =
    by_later (awaited_at (after_steps steps (after_submitting seat statement state)) other (state.numbers.statement + 1))
    (subst (λ o. Stays o (awaited_at (after_steps steps (after_submitting seat statement state)) other (state.numbers.statement + 1)))
    (beside-submission seat other statement state sound apart) (stays-since keeps seat other statement state steps sound there may))
  where
    by_later : (after : Option Awaited) → Stays None after → after ≡ None
    by_later None stays = refl
    by_later (Some awaited) stays = let same : None ≡ Some awaited = stays in cc
