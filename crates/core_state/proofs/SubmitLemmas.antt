-- A statement that a seat submits keeps a core sound.
use Rattle.core_state.proofs.Words.{◌+◌, ◌<◌, Accepts, after_outcome, after_submitting, Change, changes_of, DimensionDeclared, Ended, EndsAscending, FactDeclared, FitsTables, IfSome, IsOfRows, IsSettled, IsSound, IsSoundBeside, length, Loaded, None, Option, outcome_of, Reply, Some, State, Statement, Store, tables_of, Told, with_change, with_entry, ℕ}
use Rattle.star_store.specs.Outcome as outcome
use Rattle.core_state.proofs.DeclaredLemmas.{declared-beside}
use Rattle.core_state.proofs.GivenLemmas.{Settles}
use Rattle.core_state.proofs.LoggedDeleteLemmas.{outcome-ascends}
use Rattle.core_state.proofs.ToldLemmas.{sound-asked, sound-changed, sound-told}

-- loads and deletes that the tables take keep what is sound beside the seats
abbrev pub Grows : Type 0
Grows = (seat statement : ℕ) (change : Change) (state : State) → IsOfRows change → Accepts (tables_of state) change
    → IsSound state → IsSoundBeside (with_entry seat statement change state)

-- the outcomes of statements are what the tables take
abbrev pub Outcomes : Type 0
Outcomes = (store : Store) (statement : Statement) → IsSettled store
    → FitsTables store (outcome_of store statement).change (outcome_of store statement).told

pub sound-submitted : Grows → Settles → Outcomes → (seat : ℕ) (statement : Statement) (state : State) → seat < length state.seats → IsSound state
    → IsSound (after_submitting seat statement state)
sound-submitted grows settles outcomes seat statement state there sound =
    by_outcome (outcome_of (tables_of state) statement).change (outcome_of (tables_of state) statement).told
    (outcome-ascends (tables_of state) statement) (outcomes (tables_of state) statement settled)
  where
    settled : IsSettled (tables_of state)
    settled = settles (changes_of state.entries) sound.store

    number : ℕ
    number = state.numbers.statement + 1

    by_change : (change : Change) (reply : Reply) → EndsAscending change → Accepts (tables_of state) change
        → IsSound (after_outcome seat (record { change = Some change; told = outcome.Replied reply }) state)
    by_change (DimensionDeclared table) reply ascends accepts =
        sound-changed seat (DimensionDeclared table) reply state.lives.filters state.filters state.numbers.version state there ascends
        (declared-beside settles seat number (DimensionDeclared table) state (λ rows. rows) accepts sound) sound
    by_change (FactDeclared table) reply ascends accepts =
        let now = with_change seat number (FactDeclared table) state in
        sound-changed seat (FactDeclared table) reply now.lives.filters now.filters now.numbers.version state there ascends
        (declared-beside settles seat number (FactDeclared table) state (λ rows. rows) accepts sound) sound
    by_change (Loaded table rows) reply ascends accepts =
        sound-changed seat (Loaded table rows) reply state.lives.filters state.filters state.numbers.version state there ascends
        (grows seat number (Loaded table rows) state tt accepts sound) sound
    by_change (Ended positions) reply ascends accepts =
        sound-changed seat (Ended positions) reply state.lives.filters state.filters state.numbers.version state there ascends
        (grows seat number (Ended positions) state tt accepts sound) sound

    by_outcome : (change : Option Change) (told : Told) → IfSome change EndsAscending → FitsTables (tables_of state) change told
        → IsSound (after_outcome seat (record { change = change; told = told }) state)
    by_outcome None (outcome.Replied reply) ascends follows = sound-told seat reply state there sound
    by_outcome None (outcome.Accepted query snapshot) ascends follows =
        sound-asked seat query snapshot state there settled follows.0 follows.1 follows.2 sound
    by_outcome (Some change) (outcome.Replied reply) ascends follows = by_change change reply ascends follows
    by_outcome (Some change) (outcome.Accepted query snapshot) ascends follows = absurd follows
