use Rattle.event_core.proofs.Words.{◌≡◌, Accepts, All, Change, changes_of, Free, IsSettled, IsSound, kind_of_change, None, outcome_of, Some, State, state_of, Statement, Store, subst, tables_of, Told}
use Rattle.query_meaning.specs.History.{DimensionDeclared, FactDeclared, Loaded, Ended}
use Rattle.query_meaning.proofs.LaterLemmas.{undeclared}
use Rattle.star_store.specs.Fitting.{FitsTables}
use Rattle.star_store.specs.Outcome.{Replied, Accepted}
use Rattle.star_store.specs.declared.applied.ChangeKind.TheVariants.{DeclaresDimension, DeclaresFact, Loads, Ends}
use Rattle.event_core.proofs.statements.a_declared_fact_table_finds_free_slots.Goals as goal

-- a change with an outcome that fits the tables is one that they take
accepts-told : (store : Store) (change : Change) (told : Told) → FitsTables store (Some change) told → Accepts store change
accepts-told store change (Replied reply) fits = fits
accepts-told store change (Accepted query snapshot) fits = absurd fits

-- tables that take the declaration of a fact table have none
none-before : (store : Store) (change : Change) → Accepts store change → kind_of_change change ≡ DeclaresFact → store.schema.fact ≡ None
none-before store (DimensionDeclared table) accepts declares = absurd (let never : DeclaresDimension ≡ DeclaresFact = declares in cc)
none-before store (FactDeclared table) accepts declares = undeclared store table accepts.0
none-before store (Loaded table rows) accepts declares = absurd (let never : Loads table ≡ DeclaresFact = declares in cc)
none-before store (Ended positions) accepts declares = absurd (let never : Ends ≡ DeclaresFact = declares in cc)

-- where no fact table is declared, no slot is held
free-before : (state : State) (change : Change) → IsSound state → Accepts (tables_of state) change → kind_of_change change ≡ DeclaresFact
    → All (λ slot. slot ≡ Free) state.lives.slots
free-before state change sound accepts declares = (sound.quiet (none-before (tables_of state) change accepts declares)).2

-- the tables take the change of a statement
accepts-change : (state : State) (statement : Statement) (change : Change) → IsSettled (tables_of state)
    → ((store : Store) (statement : Statement) → IsSettled store
    → FitsTables store (outcome_of store statement).change (outcome_of store statement).told)
    → (outcome_of (tables_of state) statement).change ≡ Some change → Accepts (tables_of state) change
accepts-change state statement change settled fit is =
    accepts-told (tables_of state) change (outcome_of (tables_of state) statement).told
    (subst (λ found. FitsTables (tables_of state) found (outcome_of (tables_of state) statement).told) is
    (fit (tables_of state) statement settled))

pub returns-clause-first : goal.returns-clause-first
returns-clause-first c = λ parts statement change core is declares.
    none-before (tables_of (state_of parts)) change
    (accepts-change (state_of parts) statement change
    (c.accepted_histories_are_settled.ensures.all (changes_of (state_of parts).entries) core.sound.store)
    c.outcomes_fit_the_tables.ensures is) declares

pub returns-clause-free : goal.returns-clause-free
returns-clause-free c = λ parts statement change core is declares.
    free-before (state_of parts) change core.sound
    (accepts-change (state_of parts) statement change
    (c.accepted_histories_are_settled.ensures.all (changes_of (state_of parts).entries) core.sound.store)
    c.outcomes_fit_the_tables.ensures is) declares
