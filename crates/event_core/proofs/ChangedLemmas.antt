-- A statement that changes the tables becomes the core's: its change is an entry more, and the fact table has its filters.
use Rattle.event_core.proofs.Words.{◌++◌, ◌+◌, ◌<◌, ◌∙◌, ◌∷◌, ◌≡◌, ◌≤◌, [], Accepts, AcceptsAll, after_change, after_outcome, after_submitting, ap, arith, Becomes, Change, changed, changes_of, CoreParts, counted, empty_store, EndsAscending, entries_as, Entry, fact_columns, filter_dimensions, fold, IfSome, IsCore, IsKeyed, IsSettled, KeyedStore, kind_of_change, known_in, length, length-range_with_len, List, list_any, logged, Logged, map, Outcome, outcome_of, plain, range_with_len, references, refl, replicate, Reply, Schema, Seat, seat_as, Some, State, state_of, Statement, statements_at, Store, store_of, submitted, subst, sym, TableDef, tables_by, tables_of, Waits, with_first_filters, with_number, ℕ}
use Rattle.std.proofs.lemmas.List.Sums.{count_by-le-length, length-filter}
use Rattle.query_meaning.specs.History.{FactDeclared}
use Rattle.query_meaning.proofs.LaterLemmas.{undeclared}
use Rattle.star_store.specs.Fitting.{FitsTables}
use Rattle.star_store.specs.Outcome as outcome
use Rattle.core_state.specs.Submitting.{filters_by, first_versions}
use Rattle.core_state.proofs.GrownLemmas.{tables-with}
use Rattle.core_parts.specs.Filters.{no_probes}
use Rattle.event_core.proofs.EntryLemmas.{ChangesFollow, entries-logged}
use Rattle.event_core.proofs.SubmittedCoreLemmas.{Laws, becomes-after}
use Rattle.event_core.proofs.SubmittedSeatLemmas.{seats-one, statement_of}

-- what the laws say of histories and outcomes
pub record TableLaws : Type 0 where
  pub follow : ChangesFollow
  pub ascending : (store : Store) (statement : Statement) → IfSome (outcome_of store statement).change EndsAscending
  pub fit : (store : Store) (statement : Statement) → IsSettled store
      → FitsTables store (outcome_of store statement).change (outcome_of store statement).told
  pub settled : (history : List Change) → AcceptsAll empty_store history → IsSettled (store_of history)

-- a statement of a seat is told a reply, and changes the tables to these
pub record Changes (parts : CoreParts) (seat : ℕ) (statement : Statement) (reply : Reply) (change : Change) (tables : KeyedStore) : Type 0 where
  pub core : IsCore parts
  pub there : seat < length parts.seats
  pub tells : outcome_of (tables_of (state_of parts)) statement ≡ record { change = Some change; told = outcome.Replied reply }
  pub after : plain tables ≡ after_change (tables_of (state_of parts)) change
  pub keyed : IsKeyed tables

-- the entry of the change
abbrev entry_of : CoreParts → (seat : ℕ) → Change → Entry
entry_of parts seat change = record { seat = seat; statement = parts.numbers.statement + 1; change = change }

-- what is logged of it
abbrev logged_of : CoreParts → (seat : ℕ) → Change → Logged
logged_of parts seat change = record { seat = seat; statement = parts.numbers.statement + 1; kind = kind_of_change change }

-- the parts with the change logged, before the filters that it asks for
abbrev logged_now : CoreParts → (seat : ℕ) → Reply → Change → KeyedStore → CoreParts
logged_now parts seat reply change tables = logged (logged_of parts seat change) tables
    (submitted seat (parts.numbers.statement + 1)
    (statements_at parts.seats seat ++ statement_of (parts.numbers.statement + 1) (Waits reply) ∷ []) parts)

-- the seats after the statement
abbrev seats_now : CoreParts → (seat : ℕ) → Reply → List Seat
seats_now parts seat reply = (after_outcome seat (outcome.only_tells (outcome.Replied reply)) (state_of parts)).seats

-- the state with the change as an entry, before the filters that it asks for
abbrev changed_now : CoreParts → (seat : ℕ) → Reply → Change → State
changed_now parts seat reply change = record (state_of parts) {
  entries = (state_of parts).entries ++ entry_of parts seat change ∷ [];
  seats = seats_now parts seat reply;
  numbers = record parts.numbers { statement = parts.numbers.statement + 1 };
}

-- what follows of such a change
record Followed (parts : CoreParts) (seat : ℕ) (change : Change) (tables : KeyedStore) : Type 0 where
  takes : Accepts (tables_of (state_of parts)) change
  settled : IsSettled (tables_of (state_of parts))
  entries : entries_as (plain tables) (parts.log ++ logged_of parts seat change ∷ []) ≡ (state_of parts).entries ++ entry_of parts seat change ∷ []
  told : plain tables ≡ tables_by (entries_as (plain tables) (parts.log ++ logged_of parts seat change ∷ []))

-- such a change follows from the laws
followed : TableLaws → (parts : CoreParts) (seat : ℕ) (statement : Statement) (reply : Reply) (change : Change) (tables : KeyedStore)
    → Changes parts seat statement reply change tables → Followed parts seat change tables
followed says parts seat statement reply change tables is = record {
  takes = takes;
  settled = settled;
  entries = more;
  told = is.after ∙ sym (ap tables_by more ∙ tables-with before entry);
}
  where
    before : List Entry
    before = (state_of parts).entries

    entry : Entry
    entry = entry_of parts seat change

    settled : IsSettled (tables_of (state_of parts))
    settled = says.settled (changes_of before) is.core.sound.store

    takes : Accepts (tables_of (state_of parts)) change
    takes = subst (λ (found : Outcome). FitsTables (tables_of (state_of parts)) found.change found.told) is.tells
        (says.fit (tables_of (state_of parts)) statement settled)

    ascending : EndsAscending change
    ascending = subst (λ (found : Outcome). IfSome found.change EndsAscending) is.tells (says.ascending (tables_of (state_of parts)) statement)

    more : entries_as (plain tables) (parts.log ++ logged_of parts seat change ∷ []) ≡ before ++ entry ∷ []
    more = entries-logged says.follow (plain parts.tables) (plain tables) parts.log seat (parts.numbers.statement + 1) change
        is.core.sound.store is.core.sound.ends takes ascending is.after

-- the seats of the parts are those of the state
seats-same : (parts : CoreParts) (seat : ℕ) (reply : Reply) (change : Change) (tables : KeyedStore) → seat < length parts.seats
    → map (seat_as (known_in parts.asked)) (logged_now parts seat reply change tables).seats ≡ seats_now parts seat reply
seats-same parts seat reply change tables there =
    seats-one (known_in parts.asked) (known_in parts.asked) parts.seats seat (parts.numbers.statement + 1) (Waits reply) (outcome.Replied reply)
    there refl refl refl

-- a change that asks for no filters, and declares no fact table
becomes-logged : Laws → TableLaws → (parts : CoreParts) (seat : ℕ) (statement : Statement) (reply : Reply) (change : Change) (tables : KeyedStore)
    → Changes parts seat statement reply change tables
    → filters_by change (changed_now parts seat reply change) ≡ changed_now parts seat reply change
    → Becomes (logged_now parts seat reply change tables) (after_submitting seat statement (state_of parts))
becomes-logged laws says parts seat statement reply change tables is same =
    becomes-after laws parts (logged_now parts seat reply change tables) seat statement is.core is.there
    (ap (λ (entries : List Entry). record (changed_now parts seat reply change) {
      entries = entries;
      seats = map (seat_as (known_in parts.asked)) (logged_now parts seat reply change tables).seats;
    }) facts.entries
    ∙ ap (λ (seats : List Seat). record (changed_now parts seat reply change) { seats = seats }) (seats-same parts seat reply change tables is.there)
    ∙ sym same
    ∙ sym (ap (λ (found : Outcome). after_outcome seat found (state_of parts)) is.tells))
    (record { scan = refl; attached = refl; settings = refl; made = refl; words = refl })
    (record {
      tables = record { same = facts.told; keyed = is.keyed };
      beside = is.core.beside;
    })
  where
    facts : Followed parts seat change tables
    facts = followed says parts seat statement reply change tables is

-- no more dimensions have filters than are declared
few-filters : (schema : Schema) → length (filter_dimensions schema) ≤ length schema.dimensions
few-filters schema =
    let passes = λ (dimension : ℕ). list_any (references dimension) (fact_columns schema) in
    let all : List ℕ = range_with_len 0 (length schema.dimensions) in
    omega (arith, length-filter passes all, count_by-le-length passes all, length-range_with_len 0 (length schema.dimensions))

-- the state with first filters of these dimensions
abbrev filtered_now : CoreParts → (seat : ℕ) → Reply → Change → List Entry → List Seat → (dimensions : List ℕ) → (first count : ℕ) → State
filtered_now parts seat reply change entries seats dimensions first count = record (changed_now parts seat reply change) {
  entries = entries;
  seats = seats;
  lives = record parts.lives { filters = fold with_number 0 dimensions };
  filters = record { versions = first_versions dimensions first; tallies = replicate (length dimensions) no_probes; order = dimensions };
  numbers = record { statement = parts.numbers.statement + 1; batch = parts.numbers.batch; version = count };
}

-- the declaration of the fact table
becomes-declared : Laws → TableLaws → (parts : CoreParts) (seat : ℕ) (statement : Statement) (reply : Reply) (table : TableDef) (tables : KeyedStore)
    → Changes parts seat statement reply (FactDeclared table) tables
    → Becomes (with_first_filters (filter_dimensions tables.schema) (logged_now parts seat reply (FactDeclared table) tables))
    (after_submitting seat statement (state_of parts))
becomes-declared laws says parts seat statement reply table tables is =
    becomes-after laws parts (with_first_filters dimensions (logged_now parts seat reply (FactDeclared table) tables)) seat statement is.core is.there
    (ap (λ (list : List Entry). state_by list seats dimensions 1 (length dimensions)) facts.entries
    ∙ ap (λ (list : List Seat). state_by entries list dimensions 1 (length dimensions))
    (seats-same parts seat reply (FactDeclared table) tables is.there)
    ∙ ap (λ (list : List ℕ). state_by entries (seats_now parts seat reply) list 1 (length list)) same_dimensions
    ∙ ap (λ first. state_by entries (seats_now parts seat reply) dimensions_now first (length dimensions_now)) first
    ∙ ap (state_by entries (seats_now parts seat reply) dimensions_now (parts.numbers.version + 1)) count
    ∙ sym (ap (λ (found : Outcome). after_outcome seat found (state_of parts)) is.tells))
    (record { scan = refl; attached = refl; settings = refl; made = refl; words = refl })
    (record {
      tables = record { same = facts.told; keyed = is.keyed };
      beside = is.core.beside;
    })
  where
    facts : Followed parts seat (FactDeclared table) tables
    facts = followed says parts seat statement reply (FactDeclared table) tables is

    state_by : List Entry → List Seat → List ℕ → ℕ → ℕ → State
    state_by = filtered_now parts seat reply (FactDeclared table)

    entries : List Entry
    entries = (state_of parts).entries ++ entry_of parts seat (FactDeclared table) ∷ []

    seats : List Seat
    seats = map (seat_as (known_in parts.asked)) (logged_now parts seat reply (FactDeclared table) tables).seats

    dimensions : List ℕ
    dimensions = filter_dimensions tables.schema

    dimensions_now : List ℕ
    dimensions_now = filter_dimensions (tables_by entries).schema

    declared : tables_by entries ≡ after_change (tables_of (state_of parts)) (FactDeclared table)
    declared = tables-with (state_of parts).entries (entry_of parts seat (FactDeclared table))

    same_dimensions : dimensions ≡ dimensions_now
    same_dimensions = ap (λ (s : Store). filter_dimensions s.schema) (is.after ∙ sym declared)

    unnumbered : parts.numbers.version ≡ 0
    unnumbered = is.core.sound.numbers.unnumbered (undeclared (tables_of (state_of parts)) table facts.takes.0)

    first : 1 ≡ parts.numbers.version + 1
    first = let none = unnumbered in omega arith

    count : length dimensions_now ≡ counted parts.numbers.version (length dimensions_now)
    count =
        let none = unnumbered in
        let limit = facts.settled.declared.limits.dimensions in
        let many : length (tables_by entries).schema.dimensions ≡ length (tables_of (state_of parts)).schema.dimensions =
        ap (λ (s : Store). length s.schema.dimensions) declared in
        let few = few-filters (tables_by entries).schema in
        omega arith

-- whatever the change is
pub becomes-changed : Laws → TableLaws → (parts : CoreParts) (seat : ℕ) (statement : Statement) (reply : Reply) (change : Change) (tables : KeyedStore)
    → Changes parts seat statement reply change tables
    → Becomes (changed seat (parts.numbers.statement + 1)
    (statements_at parts.seats seat ++ statement_of (parts.numbers.statement + 1) (Waits reply) ∷ []) (kind_of_change change) tables parts)
    (after_submitting seat statement (state_of parts))
becomes-changed laws says parts seat statement reply (FactDeclared table) tables is =
    becomes-declared laws says parts seat statement reply table tables is
becomes-changed laws says parts seat statement reply other tables is =
    becomes-logged laws says parts seat statement reply other tables is refl
