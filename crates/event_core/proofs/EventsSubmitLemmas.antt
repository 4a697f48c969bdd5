-- What the code makes of a statement that is submitted is what the law says.
use Rattle.event_core.proofs.Words.{◌++◌, ◌+◌, ◌<◌, ◌∙◌, ◌∷◌, ◌≡◌, [], accepted, after_change, after_submit, after_submitting, ap, arith, AskedQuery, attached_to, Becomes, Change, changed, Changed, ChangeKind, CoreParts, entries_as, filter_dimensions, fold, Follows, get_or, get_or-map, grouped_of, IsAsked, IsCore, IsKeyed, IsScannedAs, IsSound, KeyedStore, kind_of_change, known_in, length, length-map, length-set, List, Lives, logged, Logged, map, map-set, None, Ok, Option, option_map, option_map_or, Outcome, outcome_of, plain, query_of, refill, refill-all, refl, Reply, Roomy, Schema, seat_as, set, Some, Standing, StarQuery, State, state_of, Statement, statements_at, Store, Submitted, submitted, subst, sym, tables_of, Told, Waits, with_filters_for, with_first_filters, with_number, ℕ}
use Rattle.std.proofs.Common.{Err, Result}
use Rattle.std.specs.Result.{OnErr}
use Rattle.std.proofs.Math.Seq.{map-set_same}
use Rattle.star_store.specs.Outcome as outcome
use Rattle.star_store.specs.declared.applied.ApplyFault.{ApplyFault}
use Rattle.star_store.specs.declared.applied.Applied.{Applied}
use Rattle.star_store.specs.declared.applied.Applied.TheVariants.{Replied, Accepted}
use Rattle.star_store.specs.declared.applied.ChangeKind.TheVariants.{DeclaresFact}
use Rattle.core_state.specs.State as state
use Rattle.core_parts.specs.Filters.{dimensions_of, first_filters}
use Rattle.core_parts.proofs.FirstFilterLemmas.{dimensions_of-first, length-first}
use Rattle.event_core.proofs.SubmittedSeatLemmas.{statement_of}

-- the statements of the seats
abbrev pub statements_in : List (Roomy Submitted) → List (List Submitted)
statements_in seats = map (λ (seat : Roomy Submitted). seat.items) seats

-- the statements of the seats, of which one has a statement more
abbrev pub with_stood : (seat : ℕ) → Submitted → List (List Submitted) → List (List Submitted)
with_stood seat statement seats = set seats seat (statements_at seats seat ++ statement ∷ [])

-- a seat that is written over, where it has a statement more
pub stands : (seats members : List (Roomy Submitted)) (seat : ℕ) (found one : Roomy Submitted) (statement : Submitted)
    → seat < length seats → members ≡ seats → one.items ≡ (get_or members seat found).items ++ statement ∷ []
    → statements_in (refill (length seats) seats (set members seat one)) ≡ with_stood seat statement (statements_in seats)
stands seats members seat found one statement there same pushed =
    ap statements_in (refill-all seats (set members seat one)
    (length-set members seat one ∙ ap (λ (list : List (Roomy Submitted)). length list) same))
    ∙ map-set (λ (seat : Roomy Submitted). seat.items) members seat one
    ∙ ap (λ (list : List (Roomy Submitted)). set (statements_in list) seat one.items) same
    ∙ ap (set (statements_in seats) seat) (pushed ∙ ap (λ (list : List Submitted). list ++ statement ∷ []) before)
  where
    before : (get_or members seat found).items ≡ statements_at (statements_in seats) seat
    before = ap (λ (list : List (Roomy Submitted)). (get_or list seat found).items) same
        ∙ sym (get_or-map (λ (seat : Roomy Submitted). seat.items) seats seat found [] there)

-- a seat that is written over, where it has the statements that it had
pub stays : (seats members : List (Roomy Submitted)) (seat : ℕ) (found one : Roomy Submitted)
    → members ≡ seats → one.items ≡ (get_or members seat found).items
    → statements_in (refill (length seats) seats (set members seat one)) ≡ statements_in seats
stays seats members seat found one same kept =
    ap statements_in (refill-all seats (set members seat one)
    (length-set members seat one ∙ ap (λ (list : List (Roomy Submitted)). length list) same))
    ∙ map-set_same (λ (seat : Roomy Submitted). seat.items) members seat one found kept
    ∙ ap statements_in same

-- the filters of the dimensions that the fact table references
pub filters-first : (parts : CoreParts) (schema : Schema) (old lives : Lives) (filters : state.Filters) (dimensions count : ℕ)
    → parts.tables.schema ≡ schema → parts.lives ≡ old → filters ≡ first_filters (filter_dimensions schema)
    → dimensions ≡ fold with_number 0 (dimensions_of filters.versions) → lives ≡ record old { filters = dimensions }
    → count ≡ length filters.versions
    → with_first_filters (filter_dimensions parts.tables.schema) parts
    ≡ record parts { lives = lives; filters = filters; numbers = record parts.numbers { version = count } }
filters-first parts schema old lives filters dimensions count same_schema same_lives first is noted counted =
    ap (λ schema. with_first_filters (filter_dimensions schema) parts) same_schema
    ∙ ap (λ (lives : Lives). build (record lives { filters = fold with_number 0 referenced }) (first_filters referenced) (length referenced)) same_lives
    ∙ ap (λ set. build (record old { filters = set }) (first_filters referenced) (length referenced)) (sym set)
    ∙ ap (λ (lives : Lives). build lives (first_filters referenced) (length referenced)) (sym noted)
    ∙ ap (λ n. build lives (first_filters referenced) n) (sym number)
    ∙ ap (λ filters. build lives filters count) (sym first)
  where
    referenced : List ℕ
    referenced = filter_dimensions schema

    build : Lives → state.Filters → ℕ → CoreParts
    build lives filters count = record parts { lives = lives; filters = filters; numbers = record parts.numbers { version = count } }

    set : dimensions ≡ fold with_number 0 referenced
    set = is ∙ ap (λ (filters : state.Filters). fold with_number 0 (dimensions_of filters.versions)) first
        ∙ ap (fold with_number 0) (dimensions_of-first referenced 1)

    number : count ≡ length referenced
    number = counted ∙ ap (λ (filters : state.Filters). length filters.versions) first ∙ length-first referenced 1

-- parts whose tables have the same rows and versions, keyed, are those of the same state
pub with-tables : (parts : CoreParts) (tables : KeyedStore) (after : State) → plain tables ≡ plain parts.tables → IsKeyed tables
    → Becomes parts after → Becomes (record parts { tables = tables }) after
with-tables parts tables after same keyed becomes = record {
  state = same_state ∙ becomes.state;
  core = record {
    sound = subst IsSound (sym same_state) becomes.core.sound;
    tables = record { same = same ∙ becomes.core.tables.same ∙ sym (ap tables_of same_state); keyed = keyed };
    scanned = subst (λ (state : State). IsScannedAs state parts.scan) (sym same_state) becomes.core.scanned;
    attached = becomes.core.attached ∙ sym (ap attached_to same_state);
    beside = becomes.core.beside;
    frames = becomes.core.frames;
    words = becomes.core.words;
  };
}
  where
    same_state : state_of (record parts { tables = tables }) ≡ state_of parts
    same_state = ap (λ (store : Store). record (state_of parts) { entries = entries_as store parts.log }) same

-- an outcome of no kind of change has no change
pub no-change : (change : Option Change) → None ≡ option_map kind_of_change change → change ≡ None
no-change None none = refl
no-change (Some change) none = cc

-- the change of an outcome, of this kind
pub record IsChange (change : Option Change) (kind : ChangeKind) : Type 0 where
  pub one : Change
  pub is : change ≡ Some one
  pub same : kind ≡ kind_of_change one

-- an outcome of a kind of change has such a change
pub some-change : (change : Option Change) (kind : ChangeKind) → Some kind ≡ option_map kind_of_change change → IsChange change kind
some-change None kind some = absurd (let never : Some kind ≡ None = some in cc)
some-change (Some change) kind some = record { one = change; is = refl; same = let same : Some kind ≡ Some (kind_of_change change) = some in cc }

-- an outcome by its two parts
outcome-is : (found : Outcome) (change : Option Change) (told : Told) → found.change ≡ change → told ≡ found.told
    → found ≡ record { change = change; told = told }
outcome-is found change told changes tells =
    ap (λ (change : Option Change). record { change = change; told = found.told }) changes
    ∙ ap (λ (told : Told). record { change = change; told = told }) (sym tells)

-- a seat has a statement more, and its number was the last
stood : (P : List (List Submitted) → ℕ → Type 0) (old before seats : List (List Submitted)) (seat last number : ℕ) (standing : Standing)
    → before ≡ old → number ≡ last → seats ≡ with_stood seat (statement_of number standing) before
    → P (with_stood seat (statement_of last standing) old) last → P seats number
stood P old before seats seat last number standing same counts stands holds =
    subst (λ list. P list number) (sym stands)
    (subst (λ n. P (with_stood seat (statement_of n standing) before) n) (sym counts)
    (subst (λ list. P (with_stood seat (statement_of last standing) list) last) (sym same) holds))

-- how the law goes on of a statement that is told a reply
abbrev RepliedLaw : Type 0
RepliedLaw = (parts : CoreParts) (seat : ℕ) (statement : Statement) (reply : Reply) → IsCore parts → seat < length parts.seats
    → outcome_of (tables_of (state_of parts)) statement ≡ outcome.only_tells (outcome.Replied reply)
    → Becomes (submitted seat (parts.numbers.statement + 1)
    (statements_at parts.seats seat ++ record { number = parts.numbers.statement + 1; standing = Waits reply } ∷ []) parts)
    (after_submitting seat statement (state_of parts))

-- of one that declares the fact table: none was declared
abbrev pub UndeclaredLaw : Type 0
UndeclaredLaw = (parts : CoreParts) (statement : Statement) (change : Change) → IsCore parts
    → (outcome_of (tables_of (state_of parts)) statement).change ≡ Some change → kind_of_change change ≡ DeclaresFact
    → (tables_of (state_of parts)).schema.fact ≡ None

pub undeclared-before : UndeclaredLaw → (parts : CoreParts) (statement : Statement) (kind : ChangeKind) (reply : Reply) (tables : KeyedStore)
    → IsCore parts → Follows {E = ApplyFault} parts.tables tables (Ok (Changed kind reply)) (outcome_of (plain parts.tables) statement)
    → kind ≡ DeclaresFact → parts.tables.schema.fact ≡ None
undeclared-before law parts statement kind reply tables core follows declares =
    let change = some-change (outcome_of (plain parts.tables) statement).change kind follows.1 in
    ap (λ (store : Store). store.schema.fact) core.tables.same
    ∙ law parts statement change.one core
    (ap (λ store. (outcome_of store statement).change) (sym core.tables.same) ∙ change.is) (sym change.same ∙ declares)

-- how it goes on of one that changes the tables
abbrev ChangedLaw : Type 0
ChangedLaw = (parts : CoreParts) (seat : ℕ) (statement : Statement) (reply : Reply) (change : Change) (tables : KeyedStore)
    → IsCore parts → seat < length parts.seats
    → outcome_of (tables_of (state_of parts)) statement ≡ record { change = Some change; told = outcome.Replied reply }
    → plain tables ≡ after_change (tables_of (state_of parts)) change → IsKeyed tables
    → Becomes (changed seat (parts.numbers.statement + 1)
    (statements_at parts.seats seat ++ record { number = parts.numbers.statement + 1; standing = Waits reply } ∷ [])
    (kind_of_change change) tables parts) (after_submitting seat statement (state_of parts))

-- an accepted query of which no row has come
abbrev pub asked_first : (number seat : ℕ) → StarQuery → (snapshot : ℕ) → AskedQuery
asked_first number seat query snapshot =
    record { number = number; seat = seat; query = query; snapshot = snapshot; kept = Some (grouped_of (query_of query) []) }

-- how it goes on of a query that is accepted
abbrev AcceptedLaw : Type 0
AcceptedLaw = (parts : CoreParts) (seat : ℕ) (statement : Statement) (query : StarQuery) (snapshot : ℕ)
    → IsCore parts → seat < length parts.seats
    → outcome_of (tables_of (state_of parts)) statement ≡ outcome.only_tells (outcome.Accepted (query_of query) snapshot)
    → Becomes (accepted seat (parts.numbers.statement + 1)
    (statements_at parts.seats seat ++ record { number = parts.numbers.statement + 1; standing = IsAsked } ∷ [])
    (asked_first (parts.numbers.statement + 1) seat query snapshot) parts)
    (after_submitting seat statement (state_of parts))

-- a seat of the state is one of the parts
pub seat-there : (parts now : CoreParts) (seat : ℕ) → parts ≡ now → seat < length (state_of now).seats → seat < length parts.seats
seat-there parts now seat is there =
    let many = length-map parts.seats (seat_as (known_in parts.asked)) in
    let same = ap (λ (p : CoreParts). length (state_of p).seats) is in omega arith

-- what follows of an answer, where the answer is this one
pub follows-as : (old new : KeyedStore) (statement : Statement) (applied one : Applied) → applied ≡ one
    → Follows {E = ApplyFault} old new (Ok applied) (outcome_of (plain old) statement)
    → Follows {E = ApplyFault} old new (Ok one) (outcome_of (plain old) statement)
follows-as old new statement applied one is follows =
    subst (λ (a : Applied). Follows {E = ApplyFault} old new (Ok a) (outcome_of (plain old) statement)) is follows

-- a statement that gets a reply
pub replies : RepliedLaw → (old : CoreParts) (seat number : ℕ) (statement : Statement) (reply : Reply) (tables : KeyedStore)
    (before seats : List (List Submitted))
    → IsCore old → seat < length old.seats → number ≡ old.numbers.statement + 1 → before ≡ old.seats
    → seats ≡ with_stood seat (statement_of number (Waits reply)) before
    → Follows {E = ApplyFault} old.tables tables (Ok (Replied reply)) (outcome_of (plain old.tables) statement) → IsKeyed tables
    → Becomes (record old { tables = tables; seats = seats; numbers = record old.numbers { statement = number } })
    (after_submitting seat statement (state_of old))
replies law old seat number statement reply tables before seats core there counts same_seats stands follows keyed =
    stood (λ seats number. Becomes (with_seats seats number) after) old.seats before seats seat (old.numbers.statement + 1) number
    (Waits reply) same_seats counts stands
    (with-tables (submitted seat (old.numbers.statement + 1)
    (statements_at old.seats seat ++ statement_of (old.numbers.statement + 1) (Waits reply) ∷ []) old) tables after
    (follows.2 ∙ ap (λ (change : Option Change). option_map_or (after_change (plain old.tables)) change (plain old.tables)) none) keyed
    (law old seat statement reply core there tells))
  where
    after : State
    after = after_submitting seat statement (state_of old)

    with_seats : List (List Submitted) → ℕ → CoreParts
    with_seats seats number = record old { tables = tables; seats = seats; numbers = record old.numbers { statement = number } }

    found : Outcome
    found = outcome_of (plain old.tables) statement

    none : found.change ≡ None
    none = no-change found.change follows.1

    tells : outcome_of (tables_of (state_of old)) statement ≡ outcome.only_tells (outcome.Replied reply)
    tells = ap (λ store. outcome_of store statement) (sym core.tables.same)
        ∙ outcome-is found None (outcome.Replied reply) none follows.0

-- a statement that changes the tables
pub changes : ChangedLaw → (old : CoreParts) (seat number : ℕ) (statement : Statement) (kind : ChangeKind) (reply : Reply) (tables : KeyedStore)
    (schema : Schema) (lives : Lives) (filters : state.Filters) (version : ℕ) (log : List Logged) (before seats : List (List Submitted))
    → IsCore old → seat < length old.seats → number ≡ old.numbers.statement + 1
    → log ≡ old.log ++ record { seat = seat; statement = number; kind = kind } ∷ [] → before ≡ old.seats
    → seats ≡ with_stood seat (statement_of number (Waits reply)) before
    → Follows {E = ApplyFault} old.tables tables (Ok (Changed kind reply)) (outcome_of (plain old.tables) statement) → IsKeyed tables
    → schema ≡ tables.schema
    → ((parts : CoreParts) → parts.tables.schema ≡ schema → parts.lives ≡ old.lives → parts.filters ≡ old.filters
    → parts.numbers.version ≡ old.numbers.version → with_filters_for kind parts
    ≡ record parts { lives = lives; filters = filters; numbers = record parts.numbers { version = version } })
    → Becomes (record old {
      tables = tables;
      log = log;
      seats = seats;
      lives = lives;
      filters = filters;
      numbers = record { statement = number; batch = old.numbers.batch; version = version };
    }) (after_submitting seat statement (state_of old))
changes law old seat number statement kind reply tables schema lives filters version log before seats core there counts grown same_seats stands
    follows keyed same_schema filtered =
    subst (λ log. Becomes (with_seats log seats number) after) (sym grown)
    (stood (λ seats number. Becomes (with_seats (old.log ++ entry number kind ∷ []) seats number) after) old.seats before seats seat
    last number (Waits reply) same_seats counts stands
    (subst (λ parts. Becomes parts after)
    (filtered (logged (entry last kind) tables (submitted seat last (statements_at old.seats seat ++ statement_of last (Waits reply) ∷ []) old))
    (sym same_schema) refl refl refl)
    (subst (λ kind. Becomes (changed seat last (statements_at old.seats seat ++ statement_of last (Waits reply) ∷ []) kind tables old) after)
    (sym change.same)
    (law old seat statement reply change.one tables core there tells makes keyed))))
  where
    after : State
    after = after_submitting seat statement (state_of old)

    last : ℕ
    last = old.numbers.statement + 1

    entry : ℕ → ChangeKind → Logged
    entry number kind = record { seat = seat; statement = number; kind = kind }

    with_seats : List Logged → List (List Submitted) → ℕ → CoreParts
    with_seats log seats number = record old {
      tables = tables;
      log = log;
      seats = seats;
      lives = lives;
      filters = filters;
      numbers = record { statement = number; batch = old.numbers.batch; version = version };
    }

    found : Outcome
    found = outcome_of (plain old.tables) statement

    change : IsChange found.change kind
    change = some-change found.change kind follows.1

    tells : outcome_of (tables_of (state_of old)) statement ≡ record { change = Some change.one; told = outcome.Replied reply }
    tells = ap (λ store. outcome_of store statement) (sym core.tables.same)
        ∙ outcome-is found (Some change.one) (outcome.Replied reply) change.is follows.0

    makes : plain tables ≡ after_change (tables_of (state_of old)) change.one
    makes = follows.2 ∙ ap (λ (one : Option Change). option_map_or (after_change (plain old.tables)) one (plain old.tables)) change.is
        ∙ ap (λ store. after_change store change.one) core.tables.same

-- parts whose tables and statements are as they were are the same parts
pub same-parts : (parts : CoreParts) (tables : KeyedStore) (seats : List (List Submitted)) → tables ≡ parts.tables → seats ≡ parts.seats
    → record parts { tables = tables; seats = seats } ≡ parts
same-parts parts tables seats same_tables same_seats =
    ap (λ tables. record parts { tables = tables; seats = seats }) same_tables ∙ ap (λ seats. record parts { seats = seats }) same_seats

-- a statement asks a query, and as it was applied the parts stayed the same
pub record IsAskedOf (parts : CoreParts) (tables : KeyedStore) (seats : List (List Submitted)) (statement : Statement) (query : StarQuery)
    (snapshot : ℕ) : Type 0 where
  pub same : record parts { tables = tables; seats = seats } ≡ parts
  pub tells : outcome_of (tables_of (state_of parts)) statement ≡ outcome.only_tells (outcome.Accepted (query_of query) snapshot)

-- so it is where it is answered that the query is accepted
pub asked-of : (parts : CoreParts) (tables : KeyedStore) (seats : List (List Submitted)) (statement : Statement) (query : StarQuery) (snapshot : ℕ)
    (applied : Applied) → IsCore parts → seats ≡ parts.seats → applied ≡ Accepted query snapshot
    → Follows {E = ApplyFault} parts.tables tables (Ok applied) (outcome_of (plain parts.tables) statement)
    → IsAskedOf parts tables seats statement query snapshot
asked-of parts tables seats statement query snapshot applied core same_seats is follows = record {
  same = same-parts parts tables seats accepts.3.1 same_seats;
  tells = ap (λ store. outcome_of store statement) (sym core.tables.same)
      ∙ outcome-is found None (outcome.Accepted (query_of query) snapshot) (no-change found.change accepts.1) accepts.0;
}
  where
    found : Outcome
    found = outcome_of (plain parts.tables) statement

    accepts : Follows {E = ApplyFault} parts.tables tables (Ok (Accepted query snapshot)) found
    accepts = follows-as parts.tables tables statement applied (Accepted query snapshot) is follows

-- a query that is accepted
pub accepts : AcceptedLaw → (old : CoreParts) (seat number : ℕ) (statement : Statement) (query : StarQuery) (snapshot extent : ℕ)
    (one : AskedQuery) (seats : List (List Submitted)) (asked : List AskedQuery) (lives : Lives)
    → IsCore old → seat < length old.seats → number ≡ old.numbers.statement + 1 → one ≡ asked_first number seat query snapshot
    → extent ≡ length old.tables.versions → seats ≡ with_stood one.seat (statement_of one.number IsAsked) old.seats
    → asked ≡ old.asked ++ one ∷ [] → lives ≡ after_submit one.number extent old.lives
    → outcome_of (tables_of (state_of old)) statement ≡ outcome.only_tells (outcome.Accepted (query_of query) snapshot)
    → Becomes (record old { seats = seats; asked = asked; lives = lives; numbers = record old.numbers { statement = number } })
    (after_submitting seat statement (state_of old))
accepts law old seat number statement query snapshot extent one seats asked lives core there counts is_one reaches stands grown waits tells =
    subst (λ seats. Becomes (with_parts seats asked lives number) after) (sym stands)
    (subst (λ asked. Becomes (with_parts (seats_by one) asked lives number) after) (sym grown)
    (subst (λ lives. Becomes (with_parts (seats_by one) (old.asked ++ one ∷ []) lives number) after) (sym waits)
    (subst (λ one. Becomes (with_one one extent number) after) (sym (is_one ∙ ap (λ n. asked_first n seat query snapshot) counts))
    (subst (λ extent. Becomes (with_one first extent number) after) (sym reaches)
    (subst (λ number. Becomes (with_one first (length old.tables.versions) number) after) (sym counts)
    (law old seat statement query snapshot core there tells))))))
  where
    after : State
    after = after_submitting seat statement (state_of old)

    first : AskedQuery
    first = asked_first (old.numbers.statement + 1) seat query snapshot

    seats_by : AskedQuery → List (List Submitted)
    seats_by one = with_stood one.seat (statement_of one.number IsAsked) old.seats

    with_parts : List (List Submitted) → List AskedQuery → Lives → ℕ → CoreParts
    with_parts seats asked lives number =
        record old { seats = seats; asked = asked; lives = lives; numbers = record old.numbers { statement = number } }

    with_one : AskedQuery → (extent number : ℕ) → CoreParts
    with_one one extent number =
        with_parts (seats_by one) (old.asked ++ one ∷ []) (after_submit one.number extent old.lives) number

-- what holds anyhow holds of an error
pub on-error : {T E P : Type 0} (result : Result T E) → P → OnErr result P
on-error (Ok done) holds = tt
on-error (Err none) holds = holds

-- a seat that is there is there where the statements of the seats are the same
pub seat-kept : (parts : CoreParts) (seats : List (Roomy Submitted)) (seat : ℕ) → statements_in seats ≡ parts.seats
    → seat < length parts.seats → seat < length seats
seat-kept parts seats seat same there =
    subst (λ n. seat < n) (sym (ap (λ (list : List (List Submitted)). length list) same)
    ∙ length-map seats (λ (seat : Roomy Submitted). seat.items)) there
