-- The deletes of statements name their positions ascending.
use Rattle.core_state.proofs.Words.{◌+◌, ◌<◌, AllPairs, AllPairs-filter, arith, Block, block_bytes, Bool, bound_delete, bound_select, Change, committed, cond, declared, declared_dimension, declared_fact, declared_table, delete_change, deleted, Dimension, DimensionDeclared, Ended, EndsAscending, Err, Fact, FactDeclared, false, get_or-range_with_len, IfOk, IfSome, is_none, length, length-range_with_len, Limit, List, list_any, Loaded, meaning_of, meaning_outcome, None, Ok, Option, option_map_or, Outcome, outcome_by, OutOfOrder, PlainVersion, Query, range_with_len, Refusal, refused, Result, rows_in, select_of, selected, Some, Statement, Store, TableDef, Test, true, UnknownName, where_conjuncts, ℕ}
use Rattle.std.specs.Prelude.{nat_lt, slice_get}
use Rattle.star_values.specs.declared.refusal.Refusal.TheVariants.{DanglingReference, DuplicateKey, BadRecord}
use Rattle.star_values.specs.declared.value.Value as cell
use Rattle.star_parser.specs.Statement as written
use Rattle.star_plan.specs.declared.table.Table.{Table}
use Rattle.star_plan.specs.Named.{table_named}
use Rattle.star_store.specs.Deletes.{is_ended_by, positions_of}
use Rattle.star_store.specs.Loads.{count_in, dangles, load_change, loaded_records, loaded_rows, most_in, repeats_a_key}
use Rattle.star_store.specs.Outcome.{outcome_of}

range-ascends : (first count : ℕ) → AllPairs (λ x y. x < y) (range_with_len first count)
range-ascends first count i j d before within =
    let many = length-range_with_len first count in
    let one = get_or-range_with_len first count i d (omega arith) in
    let other = get_or-range_with_len first count j d (omega arith) in
    omega arith

positions-ascend : (condition : Option Test) (versions : List PlainVersion) → AllPairs (λ x y. x < y) (positions_of condition versions)
positions-ascend condition versions =
    AllPairs-filter (λ x y. x < y) (λ position. option_map_or (is_ended_by condition) (slice_get versions position) false)
    (range_with_len 0 (length versions)) (range-ascends 0 (length versions))

-- a change that there may be names its positions ascending
abbrev Ascends : Result Change Refusal → Type 0
Ascends found = IfOk found EndsAscending

abbrev ChangeAscends : Outcome → Type 0
ChangeAscends found = IfSome found.change EndsAscending

unless : (is : Bool) (reason : Refusal) (found : Result Change Refusal) → Ascends found
    → Ascends (cond {A = Result Change Refusal} is (Err reason) found)
unless true reason found ascends = tt
unless false reason found ascends = ascends

where-some : {X : Type 0} (f : X → Result Change Refusal) (option : Option X) (reason : Refusal) → ((x : X) → Ascends (f x))
    → Ascends (option_map_or f option (Err reason))
where-some f None reason ascends = tt
where-some f (Some x) reason ascends = ascends x

rows-ascend : (store : Store) (table : Table) (rows : List (List cell.Value)) → Ascends (loaded_rows store table rows)
rows-ascend store Fact rows = unless (list_any (dangles store.schema store.dimensions) rows) DanglingReference (Ok (Loaded Fact rows)) tt
rows-ascend store (Dimension dimension) rows =
    unless (repeats_a_key (rows_in store.dimensions dimension) rows) DuplicateKey (Ok (Loaded (Dimension dimension) rows)) tt

read-ascends : (store : Store) (table : Table) (is : Bool) (rows : Option (List (List cell.Value)))
    → Ascends (cond {A = Result Change Refusal} is (Err Limit) (option_map_or (loaded_rows store table) rows (Err BadRecord)))
read-ascends store table is rows =
    unless is Limit (option_map_or (loaded_rows store table) rows (Err BadRecord))
    (where-some (loaded_rows store table) rows BadRecord (rows-ascend store table))

records-ascend : (store : Store) (table : Table) (records : List (List (List ℕ))) → Ascends (loaded_records store table records)
records-ascend store table records = read-ascends store table (nat_lt (most_in table) (count_in store table + length records)) _

named-ascends : (store : Store) (is : Bool) (found : Option Table) (records : List (List (List ℕ)))
    → Ascends (cond {A = Result Change Refusal} is (Err OutOfOrder)
    (option_map_or (λ table. loaded_records store table records) found (Err UnknownName)))
named-ascends store is found records =
    unless is OutOfOrder (option_map_or (λ table. loaded_records store table records) found (Err UnknownName))
    (where-some (λ table. loaded_records store table records) found UnknownName (λ table. records-ascend store table records))

load-ascends : (store : Store) (name : List ℕ) (header : Bool) (block : List ℕ) → Ascends (load_change store name header block)
unfolding load_change
load-ascends store name header block = named-ascends store (is_none store.schema.fact) (table_named store.schema name) _

delete-ascends : (store : Store) (condition : Option Test) → Ascends (delete_change store condition)
delete-ascends store condition =
    unless (is_none store.schema.fact) OutOfOrder (Ok (Ended (positions_of condition store.versions))) (positions-ascend condition store.versions)

committed-ascends : (store : Store) (found : Result Change Refusal) → Ascends found → ChangeAscends (committed store found)
committed-ascends store (Ok change) ascends = ascends
committed-ascends store (Err reason) ascends = tt

deleted-ascends : (store : Store) (condition : Result (Option Test) Refusal) → ChangeAscends (deleted store condition)
deleted-ascends store (Ok condition) = committed-ascends store (delete_change store condition) (delete-ascends store condition)
deleted-ascends store (Err reason) = tt

selected-ascends : (store : Store) (found : Result Query Refusal) → ChangeAscends (selected store found)
selected-ascends store (Ok query) = tt
selected-ascends store (Err reason) = tt

dimension-ascends : (name : List ℕ) (found : Result TableDef Refusal) → ChangeAscends (declared DimensionDeclared name found)
dimension-ascends name (Ok table) = tt
dimension-ascends name (Err reason) = tt

fact-ascends : (name : List ℕ) (found : Result TableDef Refusal) → ChangeAscends (declared FactDeclared name found)
fact-ascends name (Ok table) = tt
fact-ascends name (Err reason) = tt

behind-test : (is : Bool) (found : Outcome) → ChangeAscends found → ChangeAscends (cond {A = Outcome} is (refused OutOfOrder) found)
behind-test true found ascends = tt
behind-test false found ascends = ascends

meaning-ascends : (store : Store) (block : Block) (meaning : written.Statement) → ChangeAscends (meaning_outcome store block meaning)
meaning-ascends store block (written.Dimension name columns) =
    dimension-ascends name (declared_dimension store.schema (declared_table store.schema (written.Dimension name columns)))
meaning-ascends store block (written.Fact name columns) =
    fact-ascends name (declared_fact store.schema (declared_table store.schema (written.Fact name columns)))
meaning-ascends store block (written.Load name header) =
    committed-ascends store (load_change store name header (block_bytes block)) (load-ascends store name header (block_bytes block))
meaning-ascends store block (written.Delete name condition) =
    let bound = bound_delete store.schema name (where_conjuncts condition) in
    behind-test (is_none store.schema.fact) (deleted store bound) (deleted-ascends store bound)
meaning-ascends store block (written.Select items names condition groups) =
    let bound = bound_select store.schema (select_of items names condition groups) in
    behind-test (is_none store.schema.fact) (selected store bound) (selected-ascends store bound)
meaning-ascends store block written.Wait = tt

by-meaning : (store : Store) (block : Block) (meaning : Result written.Statement Refusal) → ChangeAscends (outcome_by store block meaning)
by-meaning store block (Ok meaning) = meaning-ascends store block meaning
by-meaning store block (Err reason) = tt

pub outcome-ascends : (store : Store) (statement : Statement) → ChangeAscends (outcome_of store statement)
unfolding outcome_of
outcome-ascends store statement = by-meaning store statement.block (meaning_of statement)
