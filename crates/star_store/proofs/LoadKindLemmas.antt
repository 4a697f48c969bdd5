-- A load that nothing refuses is of the kind that tells its table.
use Rattle.std.proofs.Common.{◌≡◌, ℕ, ◌+◌, Bool, true, false, cond, List, length, Option, Some, None, Result, Ok, Err, refl}
use Rattle.std.specs.Prelude.{is_none, nat_lt}
use Rattle.std.specs.List.{list_any}
use Rattle.std.specs.Option.{option_map_or}
use Rattle.star_values.specs.declared.refusal.Refusal.{Refusal}
use Rattle.star_values.specs.declared.refusal.Refusal.TheVariants.{Limit, BadRecord, DuplicateKey, DanglingReference}
use Rattle.star_values.specs.declared.value.Value as cell
use Rattle.star_plan.specs.declared.table.Table.{Table}
use Rattle.star_plan.specs.declared.table.Table.TheVariants.{Fact, Dimension}
use Rattle.star_plan.specs.Columns.{columns_of, kinds_of}
use Rattle.star_plan.specs.Named.{table_named}
use Rattle.csv_load.specs.Records.{records_in}
use Rattle.csv_load.specs.Rows.{typed_rows}
use Rattle.query_meaning.specs.History.{Change, Loaded}
use Rattle.query_meaning.specs.Store.{Store, rows_in}
use Rattle.star_store.specs.Loads.{count_in, dangles, load_change, loaded_records, loaded_rows, most_in, repeats_a_key}
use Rattle.star_store.proofs.ChangeLemmas.{load_change-found}
use Rattle.star_store.proofs.ApplyLemmas.{IsOfKind}
use Rattle.star_store.specs.declared.applied.ChangeKind.TheVariants.{Loads}

-- a load into a table, where nothing refuses it
abbrev LoadsInto : Table → Result Change Refusal → Type 0
LoadsInto into found = IsOfKind (Loads into) found

unless : (into : Table) (is : Bool) (reason : Refusal) (found : Result Change Refusal) → LoadsInto into found
    → LoadsInto into (cond {A = Result Change Refusal} is (Err reason) found)
unless into true reason found loads = tt
unless into false reason found loads = loads

where_some : {X : Type 0} (into : Table) (f : X → Result Change Refusal) (option : Option X) (reason : Refusal) → ((x : X) → LoadsInto into (f x))
    → LoadsInto into (option_map_or f option (Err reason))
where_some into f None reason loads = tt
where_some into f (Some x) reason loads = loads x

rows_load : (store : Store) (into : Table) (rows : List (List cell.Value)) → LoadsInto into (loaded_rows store into rows)
rows_load store Fact rows =
    unless Fact (list_any (dangles store.schema store.dimensions) rows) DanglingReference (Ok (Loaded Fact rows)) refl
rows_load store (Dimension dimension) rows =
    unless (Dimension dimension) (repeats_a_key (rows_in store.dimensions dimension) rows) DuplicateKey (Ok (Loaded (Dimension dimension) rows)) refl

records_load : (store : Store) (into : Table) (records : List (List (List ℕ))) → LoadsInto into (loaded_records store into records)
records_load store into records =
    let rows = typed_rows (kinds_of (columns_of store.schema into)) records in
    unless into (nat_lt (most_in into) (count_in store into + length records)) Limit (option_map_or (loaded_rows store into) rows (Err BadRecord))
    (where_some into (loaded_rows store into) rows BadRecord (rows_load store into))

-- a load into the table of a name is of the kind that tells this table
pub load_kind : (store : Store) (name : List ℕ) (header : Bool) (block : List ℕ) (into : Table) → is_none store.schema.fact ≡ false
    → table_named store.schema name ≡ Some into → IsOfKind (Loads into) (load_change store name header block)
load_kind store name header block into declared named =
    rw (load_change-found store name header block into declared named) (records_load store into (records_in header block))
