-- The rows that a load adds to a table, or the first reason that refuses it.
use Rattle.std.specs.Prelude.{ℕ, ◌+◌, Bool, false, ◌||◌, nat_lt, List, length, Option, option_map, Result, Ok, Err, is_none, is_some, if◌then◌else◌}
use Rattle.std.specs.List.{list_any, range_with_len}
use Rattle.std.specs.Option.{option_map_or}
use Rattle.star_values.specs.declared.refusal.Refusal.{Refusal}
use Rattle.star_values.specs.declared.refusal.Refusal.TheVariants.{OutOfOrder, UnknownName, Limit, BadRecord, DuplicateKey, DanglingReference}
use Rattle.star_values.specs.declared.value.Value as cell
use Rattle.star_plan.specs.declared.schema.Schema.{Schema}
use Rattle.star_plan.specs.declared.table.Table.{Table}
use Rattle.star_plan.specs.declared.table.Table.TheVariants.{Fact, Dimension}
use Rattle.star_plan.specs.Columns.{columns_of, kinds_of}
use Rattle.star_plan.specs.Named.{table_named}
use Rattle.star_plan.specs.Repeats.{repeats}
use Rattle.fact_versions.specs.declared.version.TheConstants.{MAX_VERSIONS}
use Rattle.dimension_rows.specs.declared.dimension_row.DimensionRow.{DimensionRow}
use Rattle.dimension_rows.specs.declared.dimension_row.TheConstants.{MAX_DIMENSION_ROWS}
use Rattle.dimension_rows.specs.Keys.{index_of, is_key, key_of}
use Rattle.csv_load.specs.declared.read_once.BlockForm.{BlockForm}
use Rattle.csv_load.specs.Records.{records_in}
use Rattle.csv_load.specs.Rows.{typed_rows}
use Rattle.query_meaning.specs.Alone.{foreign_key}
use Rattle.query_meaning.specs.History.{Change, Loaded}
use Rattle.query_meaning.specs.Store.{Store, rows_in}

-- how many rows a table has, and how many versions the fact table, ended ones included
abbrev pub count_in : Store → Table → ℕ
count_in store Fact = length store.versions
count_in store (Dimension dimension) = length (rows_in store.dimensions dimension)

-- how many rows a table may have
abbrev pub most_in : Table → ℕ
most_in Fact = MAX_VERSIONS
most_in (Dimension dimension) = MAX_DIMENSION_ROWS

-- whether two rows have one key
abbrev pub same_key : List cell.Value → List cell.Value → Bool
same_key row other = option_map_or (λ key. is_key key (key_of other)) (key_of row) false

-- whether the key of a row is that of a row of the dimension
abbrev pub is_taken : List DimensionRow → List cell.Value → Bool
is_taken rows row = option_map_or (λ key. is_some (index_of rows key)) (key_of row) false

-- whether a key stands twice among new rows, or is in the dimension
abbrev pub repeats_a_key : List DimensionRow → (new : List (List cell.Value)) → Bool
repeats_a_key rows new = repeats same_key new || list_any (is_taken rows) new

-- whether the foreign key of a row for a dimension is the key of no row there
abbrev pub dangles_at : Schema → List (List DimensionRow) → List cell.Value → (dimension : ℕ) → Bool
dangles_at schema dimensions row dimension =
    option_map_or (λ key. is_none (index_of (rows_in dimensions dimension) key))
    (foreign_key schema dimension row) false

-- whether some foreign key of a row is the key of no row
abbrev pub dangles : Schema → List (List DimensionRow) → List cell.Value → Bool
dangles schema dimensions row =
    list_any (dangles_at schema dimensions row) (range_with_len 0 (length schema.dimensions))

-- rows that fit a table, loaded into it, or the reason that refuses them: in a dimension a key that
-- is not new, in the fact table a foreign key without its row
abbrev pub loaded_rows : Store → Table → List (List cell.Value) → Result Change Refusal
loaded_rows store Fact rows =
    if list_any (dangles store.schema store.dimensions) rows then Err DanglingReference
    else Ok (Loaded Fact rows)
loaded_rows store (Dimension dimension) rows =
    if repeats_a_key (rows_in store.dimensions dimension) rows then Err DuplicateKey else
    Ok (Loaded (Dimension dimension) rows)

-- records loaded into a table, or the first reason that refuses them: there are more than the table
-- has room for, one is no row of the table, or its rows are refused
abbrev pub loaded_records : Store → Table → List (List (List ℕ)) → Result Change Refusal
loaded_records store table records =
    if nat_lt (most_in table) (count_in store table + length records) then Err Limit else
    option_map_or (loaded_rows store table)
    (typed_rows (kinds_of (columns_of store.schema table)) records)
    (Err BadRecord)

-- the change of a load of a block into the table of a name, or the first reason that refuses it
unfoldable pub load_change : Store → (name : List ℕ) → (header : Bool) → (block : List ℕ)
    → Result Change Refusal
load_change store name header block =
    if is_none store.schema.fact then Err OutOfOrder else
    option_map_or (λ table. loaded_records store table (records_in header block))
    (table_named store.schema name)
    (Err UnknownName)

-- the form by which a block is read that is loaded into the table of a name, with a header or
-- without one, where the table is there
abbrev pub load_form : Schema → (name : List ℕ) → (header : Bool) → Option BlockForm
load_form schema name header =
    option_map (λ table. record { header = header; kinds = kinds_of (columns_of schema table) })
    (table_named schema name)
