-- The tables of the core, by its history, and the key numbers of fact rows.
use Rattle.std.specs.Prelude.{ℕ, List, length, map}
use Rattle.std.specs.List.{range_with_len}
use Rattle.star_values.specs.declared.value.Value as cell
use Rattle.batch_flow.specs.declared.batch.TheConstants.{KEYS_IN_A_ROW}
use Rattle.query_meaning.specs.History.{Change, store_of}
use Rattle.query_meaning.specs.Keyed.{number_by_key}
use Rattle.query_meaning.specs.Store.{Store}
use Rattle.core_state.specs.State.{Entry, State}
pub use Rattle.core_parts.specs.Filtered.{filter_dimensions}

-- the changes of entries, in their order
abbrev pub changes_of : List Entry → List Change
changes_of entries = map (λ entry. entry.change) entries

-- the tables of a list of entries
abbrev pub tables_by : List Entry → Store
tables_by entries = store_of (changes_of entries)

-- the tables of the core
abbrev pub tables_of : State → Store
tables_of state = tables_by state.entries

-- how many versions the fact table has
abbrev pub versions_in : State → ℕ
versions_in state = length (tables_of state).versions

-- the key number of a fact row for a dimension: the place of the row with its foreign
-- key, and 0 where it has none
abbrev pub key_number : Store → List cell.Value → (dimension : ℕ) → ℕ
key_number store = number_by_key store.schema store.dimensions

-- the key numbers of a fact row, one for each dimension that there may be
abbrev pub key_numbers : Store → List cell.Value → List ℕ
key_numbers store row = map (key_number store row) (range_with_len 0 KEYS_IN_A_ROW)
