-- What holds of filters, batches and hands in every core.
use Rattle.std.specs.Prelude.{◌≡◌, ◌≢◌, ℕ, ◌+◌, ◌*◌, ◌<◌, ◌≤◌, ◌↔◌, ◌&&◌, Bool, true, false, if◌then◌else◌, List, length, All, AllPairs, Contains, IfSome, IsTrue, slice_get, slice_index_or}
use Rattle.std.specs.List.{list_all, range_with_len}
use Rattle.bit_words.specs.Sets.{Has}
use Rattle.star_plan.specs.Joined.{takes, takes_at}
use Rattle.star_plan.specs.Over.{is_named}
use Rattle.star_plan.specs.Test.{Query}
use Rattle.star_plan.specs.Truth.{passes}
use Rattle.dimension_rows.specs.declared.dimension_row.DimensionRow.{DimensionRow}
use Rattle.fact_versions.specs.Visible.{is_visible}
use Rattle.query_meaning.specs.Alone.{joined}
use Rattle.query_meaning.specs.Store.{PlainVersion, Store, rows_in}
use Rattle.batch_flow.specs.Rows.{key_place}
use Rattle.batch_flow.specs.declared.batch.TheConstants.{KEYS_IN_A_ROW}
use Rattle.pipeline_manager.specs.Lives.{Lives, extent_in, life_of, slot_at}
use Rattle.pipeline_manager.specs.declared.life.Life.{Life}
use Rattle.pipeline_manager.specs.declared.life.Life.TheVariants as life
use Rattle.pipeline_manager.specs.declared.life.SlotState.{SlotState}
use Rattle.pipeline_manager.specs.declared.life.SlotState.TheVariants.{Free, Held, Clearing}
use Rattle.dimension_filter.specs.Filter as table
use Rattle.dimension_filter.specs.Filter.{AreAscending, Filter, is_stored, vector_of}
use Rattle.core_state.specs.Admitting.{selection_in}
use Rattle.core_state.specs.Cutting.{slots_of}
use Rattle.core_state.specs.Found.{accepted_at, has_passed, is_on_roster}
use Rattle.core_state.specs.State.{Accepted, Flight, Hand, OnRoster}
use Rattle.core_state.specs.Tables.{key_number}

-- a filter has a query in a slot: each row that came by the snapshot has the slot where the query
-- takes it, and the complement has it where the query does not name the dimension
pub record Encodes (filter : Filter) (slot : ℕ) (query : Query) (snapshot : ℕ)
    (rows : List DimensionRow) : Type 0 where
  pub taken : (key : ℕ) → IfSome (slice_get rows key) (λ entry. entry.commit ≤ snapshot →
      Has (vector_of filter key) slot
      ↔ IsTrue (takes (selection_in query filter.dimension) entry.row))
  pub others : Has filter.complement slot ↔ (is_named (selection_in query filter.dimension) ≡ false)

-- no row has a slot in a filter
pub record IsClearOf (filter : Filter) (slot : ℕ) : Type 0 where
  pub rows : (key : ℕ) → ¬ (Has (vector_of filter key) slot)
  pub others : ¬ (Has filter.complement slot)

-- what a slot in this state has in a filter: the query for which the filter is built, and else
-- nothing; what is still to be cleared may be anything
abbrev pub FitsSlot : List Accepted → Store → Filter → (slot : ℕ) → SlotState → Type 0
FitsSlot accepted store filter slot Free = IsClearOf filter slot
FitsSlot accepted store filter slot (Held query built) =
    (Has built filter.dimension → IfSome (accepted_at accepted query)
    (λ asked. Encodes filter slot asked.query asked.snapshot
    (rows_in store.dimensions filter.dimension)))
    × (¬ (Has built filter.dimension) → IsClearOf filter slot)
FitsSlot accepted store filter slot (Clearing left) =
    ¬ (Has left filter.dimension) → IsClearOf filter slot

-- the present version of a filter: it is one, its rows are stored ascending, it has what each slot
-- asks for, nothing at other slots, and stores rows of its dimension alone
pub record IsSoundFilter (accepted : List Accepted) (store : Store) (holders : List SlotState)
    (filters : ℕ) (filter : Filter) : Type 0 where
  pub table : table.IsFilterTable filter
  pub ascending : AreAscending filter.stored
  pub is_filter : Has filters filter.dimension
  pub slots : (slot : ℕ) → slot < length holders
      → FitsSlot accepted store filter slot (slice_index_or holders slot Free)
  pub beyond : (slot : ℕ) → length holders ≤ slot → IsClearOf filter slot
  pub within : (key : ℕ) → IsTrue (is_stored filter key)
      → key < length (rows_in store.dimensions filter.dimension)

-- a query that is on a roster has no later life than these
abbrev pub MayBeOnRoster : Life → Type 0
MayBeOnRoster life.Waiting = ⊥
MayBeOnRoster life.Building = ⊥
MayBeOnRoster life.Answered = ⊥
MayBeOnRoster other = Unit {0}

-- a slot on a roster is held by its query, which is as the core has it, with its extent, and
-- every filter is built for it
pub record IsOnRoster (lives : Lives) (accepted : List Accepted) (entry : OnRoster) : Type 0 where
  pub there : entry.slot < length lives.slots
  pub held : (built : ℕ) × (slot_at lives entry.slot ≡ Held entry.number built)
      × ((dimension : ℕ) → Has lives.filters dimension → Has built dimension)
  pub life : IfSome (life_of lives entry.number) MayBeOnRoster
  pub same : IfSome (accepted_at accepted entry.number)
      (λ asked. (asked.query ≡ entry.query) × (asked.snapshot ≡ entry.snapshot))
  pub extent : extent_in lives.queries entry.number ≡ entry.extent

-- whether a query keeps a version as far as a batch has passed filters: it sees the
-- version, its condition on the fact table holds, and it takes the row of each dimension
-- whose filter the batch passed
abbrev pub keeps_so_far : Store → Flight → OnRoster → PlainVersion → Bool
keeps_so_far store flight entry version =
    let row = joined store entry.query entry.snapshot version.row in
    is_visible version.begin version.end entry.snapshot && (passes entry.query.fact version.row
    && list_all (λ dimension.
    if has_passed flight dimension then takes_at entry.query row dimension else true)
    (range_with_len 0 (length store.schema.dimensions)))

-- the bits and keys of a row of a batch are what the queries on its roster say of its version
pub record IsSoundRow (filters : ℕ) (store : Store) (flight : Flight) (row : ℕ)
    (version : PlainVersion) : Type 0 where
  pub keys : (dimension : ℕ) → Has filters dimension
      → slice_index_or flight.rows.keys (key_place row dimension) 0
      ≡ key_number store version.row dimension
  pub bits : (entry : OnRoster) → Contains flight.roster entry →
      Has (slice_index_or flight.rows.bits row 0) entry.slot
      ↔ IsTrue (keeps_so_far store flight entry version)
  pub others : (slot : ℕ) → Has (slice_index_or flight.rows.bits row 0) slot
      → IsTrue (is_on_roster slot flight)

-- a batch in flight: its positions are in the table, its roster is that of its
-- slots, and its rows are sound
pub record IsSoundBatch (words : ℕ) (store : Store) (lives : Lives) (accepted : List Accepted)
    (flight : Flight) : Type 0 where
  pub within : flight.rows.first + flight.rows.count ≤ length store.versions
  pub bits : length flight.rows.bits ≡ flight.rows.count
  pub keys : length flight.rows.keys ≡ flight.rows.count * KEYS_IN_A_ROW
  pub room : flight.rows.room ≡ words
  pub roster : All (IsOnRoster lives accepted) flight.roster
  pub slots : flight.rows.roster ≡ slots_of flight.roster
  pub rows : (row : ℕ) → row < flight.rows.count →
      IfSome (slice_get store.versions (flight.rows.first + row))
      (IsSoundRow lives.filters store flight row)

-- a version that a batch is to pass: the batch did not pass this filter, and the version has every
-- query on the batch's roster, whatever became of the filter since
pub record IsSoundTask (filters : ℕ) (store : Store) (flight : Flight)
    (filter : Filter) : Type 0 where
  pub table : table.IsFilterTable filter
  pub is_filter : Has filters filter.dimension
  pub not_passed : has_passed flight filter.dimension ≡ false
  pub encodes : All (λ entry. Encodes filter entry.slot entry.query entry.snapshot
      (rows_in store.dimensions filter.dimension)) flight.roster

-- what a worker holds: versions that its batch is to pass, of each filter one at most
pub record IsSoundHand (seats filters : ℕ) (store : Store) (flight : Flight)
    (hand : Hand) : Type 0 where
  pub seat : hand.worker < seats
  pub each : All (λ version. IsSoundTask filters store flight version.filter) hand.versions
  pub apart : AllPairs (λ version other. version.filter.dimension ≢ other.filter.dimension)
      hand.versions
