-- What holds of the parts of every core.
use Rattle.std.specs.Prelude.{◌≡◌, ◌≢◌, ℕ, ◌+◌, ◌-◌, ◌*◌, ◌<◌, ◌≤◌, List, [], length, filter_map, slice_index_or, All, None, IsSome, IsTrue, true, ◌==◌, if◌then◌else◌}
use Rattle.std.specs.Int.{bit_at}
use Rattle.std.specs.List.{range_with_len}
use Rattle.std.specs.Option.{option_map_or}
use Rattle.star_values.specs.Roomy.{Roomy}
use Rattle.batch_flow.specs.declared.batch.TheConstants.{KEYS_IN_A_ROW}
use Rattle.fact_versions.specs.declared.version.Version.{Version}
use Rattle.frame_pool.specs.Stock.{Stock}
use Rattle.pipeline_manager.specs.Conditions as managed
use Rattle.pipeline_manager.specs.Lives.{Lives, slot_at}
use Rattle.continuous_scan.specs.Calls.{CanCut}
use Rattle.continuous_scan.specs.Range.{end_in, first_in, some_run}
use Rattle.continuous_scan.specs.Scanning.{Scanning}
use Rattle.continuous_scan.specs.Stamped.{CanTestAll}
use Rattle.core_state.specs.Cutting.{frame_words}
use Rattle.core_state.specs.Found.{holder_of}
use Rattle.core_state.specs.Handed.{attached_to}
use Rattle.core_state.specs.Scanned.{AreTablesOf, IsScannedAs}
use Rattle.core_state.specs.Settings.{frames_of}
use Rattle.core_state.specs.Sound.{IsSound}
use Rattle.core_state.specs.State.{State}
use Rattle.core_state.specs.declared.settings.RunSettings.{RunSettings}
use Rattle.core_parts.specs.Asked.{AskedEntry, AskedQueries}
use Rattle.core_parts.specs.Lent.{Flight}
use Rattle.event_core.specs.CoreParts.{CoreParts}
use Rattle.event_core.specs.Seen.{attached_for, state_of}

-- the state is sound, and the parts fit it: the tables are those of its history; the scan has what
-- runs; at the slots the groups of the queries that get rows are attached, and then nothing is kept
-- beside; and the frames are as many and as long as the settings say
pub record IsCore (parts : CoreParts) : Type 0 where
  pub sound : IsSound (state_of parts)
  pub tables : AreTablesOf (state_of parts) parts.tables
  pub scanned : IsScannedAs (state_of parts) parts.scan
  pub attached : parts.attached ≡ attached_to (state_of parts)
  pub beside : All (λ asked.
      IsSome (attached_for parts.lives parts.attached asked.number) → asked.kept ≡ None)
      parts.asked
  pub frames : parts.pool.made ≡ frames_of parts.settings
  pub words : parts.pool.words ≡ frame_words (state_of parts)

-- there is room for as many batches in flight as there are frames
abbrev pub HasRoom : RunSettings → Roomy Flight → Type 0
HasRoom settings flights = frames_of settings ≤ length flights.items + flights.room

-- these are the parts of a core whose state is this one
pub record Becomes (parts : CoreParts) (after : State) : Type 0 where
  pub state : state_of parts ≡ after
  pub core : IsCore parts

-- for each slot the number of the query that holds it, and 0 where none does
pub record AreHolders (lives : Lives) (holders : List ℕ) : Type 0 where
  pub count : length lives.slots ≤ length holders
  pub each : (slot : ℕ) → slot < length lives.slots →
      slice_index_or holders slot 0
      ≡ option_map_or (λ number. number) (holder_of (slot_at lives slot)) 0

-- a scan may cut a batch of this size off these versions, into a frame of the pool: one is free,
-- and long enough
pub record CanCutInto (size : ℕ) (versions : List Version) (scan : Scanning)
    (pool : Stock) : Type 0 where
  pub frame : pool.inside ≢ []
  pub room : size * (1 + KEYS_IN_A_ROW) ≤ pool.words
  pub can : CanCut (length versions) size scan
  pub tests : All (CanTestAll scan.running) versions

-- a batch may be cut: the scan may cut it, and the lives of the queries can go on by its positions
pub record CanCutNext (parts : CoreParts) : Type 0 where
  pub into : CanCutInto parts.settings.batch parts.tables.versions parts.scan parts.pool
  pub runs : IsTrue (some_run parts.scan.running)
  pub first : first_in (length parts.tables.versions) parts.scan
      < end_in (length parts.tables.versions) parts.settings.batch parts.scan
  pub last : end_in (length parts.tables.versions) parts.settings.batch parts.scan
      ≤ length parts.tables.versions
  pub lives : managed.CanCutRange (first_in (length parts.tables.versions) parts.scan)
      (end_in (length parts.tables.versions) parts.settings.batch parts.scan - 1) parts.lives
  pub few : length parts.flights < frames_of parts.settings

-- a query may be put after the others that were accepted, and its statement after those of its seat,
-- which is one of so many: it is whole, and its number is new
pub record CanEnter (query : AskedEntry) (seats : ℕ) (lives : Lives) : Type 0 where
  pub there : query.asked.seat < seats
  pub whole : query.whole ≡ true
  pub is_new : managed.IsNew query.asked.number lives

-- which accepted queries were let go, and which were handed on, is left as it was
pub record LeavesPast (old new : AskedQueries) : Type 0 where
  pub gone : new.gone ≡ old.gone
  pub handed : new.handed ≡ old.handed

-- what holds of a core beside its state is left as it was
pub record LeavesRest (old new : CoreParts) : Type 0 where
  pub tables : new.tables ≡ old.tables
  pub scan : new.scan ≡ old.scan
  pub attached : new.attached ≡ old.attached
  pub settings : new.settings ≡ old.settings
  pub made : new.pool.made ≡ old.pool.made
  pub words : new.pool.words ≡ old.pool.words
  pub entries : (state_of new).entries ≡ (state_of old).entries
  pub beside : All (λ asked.
      IsSome (attached_for new.lives new.attached asked.number) → asked.kept ≡ None)
      new.asked

-- the queries that hold the slots of a set, where one does
abbrev pub holders_in : Lives → (slots : ℕ) → List ℕ
holders_in lives slots = filter_map
    (λ slot. if bit_at slots slot == 1 then holder_of (slot_at lives slot) else None)
    (range_with_len 0 (length lives.slots))
