-- What becomes of the parts at each event.
use Rattle.std.specs.Prelude.{ℕ, ◌+◌, ◌-◌, ◌*◌, ◌==◌, if◌then◌else◌, List, [], ◌∷◌, ◌++◌, drop, fold, length, replicate, slice_index_or, slice_set, take, Option, Some, None, false}
use Rattle.bit_words.specs.Sets.{with_number}
use Rattle.star_values.specs.Roomy.{Roomy}
use Rattle.dimension_rows.specs.declared.dimension_row.DimensionRow.{DimensionRow}
use Rattle.query_meaning.specs.Keyed.{KeyedStore}
use Rattle.star_store.specs.declared.applied.ChangeKind.{ChangeKind}
use Rattle.star_store.specs.declared.applied.ChangeKind.TheVariants.{DeclaresFact}
use Rattle.pipeline_manager.specs.Changes.{after_abandon, after_built, after_cleared, after_cut, after_end, after_free, after_reserve, after_run, after_spoil, after_submit}
use Rattle.pipeline_manager.specs.Lives.{extent_in}
use Rattle.pipeline_manager.specs.declared.life.SlotState.TheVariants.{Free}
use Rattle.continuous_scan.specs.Range.{new_scan}
use Rattle.continuous_scan.specs.Range as scanned
use Rattle.continuous_scan.specs.Stamped.{batch_of}
use Rattle.distributor.specs.Folded.{after_batch}
use Rattle.aggregations.specs.Grouped.{Grouped}
use Rattle.core_state.specs.Cutting.{order_by, tallies_through}
use Rattle.core_state.specs.Handed.{detached_for}
use Rattle.core_state.specs.Numbered.{counted, last_after}
use Rattle.core_state.specs.Scanned.{stopped_for}
use Rattle.core_state.specs.Settings.{frames_of}
use Rattle.core_state.specs.State as state
use Rattle.core_state.specs.declared.settings.RunSettings.{RunSettings}
use Rattle.core_state.specs.Tables.{filter_dimensions}
use Rattle.core_parts.specs.Lent.{Flight}
use Rattle.event_core.specs.declared.logged.Logged.{Logged}
use Rattle.core_parts.specs.declared.submitted.Submitted.{Submitted}
use Rattle.core_parts.specs.Asked.{AskedQuery, with_kept_at}
use Rattle.core_parts.specs.Filters.{first_filters, no_filters, with_new}
use Rattle.core_parts.specs.Flights.{passed_in}
use Rattle.event_core.specs.CoreParts.{CoreParts, first_marks}

-- `reserve`
abbrev pub reserved : (slot : ℕ) → CoreParts → CoreParts
reserved slot parts = record parts { lives = after_reserve slot parts.lives }

-- `build`, with the next version
abbrev pub built : (query dimension : ℕ) → state.FilterVersion → CoreParts → CoreParts
built query dimension version parts = record parts {
  filters = with_new version parts.filters;
  lives = after_built query dimension parts.lives;
  numbers = record parts.numbers { version = last_after parts.numbers.version };
}

-- `build` of a query that finds no memory
abbrev pub unbuilt : (query : ℕ) → CoreParts → CoreParts
unbuilt query parts = record parts {
  asked = with_kept_at query None parts.asked;
  lives = after_spoil query parts.lives;
}

-- the scan with a query in a slot, where it has a position to come
abbrev pub scan_with : (slot extent : ℕ) → AskedQuery → CoreParts → CoreParts
scan_with slot extent asked parts = if extent == 0 then parts else record parts {
  scan =
      scanned.after_start slot asked.query asked.snapshot extent
      (length parts.tables.versions) parts.scan;
}

-- `start` of a query in its slot, with the groups that are kept for it
abbrev pub started : (query slot : ℕ) → AskedQuery → Grouped → CoreParts → CoreParts
started query slot asked groups parts =
    let extent = extent_in parts.lives.queries query in
    let start = scanned.first_of parts.scan.position (length parts.tables.versions) in
    record (scan_with slot extent asked parts) {
      asked = with_kept_at query None parts.asked;
      attached = slice_set parts.attached slot (Some groups);
      lives = after_run query start parts.lives;
    }

-- `cut` into a frame that was taken from the pool
abbrev pub cut_into : (holders frame : List ℕ) → (inside : List (List ℕ)) → (number : ℕ) → CoreParts
    → CoreParts
cut_into holders frame inside number parts =
    let versions = parts.tables.versions in
    let size = parts.settings.batch in
    let first = scanned.first_in (length versions) parts.scan in
    let end = scanned.end_in (length versions) size parts.scan in
    record parts {
      lives = after_cut first (end - 1) parts.lives;
      scan = scanned.after_cut (length versions) size parts.scan;
      flights = parts.flights ++ record {
        batch = batch_of size number (length frame) parts.scan versions;
        holders = holders;
        hand = None;
        lent = false;
      } ∷ [];
      pool = record parts.pool { inside = inside };
      cut = counted parts.cut (end - first);
      numbers = record parts.numbers { batch = last_after parts.numbers.batch };
    }

-- the batches in flight, with another at a place
abbrev pub with_flight_at : (place : ℕ) → Flight → CoreParts → CoreParts
with_flight_at place flight parts = record parts { flights = slice_set parts.flights place flight }

-- the batch at a place in a worker's hand, with these versions: `take` with one,
-- `carry` with all that are left
abbrev pub taken : (place worker : ℕ) → Flight → List state.FilterVersion → CoreParts → CoreParts
taken place worker flight versions parts =
    with_flight_at place
    (record flight { hand = Some (record { worker = worker; versions = versions }) }) parts

-- `give` of the batch at a place, which is in a hand
abbrev pub given : (place : ℕ) → Flight → state.Hand → CoreParts → CoreParts
given place flight hand parts = record parts {
  flights = slice_set parts.flights place (passed_in hand flight);
  filters = record parts.filters {
    tallies =
        tallies_through hand.versions flight.batch parts.filters.versions parts.filters.tallies;
  };
}

-- the members of a list without that at a place
abbrev pub without_place : {A : Type 0} → (place : ℕ) → List A → List A
without_place place list = take place list ++ drop (place + 1) list

-- `distribute` of the batch at a place, where the queries in these slots, of
-- these numbers, find no memory
abbrev pub distributed : (place : ℕ) → Flight → (dims : List (Roomy DimensionRow)) → (slots : ℕ)
    → (spoiled frame : List ℕ) → CoreParts → CoreParts
distributed place flight dims slots spoiled frame parts = record parts {
  attached = after_batch dims flight.batch parts.tables.versions slots parts.attached;
  lives = fold (λ lives query. after_spoil query lives) parts.lives spoiled;
  scan = fold (λ now query. stopped_for parts.lives query now) parts.scan spoiled;
  flights = without_place place parts.flights;
  pool = record parts.pool { inside = parts.pool.inside ++ frame ∷ [] };
}

-- `finish` of a slot whose query keeps this of its rows
abbrev pub finished : (slot query : ℕ) → (kept : Option Grouped) → CoreParts → CoreParts
finished slot query kept parts = record parts {
  asked = with_kept_at query kept parts.asked;
  attached = slice_set parts.attached slot None;
  lives = after_end slot parts.lives;
}

-- `clear`, with the next version
abbrev pub cleared : (slot dimension : ℕ) → state.FilterVersion → CoreParts → CoreParts
cleared slot dimension version parts = record parts {
  filters = with_new version parts.filters;
  lives = after_cleared slot dimension parts.lives;
  numbers = record parts.numbers { version = last_after parts.numbers.version };
}

-- `release`
abbrev pub released : (slot : ℕ) → CoreParts → CoreParts
released slot parts = record parts { lives = after_free slot parts.lives }

-- `reorder`
abbrev pub reordered : CoreParts → CoreParts
reordered parts = record parts { filters = record parts.filters { order = order_by parts.filters } }

-- `abandon` of a query, whose seat has these statements left
abbrev pub abandoned : (query seat : ℕ) → List Submitted → CoreParts → CoreParts
abandoned query seat statements parts = record parts {
  seats = slice_set parts.seats seat statements;
  asked = with_kept_at query None parts.asked;
  attached = detached_for parts.lives query parts.attached;
  scan = stopped_for parts.lives query parts.scan;
  lives = after_abandon query parts.lives;
}

-- a seat has these statements, and a statement of this number was the last
abbrev pub submitted : (seat statement : ℕ) → List Submitted → CoreParts → CoreParts
submitted seat statement statements parts = record parts {
  seats = slice_set parts.seats seat statements;
  numbers = record parts.numbers { statement = statement };
}

-- the tables after a change, which is logged
abbrev pub logged : Logged → KeyedStore → CoreParts → CoreParts
logged entry tables parts = record parts { tables = tables; log = parts.log ++ entry ∷ [] }

-- filters for each of these dimensions, of which no row was asked
abbrev pub with_first_filters : (dimensions : List ℕ) → CoreParts → CoreParts
with_first_filters dimensions parts = record parts {
  lives = record parts.lives { filters = fold with_number 0 dimensions };
  filters = first_filters dimensions;
  numbers = record parts.numbers { version = length dimensions };
}

-- the filters that a change of this kind asks for
abbrev pub with_filters_for : ChangeKind → CoreParts → CoreParts
with_filters_for DeclaresFact parts =
    with_first_filters (filter_dimensions parts.tables.schema) parts
with_filters_for other parts = parts

-- `submit` of a statement that changes the tables
abbrev pub changed : (seat statement : ℕ) → List Submitted → ChangeKind → KeyedStore → CoreParts
    → CoreParts
changed seat statement statements kind tables parts =
    with_filters_for kind
    (logged (record { seat = seat; statement = statement; kind = kind }) tables
    (submitted seat statement statements parts))

-- `submit` of a query that is accepted
abbrev pub accepted : (seat statement : ℕ) → List Submitted → AskedQuery → CoreParts → CoreParts
accepted seat statement statements asked parts =
    record (submitted seat statement statements parts) {
      asked = parts.asked ++ asked ∷ [];
      lives = after_submit statement (length parts.tables.versions) parts.lives;
    }

-- the statements of a seat by its number
abbrev pub statements_at : List (List Submitted) → (seat : ℕ) → List Submitted
statements_at seats seat = slice_index_or seats seat []

-- a reply is taken by a seat, which has these statements left, and nothing is kept
-- beside the query of a number
abbrev pub forgotten_at : (seat query : ℕ) → List Submitted → CoreParts → CoreParts
forgotten_at seat query statements parts = record parts {
  seats = slice_set parts.seats seat statements;
  asked = with_kept_at query None parts.asked;
}

-- `finish` of a slot whose query has no answer
abbrev pub unheld : (slot : ℕ) → CoreParts → CoreParts
unheld slot parts =
    record parts {
      attached = slice_set parts.attached slot None;
      lives = after_end slot parts.lives;
    }

-- the parts of a core before its first event
abbrev pub first_parts : RunSettings → KeyedStore → (inside : List (List ℕ)) → CoreParts
first_parts settings tables inside = record {
  settings = settings;
  tables = tables;
  log = [];
  seats = replicate settings.seats [];
  asked = [];
  lives = record { queries = []; slots = replicate settings.slots Free; filters = 0 };
  filters = no_filters;
  scan = new_scan settings.slots;
  attached = replicate settings.slots None;
  out = replicate settings.seats None;
  flights = [];
  pool = record { made = frames_of settings; words = 16 + settings.batch * 16; inside = inside };
  cut = 0;
  numbers = record { statement = 0; batch = 0; version = 0 };
  marks = first_marks;
}
