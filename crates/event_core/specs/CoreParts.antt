-- The parts of a core as its code holds them.
use Rattle.std.specs.Prelude.{◌≡◌, ◌≢◌, ℕ, Bool, Contains, IfSome, List, [], Option, None, Some, false, filter_map, if◌then◌else◌, is_some, map, option_map, replicate, slice_index_or}
use Rattle.std.specs.List.{list_any}
use Rattle.bit_words.specs.Sets.{Has}
use Rattle.star_values.specs.Roomy.{Roomy}
use Rattle.query_meaning.specs.Keyed.{KeyedStore}
use Rattle.frame_pool.specs.Stock.{Stock}
use Rattle.pipeline_manager.specs.Lives.{Lives}
use Rattle.continuous_scan.specs.Scanning.{Scanning}
use Rattle.aggregations.specs.Grouped.{Grouped}
use Rattle.shared_distributor.specs.Shared.{Lending, SharedGroups}
use Rattle.core_state.specs.State as state
use Rattle.core_state.specs.declared.settings.RunSettings.{RunSettings}
use Rattle.core_parts.specs.Asked.{AskedQueries, AskedQuery}
use Rattle.core_parts.specs.InFlight.{passed_through}
use Rattle.core_parts.specs.Lent.{Flight, lent_to}
use Rattle.event_core.specs.declared.logged.Logged.{Logged}
use Rattle.event_core.specs.declared.marks.Marks.{Marks}
use Rattle.core_parts.specs.declared.submitted.Submitted.{Submitted}

-- the settings, the tables with a log of the kinds of their changes, the statements of each seat,
-- the accepted queries, their lives, the filters, the scan and what it gives rows to, the groups at
-- the slots, what of them went out with each seat, the batches in flight, the free frames, how many
-- positions were cut, the last numbers given, and the marks, which are no part of the state
pub record CoreParts : Type 0 where
  pub settings : RunSettings
  pub tables : KeyedStore
  pub log : List Logged
  pub seats : List (List Submitted)
  pub asked : List AskedQuery
  pub lives : Lives
  pub filters : state.Filters
  pub scan : Scanning
  pub attached : List (Option Grouped)
  pub out : List (Option Lending)
  pub flights : List Flight
  pub pool : Stock
  pub cut : ℕ
  pub numbers : state.Numbers
  pub marks : Marks

-- the parts, of which some have room for more
abbrev pub parts_by : RunSettings → KeyedStore → List Logged → List (Roomy Submitted) → AskedQueries
    → Lives → state.Filters
    → Scanning → SharedGroups → Roomy Flight → Stock → (cut statement batch version : ℕ) → Marks
    → CoreParts
parts_by settings tables log seats asked lives filters scan
    groups flights pool cut statement batch version marks =
    record {
      settings = settings;
      tables = tables;
      log = log;
      seats = map (λ seat. seat.items) seats;
      asked = asked.items;
      lives = lives;
      filters = filters;
      scan = scan;
      attached = groups.attached;
      out = groups.out;
      flights = flights.items;
      pool = pool;
      cut = cut;
      numbers = record { statement = statement; batch = batch; version = version };
      marks = marks;
    }

-- a batch that is lent, as far as what is lent beside it rests on it: to whom, its roster, and the
-- filters that it will have passed
pub record LentBatch : Type 0 where
  pub worker : ℕ
  pub roster : ℕ
  pub passes : ℕ

-- what no event changes while groups of some seat are out: the tables, and the set of the filters
pub record Fixed : Type 0 where
  pub tables : KeyedStore
  pub filters : ℕ

-- what is beside the state: the workers to which batches are lent, these batches, what went out
-- with each seat, what stays as it is meanwhile, and the marks
pub record Beside : Type 0 where
  pub lent : List ℕ
  pub batches : List LentBatch
  pub out : List (Option Lending)
  pub fixed : Option Fixed
  pub marks : Marks

-- what rests on a batch, if it is lent: whose hand it is in, its roster, and the filters
-- that it will have passed
abbrev pub lent_as : Flight → Option LentBatch
lent_as flight = if flight.lent then option_map (λ hand. record {
  worker = hand.worker;
  roster = flight.batch.roster;
  passes = (passed_through hand.versions flight.batch).passed;
}) flight.hand else None

-- the batches that are lent
abbrev pub lent_batches : List Flight → List LentBatch
lent_batches flights = filter_map lent_as flights

-- whether the groups of some seat are out
abbrev pub is_any_out : List (Option Lending) → Bool
is_any_out out = list_any is_some out

-- what stays as it is while something is out, and `None` where nothing is
abbrev pub fixed_by : List (Option Lending) → KeyedStore → (filters : ℕ) → Option Fixed
fixed_by out tables filters =
    if is_any_out out then Some (record { tables = tables; filters = filters }) else None

-- what is beside the state of these parts
abbrev pub beside_of : CoreParts → Beside
beside_of parts = record {
  lent = lent_to parts.flights;
  batches = lent_batches parts.flights;
  out = parts.out;
  fixed = fixed_by parts.out parts.tables parts.lives.filters;
  marks = parts.marks;
}

-- what is out with a seat rests on a batch that is lent to it: it has the slots of its roster, and
-- the batch will have passed every filter
pub record IsBackedBy (seat : ℕ) (lending : Lending) (fixed : Option Fixed)
    (batch : LentBatch) : Type 0 where
  pub own : batch.worker ≡ seat
  pub slots : lending.slots ≡ batch.roster
  pub filters : IfSome fixed
      (λ them. (dimension : ℕ) → Has them.filters dimension → Has batch.passes dimension)

-- there is such a batch
abbrev pub IsBacked : Beside → (seat : ℕ) → Lending → Type 0
IsBacked beside seat lending =
    (batch : LentBatch) × Contains beside.batches batch × IsBackedBy seat lending beside.fixed batch

-- so it is with each seat whose groups are out
abbrev pub AreBacked : Beside → Type 0
AreBacked beside = (seat : ℕ) → IfSome (slice_index_or beside.out seat None) (IsBacked beside seat)

-- what a seat has of the core beside its batch: the groups that went out with it at
-- some slots, and the tables
pub record Loan : Type 0 where
  pub slots : ℕ
  pub groups : List (Option Grouped)
  pub tables : KeyedStore

-- what a seat has of these parts
abbrev pub loan_of : CoreParts → (seat : ℕ) → Option Loan
loan_of parts seat = option_map
    (λ lending. record { slots = lending.slots; groups = lending.groups; tables = parts.tables })
    (slice_index_or parts.out seat None)

-- each seat but one has what it had
abbrev pub LeavesLoans : (seat : ℕ) → (old new : CoreParts) → Type 0
LeavesLoans seat old new = (other : ℕ) → other ≢ seat → loan_of new other ≡ loan_of old other

-- this is out with the seats then, and the tables and the marks are as they were
pub record OutBecomes (lendings : List (Option Lending)) (old new : CoreParts) : Type 0 where
  pub out : new.out ≡ lendings
  pub tables : new.tables ≡ old.tables
  pub marks : new.marks ≡ old.marks

-- the marks of a core before its first event
abbrev pub first_marks : Marks
first_marks = record { closing = false; distributed = 0; waiting = false }

-- before the first event nothing is lent to any of so many seats
abbrev pub first_beside : (seats : ℕ) → Beside
first_beside seats = record {
  lent = [];
  batches = [];
  out = replicate seats None;
  fixed = None;
  marks = first_marks;
}
