-- What a core is to the lock that lends it: a row for each seat, the entries of its
-- history, and its settings.
use Rattle.std.specs.Prelude.{ℕ, List, Option, None}
use Rattle.core_state.specs.Rows.{SeatRow, empty_row, row_of}
use Rattle.core_state.specs.State.{Entry}
use Rattle.core_state.specs.declared.settings.RunSettings.{RunSettings}
use Rattle.event_core.specs.CoreParts.{CoreParts, Loan, loan_of}
use Rattle.event_core.specs.Seen.{state_of}

-- what stands in a core for a seat: its row, and what it has of the core beside its batch
pub record CoreRow : Type 0 where
  pub row : SeatRow
  pub loan : Option Loan

-- what stands in a core for a seat
abbrev pub core_row : CoreParts → (seat : ℕ) → CoreRow
core_row core seat = record { row = row_of (state_of core) seat; loan = loan_of core seat }

-- what stands for a seat that has done nothing yet
abbrev pub first_row : CoreRow
first_row = record { row = empty_row; loan = None }

-- the changes that were accepted, in order
abbrev pub core_entries : CoreParts → List Entry
core_entries core = (state_of core).entries

-- what never changes of a core
abbrev pub core_settings : CoreParts → RunSettings
core_settings core = (state_of core).settings
