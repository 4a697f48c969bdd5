-- What a seat knows of a core between two times that it has it: its row, and the
-- entries that it has seen.
use Rattle.std.specs.Prelude.{◌≡◌, ◌≢◌, ℕ, ◌==◌, List, [], ◌++◌, All, filter, map, Option, None}
use Rattle.core_state.specs.Found.{held_by}
use Rattle.core_state.specs.State.{Entry, Flight, Pending, State, Taken}
use Rattle.core_state.specs.Submitting.{seat_at}

-- what stands in a core for a seat: the numbers of the statements that it submitted, and of those
-- that made an entry, what it waits for, the replies that it took, and the batch in its hand, whole
pub record SeatRow : Type 0 where
  pub submitted : List ℕ
  pub made : List ℕ
  pub pending : List Pending
  pub taken : List Taken
  pub hand : Option Flight

-- the row of a seat that has done nothing yet
abbrev pub empty_row : SeatRow
empty_row = record { submitted = []; made = []; pending = []; taken = []; hand = None }

-- the numbers of the statements of a seat that made these entries
abbrev pub made_by : (seat : ℕ) → List Entry → List ℕ
made_by seat entries = map (λ entry. entry.statement) (filter (λ entry. entry.seat == seat) entries)

-- the row of a seat
abbrev pub row_of : State → (seat : ℕ) → SeatRow
row_of state seat = record {
  submitted = (seat_at state seat).submitted;
  made = made_by seat state.entries;
  pending = (seat_at state seat).pending;
  taken = (seat_at state seat).taken;
  hand = held_by state.scan.flights seat;
}

-- a row, and the entries that were seen with it
pub record Sight : Type 0 where
  pub row : SeatRow
  pub seen : List Entry

-- what a seat sees of a core
abbrev pub sight_of : State → (seat : ℕ) → Sight
sight_of state seat = record { row = row_of state seat; seen = state.entries }

-- from a core that a seat has to one that it may leave to others: each other row is as it was, and
-- its own are the entries that came
pub record IsMindful (seat : ℕ) (old new : State) : Type 0 where
  pub rows : (other : ℕ) → other ≢ seat → row_of new other ≡ row_of old other
  pub since : List Entry
  pub entries : new.entries ≡ old.entries ++ since
  pub own : All (λ entry. entry.seat ≡ seat) since
  pub settings : new.settings ≡ old.settings

-- of what a seat sees all is as it was but what it waits for
pub record AbandonsRow (old new : Sight) : Type 0 where
  pub seen : new.seen ≡ old.seen
  pub submitted : new.row.submitted ≡ old.row.submitted
  pub made : new.row.made ≡ old.row.made
  pub taken : new.row.taken ≡ old.row.taken
  pub hand : new.row.hand ≡ old.row.hand
