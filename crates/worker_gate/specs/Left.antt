-- What the calls of a worker leave of what seats know of a core.
use Rattle.std.specs.Prelude.{◌≡◌, ◌≢◌, ℕ}
use Rattle.core_state.specs.Rows.{row_of}
use Rattle.core_state.specs.State.{State}
use Rattle.event_core.specs.CoreParts.{CoreParts, loan_of}

-- no row has changed, and no entry came
pub record LeavesRows (old new : State) : Type 0 where
  pub rows : (seat : ℕ) → row_of new seat ≡ row_of old seat
  pub entries : new.entries ≡ old.entries
  pub settings : new.settings ≡ old.settings

-- no row has changed but for the hand of a worker, and no entry came
pub record MovesHand (worker : ℕ) (old new : State) : Type 0 where
  pub others : (other : ℕ) → other ≢ worker → row_of new other ≡ row_of old other
  pub own : row_of new worker ≡ record (row_of old worker) { hand = (row_of new worker).hand }
  pub entries : new.entries ≡ old.entries
  pub settings : new.settings ≡ old.settings

-- each seat has what it had beside its batch
abbrev pub LeavesAllLoans : (old new : CoreParts) → Type 0
LeavesAllLoans old new = (seat : ℕ) → loan_of new seat ≡ loan_of old seat
