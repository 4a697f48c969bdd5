-- What of a core reads its tables, beside its seats: rows that are loaded, and versions that
-- are ended, leave it sound.
use Rattle.std.specs.Prelude.{ℕ, [], ◌∷◌, ◌++◌}
use Rattle.query_meaning.specs.History.{Change, DimensionDeclared, FactDeclared, Loaded, Ended}
use Rattle.core_state.specs.Sound.{AreSoundBatches, AreSoundFilters, AreSoundHands, AreSoundNumbers, AreSoundQueries, AreSoundSlots, IsQuietBefore, IsSoundOrder, IsSoundScan, IsSoundStore}
use Rattle.core_state.specs.State.{State}

-- a change that loads rows or ends versions
abbrev pub IsOfRows : Change → Type 0
IsOfRows (DimensionDeclared table) = ⊥
IsOfRows (FactDeclared table) = ⊥
IsOfRows (Loaded table rows) = Unit {0}
IsOfRows (Ended positions) = Unit {0}

-- the core with one entry more
abbrev pub with_entry : (seat statement : ℕ) → Change → State → State
with_entry seat statement change state =
    record state {
      entries = state.entries
          ++ record { seat = seat; statement = statement; change = change } ∷ [];
    }

-- all of soundness that reads the tables, and nothing of the seats and the numbers of statements
pub record IsSoundBeside (state : State) : Type 0 where
  pub filters : AreSoundFilters state
  pub batches : AreSoundBatches state
  pub hands : AreSoundHands state
  pub queries : AreSoundQueries state
  pub slots : AreSoundSlots state
  pub store : IsSoundStore state
  pub quiet : IsQuietBefore state
  pub numbers : AreSoundNumbers state
  pub scan : IsSoundScan state
  pub order : IsSoundOrder state.filters
