-- The small board as plain data.
use Rattle.std.specs.Prelude.{◌≡◌, ℕ, List, [], ◌∷◌, ◌++◌, slice_index}
use mathlib.Core.List.{IsPrefix}
use Rattle.board_lock.specs.declared.seat.BoardSeat.{BoardSeat}
use Rattle.board_lock.specs.declared.view.View.{View}
use Rattle.board_lock.specs.declared.small_board.SmallBoard.{SmallBoard}
use Rattle.board_lock.specs.Seats.{view_of, IsOutside, IsSameSeat}
use Rattle.board_lock.specs.Views.{row_in, list_in}

-- the last statement of a seat, or 0
abbrev pub small_row : SmallBoard → ℕ → ℕ
small_row board seat = slice_index board.last seat

-- all statements in their order
abbrev pub small_entries : SmallBoard → List ℕ
small_entries board = board.entries.items

-- the list goes on from what was seen, and ends with this statement
abbrev pub SubmitsTo : List ℕ → ℕ → List ℕ → Type 0
SubmitsTo seen statement after =
    (front : List ℕ) × IsPrefix seen front × (after ≡ front ++ statement ∷ [])

-- no seat was made or joined
abbrev pub IsSameTeam : {S : Type 0} → View S → View S → Type 0
IsSameTeam before after = (after.made ≡ before.made) × (after.joined ≡ before.joined)

-- the seat is the same, and outside, and no seat was made or joined
pub record ComesOutAgain {S : Type 0} (before after : BoardSeat S) : Type 0 where
  pub same : IsSameSeat before after
  pub outside : IsOutside after
  pub team : IsSameTeam (view_of before) (view_of after)

-- the seat found the statement that it had submitted before, and submitted this one, which stands
-- in its row and ends the list
pub record SubmitsBehind (old new : BoardSeat SmallBoard) (found statement : ℕ) : Type 0 where
  pub before : found ≡ row_in small_row 0 (view_of old).last old.number
  pub row : row_in small_row 0 (view_of new).last new.number ≡ statement
  pub entry : SubmitsTo (list_in small_entries (view_of old).seen) statement
      (list_in small_entries (view_of new).seen)
