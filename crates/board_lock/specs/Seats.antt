-- What contracts say of a lock and its seats: which board a seat is of, whether it is inside, and
-- what it knows.
use Rattle.std.specs.Prelude.{◌≡◌, [], ◌∷◌, true, false, None}
use Rattle.board_lock.specs.declared.seat.BoardLock.{BoardLock}
use Rattle.board_lock.specs.declared.seat.BoardSeat.{BoardSeat}
use Rattle.board_lock.specs.declared.view.View.{View}
use Rattle.board_lock.specs.Views.{split_view}

module _ {S : Type 0} where
  -- what a seat knows
  abbrev pub view_of : BoardSeat S → View S
  view_of seat = seat.seat.me.0

  -- the seat does not have the state
  abbrev pub IsOutside : BoardSeat S → Type 0
  IsOutside seat = ((view_of seat).inside ≡ false) × (seat.seat.me.1 ≡ [])

  -- the seat has the state
  abbrev pub IsInside : BoardSeat S → Type 0
  IsInside seat = ((view_of seat).inside ≡ true) × (seat.seat.me.1 ≡ (0, None) ∷ [])

  -- the same seat of the same lock, whatever it knows
  abbrev pub IsSameSeat : BoardSeat S → BoardSeat S → Type 0
  IsSameSeat before after =
      (after.seat.table_id ≡ before.seat.table_id) × (after.seat.id ≡ before.seat.id)
      × (after.number ≡ before.number)

  -- the first seat made one more, and is the same, inside or outside as it was
  pub record MakesOneMore (before after : BoardSeat S) : Type 0 where
    pub same : IsSameSeat before after
    pub outside : IsOutside before → IsOutside after
    pub inside : IsInside before → IsInside after
    pub made : view_of after ≡ split_view (view_of before)

  -- the seat is one of this board
  abbrev pub IsOf : BoardLock S → BoardSeat S → Type 0
  IsOf board seat = seat.seat.table_id ≡ board.table.shared.table_id
