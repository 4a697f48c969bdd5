-- What a worker's seat knows between two turns, and how a worker ends.
use Rattle.std.specs.Prelude.{◌≡◌, ◌<◌, true, IsSomeAnd, Option, None}
use Rattle.core_state.specs.Rows.{Sight}
use Rattle.board_lock.specs.Seats.{IsOf, IsOutside, view_of}
use Rattle.board_lock.specs.Views.{fixed_in, list_in, row_in}
use Rattle.board_lock.specs.declared.seat.BoardLock.{BoardLock}
use Rattle.board_lock.specs.declared.seat.BoardSeat.{BoardSeat}
use Rattle.board_lock.specs.declared.view.View.{View}
use Rattle.event_core.specs.Board.{CoreRow, core_entries, core_row, core_settings, first_row}
use Rattle.event_core.specs.CoreParts.{CoreParts}
use Rattle.event_core.specs.Seen.{state_of}
use Rattle.event_core.specs.declared.work.Work.{Work}
use Rattle.worker_gate.specs.Hands.{HasDoneIf}
use Rattle.worker_gate.specs.Looks.{IsIdle, IsStuck}
use Rattle.worker_gate.specs.declared.looking.Look.{Look}
use Rattle.worker_gate.specs.declared.looking.Look.TheVariants as look
use Rattle.worker_gate.specs.declared.looping.Turned.{Turned}
use Rattle.worker_gate.specs.declared.looping.Turned.TheVariants as turned
use Rattle.worker_gate.specs.declared.looping.WorkerEnd.{WorkerEnd}
use Rattle.worker_gate.specs.declared.looping.WorkerEnd.TheVariants as end

-- what a seat knows between two turns of itself: its row as it left it, and what it
-- was lent beside its batch
abbrev pub own_row : View CoreParts → CoreRow
own_row view = row_in core_row first_row view.last view.number

-- its row, and the entries that it has seen
abbrev pub sight_in : View CoreParts → Sight
sight_in view = record {
  row = (own_row view).row;
  seen = list_in core_entries view.seen;
}

-- the number of a seat is below the seats of the core
abbrev pub IsSeated : View CoreParts → Type 0
IsSeated view =
    IsSomeAnd (fixed_in core_settings view.last) (λ settings. view.number < settings.seats)

-- a seat of this board that does not have the core, and with whose row, hand and what is
-- lent beside it, it is so
pub record IsOutWith (board : BoardLock CoreParts) (IsHeld : CoreRow → Type 0)
    (seat : BoardSeat CoreParts) : Type 0 where
  pub own : IsOf board seat
  pub outside : IsOutside seat
  pub seated : IsSeated (view_of seat)
  pub hand : IsHeld (own_row (view_of seat))

-- a worker may take a turn by this seat of the board: a work that it has is done for what is in its
-- hand, and else its hand is empty
abbrev pub IsReady : BoardLock CoreParts → Option Work → BoardSeat CoreParts → Type 0
IsReady board done seat = IsOutWith board (HasDoneIf done) seat

-- how a worker ends: of the core that it left last there is nothing to do and it is marked closing,
-- or a filter is to be cleared
abbrev pub EndsWorking : WorkerEnd → Option CoreParts → Type 0
EndsWorking end.Closed last =
    IsSomeAnd last (λ core. IsIdle (state_of core) × (core.marks.closing ≡ true))
EndsWorking end.Memory last = IsSomeAnd last (λ core. IsStuck (state_of core))

-- the same of a look at which a worker ends
abbrev pub LooksLast : Look → Option CoreParts → Type 0
LooksLast look.Closed last = EndsWorking end.Closed last
LooksLast look.Memory last = EndsWorking end.Memory last
LooksLast other last = Unit {0}

-- behind a turn, and the work that was taken in it: a worker is ready for the next one, or ends so
abbrev pub GoesOn : Turned → BoardLock CoreParts → BoardSeat CoreParts → Type 0
GoesOn (turned.Goes done) board seat = IsReady board done seat
GoesOn (turned.Ends how) board seat = IsReady board None seat × EndsWorking how (view_of seat).last
