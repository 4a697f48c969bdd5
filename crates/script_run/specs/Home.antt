-- A seat of a board by which sessions are served, one after the other: at rest between two reads,
-- and what was given to the core and taken of it where the replies halted.
use Rattle.std.specs.Prelude.{◌≡◌, ℕ, true, List, [], ◌++◌, IsSomeAnd, Option, None, Result, OnOk}
use Rattle.star_io.specs.Link.{WritingSide}
use Rattle.script_reader.specs.Reading.{Reading}
use Rattle.core_state.specs.Fronts.{IsDue}
use Rattle.core_state.specs.Rows.{Sight, made_by}
use Rattle.core_state.specs.State.{Entry, Taken}
use Rattle.board_lock.specs.Seats.{IsSameSeat, view_of}
use Rattle.board_lock.specs.declared.seat.BoardLock.{BoardLock}
use Rattle.board_lock.specs.declared.seat.BoardSeat.{BoardSeat}
use Rattle.board_lock.specs.declared.view.View.{View}
use Rattle.event_core.specs.CoreParts.{CoreParts}
use Rattle.worker_gate.specs.Turns.{IsReady, sight_in}
use Rattle.script_run.specs.Answer.{CountsHalt}
use Rattle.script_run.specs.Front.{UnlessHalted, halt_of}
use Rattle.script_run.specs.SeatFront.{SeatReads}
use Rattle.script_run.specs.declared.halt.Halt.{Halt}

-- a seat of this board by which a session may be served: it may take a turn, waits for no reply,
-- and has in its row the entries that it made
pub record IsAtRest (board : BoardLock CoreParts) (seat : BoardSeat CoreParts) : Type 0 where
  pub ready : IsReady board None seat
  pub due : IsDue (view_of seat).number (sight_in (view_of seat)) []

-- the statements that are whole were read and given to the core by a seat that waited for nothing,
-- and all of them were replied to, or the replies halted
abbrev pub RepliesWhole : {A : Type 0} → Result A Halt → (seat : ℕ) → (old : Sight) → Reading
    → (new : Sight) → Reading
    → (taken taken' : Option (List ℕ)) → Type 0
RepliesWhole result seat old waits new waits' taken taken' =
    (reads : SeatReads (halt_of result) seat old [] waits new waits' taken taken')
    × UnlessHalted (halt_of result) (reads.on.still ≡ [])

-- a seat that was at rest replied to them by turns of it: it may take another turn, it is at rest
-- again, unless the replies halted, and one write failed where that is why they did, and else none
pub record RepliesAt {A : Type 0} (board : BoardLock CoreParts) (result : Result A Halt)
    (old new : BoardSeat CoreParts) (waits waits' : Reading)
    (to to' : WritingSide) : Type 0 where
  pub ready : IsReady board None new
  pub same : IsSameSeat old new
  pub replies : RepliesWhole result (view_of old).number
      (sight_in (view_of old)) waits (sight_in (view_of new)) waits' to.taken to'.taken
  pub rest : OnOk result (IsAtRest board new)
  pub faults : CountsHalt result to to'

-- a seat let go what it waited for: it sent nothing, the entries that came are of others, and of
-- the replies that were there it took some
pub record LetsGo (seat : ℕ) (old new : Sight) : Type 0 where
  pub since : List Entry
  pub seen : new.seen ≡ old.seen ++ since
  pub made : new.row.made ≡ old.row.made
  pub all_made : new.row.made ≡ made_by seat new.seen
  pub submitted : new.row.submitted ≡ old.row.submitted
  pub more : List Taken
  pub taken : new.row.taken ≡ old.row.taken ++ more

-- the same at the end of a run, where it took none
abbrev pub Leaves : (seat : ℕ) → (old new : Sight) → Type 0
Leaves seat old new = (lets : LetsGo seat old new) × (lets.more ≡ [])

-- the core that a seat left last is marked closing
abbrev pub LeftClosing : View CoreParts → Type 0
LeftClosing view = IsSomeAnd view.last (λ core. core.marks.closing ≡ true)
