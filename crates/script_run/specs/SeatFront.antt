-- What a seat of a board that gives statements to the core leaves of what it knows,
-- in a reader and at a sink.
use Rattle.std.specs.Prelude.{◌≡◌, ◌≢◌, ℕ, Bool, List, [], ◌++◌, Option, Result, IfOk}
use Rattle.std.specs.List.{list_any}
use Rattle.star_io.specs.Link.{WritingSide}
use Rattle.script_reader.specs.Reading.{Reading, StaysFed}
use Rattle.script_reader.specs.declared.statement.Statement.{Statement}
use Rattle.core_state.specs.Fronts.{IsDue}
use Rattle.core_state.specs.Rows.{Sight}
use Rattle.core_state.specs.Sent.{Sent}
use Rattle.board_lock.specs.Seats.{view_of}
use Rattle.board_lock.specs.declared.seat.BoardLock.{BoardLock}
use Rattle.board_lock.specs.declared.seat.BoardSeat.{BoardSeat}
use Rattle.event_core.specs.Board.{CoreRow}
use Rattle.event_core.specs.CoreParts.{CoreParts}
use Rattle.worker_gate.specs.Hands.{HasDoneIf, HasNothing}
use Rattle.worker_gate.specs.Turns.{sight_in}
use Rattle.script_run.specs.Answer.{CountsHalt, HasNoStatement}
use Rattle.script_run.specs.Front.{LeavesToRead, PlaysOn, ReadsBetween, UnlessHalted, halt_of}
use Rattle.script_run.specs.Run.{is_refusal}
use Rattle.script_run.specs.SeatTurns.{SitsStill, StaysReady, TakesNext}
use Rattle.script_run.specs.declared.halt.Halt.{Halt}
use Rattle.script_run.specs.declared.seat_front.AfterAsking.{AfterAsking}
use Rattle.script_run.specs.declared.seat_front.AfterAsking.TheVariants as turned
use Rattle.script_run.specs.declared.seat_front.Waited.{Waited}
use Rattle.script_run.specs.declared.seat_front.Waited.TheVariants as waited

-- what is told of a seat that asked for its next reply, turn after turn: it took the reply, waits
-- for none, or waits still
abbrev pub TellsWaited : Waited → (seat : ℕ) → (old new : Sight) → Type 0
TellsWaited (waited.Got ready) seat old new = TakesNext ready seat old new
TellsWaited waited.Nothing seat old new = SitsStill seat old new × (new.row.pending ≡ [])
TellsWaited waited.NotYet seat old new = SitsStill seat old new
TellsWaited waited.NoMemory seat old new = SitsStill seat old new × (new.row.pending ≢ [])

-- what is told behind one of these turns, and the work that was taken in it
abbrev pub TellsTurned : AfterAsking → (seat : ℕ) → (old new : Sight) → Type 0
TellsTurned (turned.Goes next) seat old new = SitsStill seat old new
TellsTurned (turned.Ends how) seat old new = TellsWaited how seat old new

-- what is in the hand of the seat then: what the work is done for that is given back in
-- the next turn, or nothing
abbrev pub HasTurned : AfterAsking → CoreRow → Type 0
HasTurned (turned.Goes done) row = HasDoneIf done row
HasTurned (turned.Ends how) row = HasNothing row

-- what a seat did with statements, whatever others did meanwhile, and whether some reply that
-- was written is a refusal
abbrev pub SeatPlaysBy : Result Bool Halt → (seat : ℕ) → (old : Sight) → (due : List Sent)
    → List Statement → (Left : Type 0) → (new : Sight)
    → (taken taken' : Option (List ℕ)) → Type 0
SeatPlaysBy result seat old due statements Left new taken taken' =
    (on : PlaysOn (halt_of result) seat old due statements Left new taken taken')
    × IfOk result (λ refused. refused ≡ list_any is_refusal on.replies)

-- so it is whatever the seat waits for
abbrev pub SeatPlays : Result Bool Halt → (seat : ℕ) → (old : Sight) → List Statement
    → (new : Sight) → (taken taken' : Option (List ℕ)) → Type 0
SeatPlays result seat old statements new taken taken' = (due : List Sent) → IsDue seat old due
    → SeatPlaysBy result seat old due statements ⊥ new taken taken'

-- a seat did this with statements and may take another turn, and one write failed where that is why
-- it halted, and else none
pub record PlaysAt (board : BoardLock CoreParts) (result : Result Bool Halt)
    (old new : BoardSeat CoreParts)
    (statements : List Statement)
    (to to' : WritingSide) : Type 0 where
  pub seat : StaysReady board old new
  pub plays : SeatPlays result (view_of old).number
      (sight_in (view_of old)) statements (sight_in (view_of new)) to.taken to'.taken
  pub faults : CountsHalt result to to'

-- so it is of the first ones of a list, and the others are left
pub record PlaysFirst (board : BoardLock CoreParts) (result : Result Bool Halt)
    (old new : BoardSeat CoreParts) (all rest : List Statement)
    (to to' : WritingSide) : Type 0 where
  pub first : List Statement
  pub are : all ≡ first ++ rest
  pub plays : PlaysAt board result old new first to to'

-- the statements that are whole were read and given to the core by a seat: all of them, or those
-- before the replies halted
pub record SeatReads (halted : Option Halt) (seat : ℕ) (old : Sight) (due : List Sent)
    (waits : Reading) (new : Sight) (waits' : Reading)
    (taken taken' : Option (List ℕ)) : Type 0 where
  pub statements : List Statement
  pub behind : Reading
  pub reads : ReadsBetween waits statements behind
  pub stays : StaysFed waits behind
  pub on : PlaysOn halted seat old due statements (LeavesToRead behind) new taken taken'
  pub all : UnlessHalted halted ((behind ≡ waits') × HasNoStatement waits')

-- so it is whatever the seat waits for, and whether some reply that was written is a refusal
abbrev pub SeatPlaysWhole : Result Bool Halt → (seat : ℕ) → (old : Sight) → Reading → (new : Sight)
    → Reading → (taken taken' : Option (List ℕ)) → Type 0
SeatPlaysWhole result seat old waits new waits' taken taken' =
    (due : List Sent) → IsDue seat old due
    → (reads : SeatReads (halt_of result) seat old due waits new waits' taken taken')
    × IfOk result (λ refused. refused ≡ list_any is_refusal reads.on.replies)

-- The statements that are whole were read and given to the core by turns of a seat, which may take
-- another turn. The reader was fed with nothing. One write failed if that is why the replies
-- halted, and else none.
pub record PlaysWholeAt (board : BoardLock CoreParts) (result : Result Bool Halt)
    (old new : BoardSeat CoreParts) (waits waits' : Reading)
    (to to' : WritingSide) : Type 0 where
  pub seat : StaysReady board old new
  pub plays : SeatPlaysWhole result (view_of old).number
      (sight_in (view_of old)) waits (sight_in (view_of new)) waits' to.taken to'.taken
  pub stays : StaysFed waits waits'
  pub faults : CountsHalt result to to'
