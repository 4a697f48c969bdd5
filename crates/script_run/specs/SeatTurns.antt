-- What a turn of a seat that gives statements to a core and takes replies
-- leaves of what the seat knows.
use Rattle.std.specs.Prelude.{◌≡◌, ◌≢◌, ℕ, Bool, false, true, List, [], ◌∷◌, ◌++◌, All, IsSomeAnd, None}
use Rattle.script_reader.specs.declared.statement.Statement.{Statement}
use Rattle.reply_text.specs.declared.reply.Reply.{Reply}
use Rattle.core_state.specs.Found.{held_by}
use Rattle.core_state.specs.Fronts.{Goes, IsDue}
use Rattle.core_state.specs.Rows.{IsMindful, Sight, sight_of}
use Rattle.core_state.specs.Sent.{IsGiven, Sent, statement_in, statements_in}
use Rattle.board_lock.specs.Seats.{IsSameSeat, view_of}
use Rattle.board_lock.specs.Small.{IsSameTeam}
use Rattle.board_lock.specs.declared.seat.BoardLock.{BoardLock}
use Rattle.board_lock.specs.declared.seat.BoardSeat.{BoardSeat}
use Rattle.board_lock.specs.declared.view.View.{View}
use Rattle.event_core.specs.Board.{CoreRow, core_row}
use Rattle.event_core.specs.CoreParts.{CoreParts, LeavesLoans}
use Rattle.event_core.specs.Replies.{IsReplyOf}
use Rattle.event_core.specs.Seen.{state_of}
use Rattle.event_core.specs.declared.replies.Ready.{Ready}
use Rattle.worker_gate.specs.Hands.{HasDoneIf, HasNothing}
use Rattle.worker_gate.specs.Looks.{HasLooked}
use Rattle.worker_gate.specs.Left.{LeavesAllLoans}
use Rattle.worker_gate.specs.Turns.{IsOutWith, sight_in}
use Rattle.script_run.specs.declared.seat_turn.Given.{Given}
use Rattle.script_run.specs.declared.seat_turn.Given.TheVariants as given
use Rattle.script_run.specs.declared.seat_turn.ReplyTurn.{ReplyTurn}
use Rattle.script_run.specs.declared.seat_turn.ReplyTurn.TheVariants.{Got, Nothing, NotYet, Looked}

-- behind turns of it a seat does not have the core, it is so with its row, its hand and what is
-- lent beside it, and it is the same seat of the same team
pub record StaysOut (board : BoardLock CoreParts) (IsHeld : CoreRow → Type 0)
    (old new : BoardSeat CoreParts) : Type 0 where
  pub out : IsOutWith board IsHeld new
  pub same : IsSameSeat old new
  pub team : IsSameTeam (view_of old) (view_of new)

-- it may take another turn
abbrev pub StaysReady : BoardLock CoreParts → (old new : BoardSeat CoreParts) → Type 0
StaysReady board old new = StaysOut board (HasDoneIf None) old new

-- only steps of a seat changed the core, and what is in its hand stays there, and lent what is lent
pub record KeepsHand (seat : ℕ) (old new : CoreParts) : Type 0 where
  pub mindful : IsMindful seat (state_of old) (state_of new)
  pub hand : held_by (state_of new).scan.flights seat ≡ held_by (state_of old).scan.flights seat
  pub loans : LeavesAllLoans old new

-- a seat sent nothing and took nothing, whatever others did
abbrev pub SitsStill : (seat : ℕ) → (old new : Sight) → Type 0
SitsStill seat old new = (due : List Sent) → IsDue seat old due → Goes seat old due new due [] [] []

-- a seat sent this statement
abbrev pub SendsOne : (seat : ℕ) → Statement → (old new : Sight) → Type 0
SendsOne seat statement old new = (due : List Sent) → IsDue seat old due
    → (one : Sent) × (statement_in one ≡ statement) × IsGiven one
    × Goes seat old due new (due ++ one ∷ []) (one ∷ []) [] []

-- a seat sent these statements, in this order
abbrev pub SendsAll : (seat : ℕ) → List Statement → (old new : Sight) → Type 0
SendsAll seat statements old new = (due : List Sent) → IsDue seat old due
    → (sent : List Sent) × (statements_in sent ≡ statements) × All IsGiven sent
    × Goes seat old due new (due ++ sent) sent [] []

-- what a turn tells in which a seat gave a statement to the core: it sent it, or nothing
abbrev pub TellsGiven : Given → (seat : ℕ) → Statement → (old new : Sight) → Type 0
TellsGiven given.Taken seat statement old new = SendsOne seat statement old new
TellsGiven given.Lost seat statement old new = SitsStill seat old new
TellsGiven given.Waits seat statement old new = SitsStill seat old new

-- the core that a seat left last tells of no statement that waits for the tables
abbrev pub LeftUnmarked : View CoreParts → Type 0
LeftUnmarked view = IsSomeAnd view.last (λ core. core.marks.waiting ≡ false)

-- what is told of a statement that a seat tried to give until it was taken, or
-- there was no memory for it
abbrev pub TellsTried : (taken : Bool) → Statement → (old new : BoardSeat CoreParts) → Type 0
TellsTried true statement old new =
    SendsOne (view_of old).number statement (sight_in (view_of old)) (sight_in (view_of new))
TellsTried false statement old new =
    SitsStill (view_of old).number (sight_in (view_of old)) (sight_in (view_of new))
    × LeftUnmarked (view_of new)

-- a seat took the reply to the first statement that it waited for
pub record TookNext (seat : ℕ) (old : Sight) (due : List Sent) (new : Sight)
    (reply : Reply) : Type 0 where
  pub first : Sent
  pub rest : List Sent
  pub goes : Goes seat old due new rest [] (first ∷ []) (reply ∷ [])

-- so it is whatever it waited for, and whatever reply the taken one is
abbrev pub TakesNext : Ready → (seat : ℕ) → (old new : Sight) → Type 0
TakesNext ready seat old new =
    (due : List Sent) → (reply : Reply) → IsDue seat old due → IsReplyOf ready reply
    → TookNext seat old due new reply

-- what a turn tells in which a seat asked for its next reply
abbrev pub TellsAsked : ReplyTurn → (seat : ℕ) → (old new : Sight) → Type 0
TellsAsked (Got ready) seat old new = TakesNext ready seat old new
TellsAsked Nothing seat old new = SitsStill seat old new × (new.row.pending ≡ [])
TellsAsked NotYet seat old new = SitsStill seat old new
TellsAsked (Looked look) seat old new = SitsStill seat old new × (new.row.pending ≢ [])

-- what is in the hand of a seat behind such a turn: what it found to do, or nothing
abbrev pub HasAsked : ReplyTurn → CoreRow → Type 0
HasAsked (Looked look) row = HasLooked look row
HasAsked other row = HasNothing row

-- what a seat does with the core where it asks for its next reply
pub record AsksCore (asked : ReplyTurn) (seat : ℕ) (old new : CoreParts) : Type 0 where
  pub tells : TellsAsked asked seat (sight_of (state_of old) seat) (sight_of (state_of new) seat)
  pub mindful : IsMindful seat (state_of old) (state_of new)
  pub others : LeavesLoans seat old new
  pub hand : HasAsked asked (core_row new seat)
