-- What a session reads and writes, why it ends, and what its seat knows of the core then.
use Rattle.std.specs.Prelude.{◌≡◌, ℕ, ◌⊎◌, Bool, true, false, List, None, length}
use Rattle.std.specs.Io.KnownBytes.{Appends, Consumes}
use Rattle.star_io.specs.Faults.{FailedOnce}
use Rattle.star_io.specs.Link.{ReadingSide, WritingSide}
use Rattle.star_io.specs.declared.run_end.RunEnd.{RunEnd}
use Rattle.star_io.specs.declared.run_end.RunEnd.TheVariants as run_end
use Rattle.script_reader.specs.Reading.{Reading}
use Rattle.reply_text.specs.Text.{text_of_all}
use Rattle.reply_text.specs.declared.reply.Reply.{Reply}
use Rattle.core_state.specs.Rows.{Sight}
use Rattle.board_lock.specs.Seats.{IsSameSeat}
use Rattle.board_lock.specs.declared.seat.BoardLock.{BoardLock}
use Rattle.board_lock.specs.declared.seat.BoardSeat.{BoardSeat}
use Rattle.event_core.specs.CoreParts.{CoreParts}
use Rattle.worker_gate.specs.Turns.{IsReady}
use Rattle.script_run.specs.Home.{IsAtRest}
use Rattle.script_run.specs.Pieces.{CountsPieceFault, FindsEnd, TakesPiece}
use Rattle.script_run.specs.Run.{IsProperFront, MetNoEnd, ReadsBytes, Writes}
use Rattle.script_run.specs.Seat.{LeavesUnreplied, IsAllReplied, TellsSeat}
use Rattle.script_run.specs.Shared.{EndsWhole, statements_by}
use Rattle.script_run.specs.declared.halt.Halt.{Halt}
use Rattle.script_run.specs.declared.halt.Halt.TheVariants as halt
use Rattle.script_run.specs.declared.piece.Piece.{Piece}
use Rattle.session_server.specs.declared.session_end.SessionEnd.{SessionEnd}
use Rattle.session_server.specs.declared.session_end.SessionEnd.TheVariants.{Done, ReadFault, WriteFault, Limit, Memory}

-- the replies halted at a write or for want of memory
abbrev pub end_of_halt : Halt → SessionEnd
end_of_halt halt.WriteFault = WriteFault
end_of_halt halt.NoMemory = Memory

-- the end of a run that says of bytes what this end of a session says. `Done` says what `Clean`
-- does: of what a session wrote, that some reply is a refusal is not told
abbrev pub run_end_of : SessionEnd → RunEnd
run_end_of Done = run_end.Clean
run_end_of ReadFault = run_end.ReadFault
run_end_of WriteFault = run_end.WriteFault
run_end_of Limit = run_end.ScriptLimit
run_end_of Memory = run_end.NoMemory

-- which faults came. Nothing was read after a read that failed, and nothing was written
-- after a write that failed
abbrev pub CountsSessionFaults : SessionEnd → (from from' : ReadingSide) → (to to' : WritingSide)
    → Type 0
CountsSessionFaults ReadFault from from' to to' =
    FailedOnce from.faults from'.faults from'.failed × (to'.faults ≡ to.faults)
CountsSessionFaults WriteFault from from' to to' =
    (from'.faults ≡ from.faults) × FailedOnce to.faults to'.faults to'.failed
CountsSessionFaults other from from' to to' =
    (from'.faults ≡ from.faults) × (to'.faults ≡ to.faults)

-- one read of a link gave the reader this piece: which bytes came, whether it found their end, and
-- whether a fault came
pub record ReadsLink (piece : Piece) (waits waits' : Reading) (from from' : ReadingSide)
    : Type 0 where
  pub takes : TakesPiece piece waits waits' from from'
  pub end : FindsEnd piece from from'
  pub faults : CountsPieceFault piece from from'

-- the session was answered to an end at which nothing has failed: all replies were written, or no
-- memory was left, or the byte past the limit came
abbrev pub EndsUnfailed : SessionEnd → Type 0
EndsUnfailed Done = Unit {0}
EndsUnfailed ReadFault = ⊥
EndsUnfailed WriteFault = ⊥
EndsUnfailed Limit = Unit {0}
EndsUnfailed Memory = Unit {0}

-- where no read and no write of the link failed, a session within its limit ends `Done` or `Memory`
abbrev pub IsSessionComplete : SessionEnd → (from from' : ReadingSide) → (to to' : WritingSide)
    → Type 0
IsSessionComplete end from from' to to' =
    ¬ FailedOnce from.faults from'.faults from'.failed
    → ¬ FailedOnce to.faults to'.faults to'.failed
    → EndsUnfailed end

-- A session has its seat still, which may take a turn. If every whole statement was replied to, the
-- seat is at rest.
pub record LeavesSeat (board : BoardLock CoreParts) (Whole : Type 0) (old new : BoardSeat CoreParts)
    : Type 0 where
  pub ready : IsReady board None new
  pub same : IsSameSeat old new
  pub rest : Whole → IsAtRest board new

-- A session between two sights of its seat: its link gave these bytes and took those, and what was
-- written is the text of the replies to the statements of these bytes, or a front of it, as the end
-- says. Want of memory is told in place of no other end: some reply was still to be written, some
-- statement has no reply, or the reading met no end
pub record AnswersSession (end : SessionEnd) (seat : ℕ) (old new : Sight) (from from' : ReadingSide)
    (to to' : WritingSide) : Type 0 where
  pub given : List ℕ
  pub written : List ℕ
  pub replies : List Reply
  pub gave : Consumes from.left from'.left given
  pub took : Appends to.taken to'.taken written
  pub reads : ReadsBytes (run_end_of end) (length given)
  pub tells : TellsSeat seat old new (statements_by (run_end_of end) from'.ended given) replies
  pub whole : EndsWhole (run_end_of end) → IsAllReplied tells
  pub writes : Writes (λ ended bytes. text_of_all replies) (run_end_of end) from' given written
  pub memory : end ≡ Memory
      → IsProperFront written (text_of_all replies)
      ⊎ (LeavesUnreplied tells ⊎ MetNoEnd from from' given)
