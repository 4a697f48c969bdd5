-- The replies of a seat behind the last statement that is whole: all of them, or those before they halt.
use Rattle.script_run.proofs.Words.{◌++◌, ◌∙◌, ◌≡◌, [], Bool, Err, Halt, HasNoStatement, List, None, Ok, NoMemory, Option, Reading, Some, subst, sym, WriteFault, ℕ}
use Rattle.star_io.specs.Faults.{FailedOnce}
use Rattle.star_io.specs.Link.{WritingSide}
use Rattle.core_state.specs.Fronts.{IsDue}
use Rattle.core_state.specs.Rows.{Sight}
use Rattle.board_lock.specs.Seats.{IsSameSeat, view_of}
use Rattle.board_lock.specs.declared.seat.BoardLock.{BoardLock}
use Rattle.board_lock.specs.declared.seat.BoardSeat.{BoardSeat}
use Rattle.event_core.specs.CoreParts.{CoreParts}
use Rattle.worker_gate.specs.Turns.{IsReady, sight_in}
use Rattle.script_run.specs.Answer.{CountsHalt}
use Rattle.script_run.specs.Front.{LeavesToRead, PlaysOn, UnlessHalted}
use Rattle.script_run.specs.Home.{RepliesAt, RepliesWhole}
use Rattle.script_run.specs.SeatFront.{SeatPlays, SeatPlaysWhole, SeatReads}
use Rattle.script_run.proofs.OnLemmas.{Eases, eases-none, eases-some, on-then, still-none}
use Rattle.script_run.proofs.SharedReadLemmas.{reads-itself, reads-then}

-- what holds holds also where nothing halted
unless-halted : {Holds : Type 0} (halted : Option Halt) → Holds → UnlessHalted halted Holds
unless-halted None holds = holds
unless-halted (Some halt) holds = tt

-- where nothing else was left anything may be
eases-never : (halted : Option Halt) (Left : Type 0) → Eases halted ⊥ Left
eases-never None Left = eases-none ⊥ Left
eases-never (Some halt) Left = eases-some halt ⊥ Left (λ never. absurd never)

-- what was read stays where no statement more is given
reads-out : (halted : Option Halt) (seat : ℕ) (old mid new : Sight) (waits waits' : Reading) (taken0 taken taken' : Option (List ℕ))
    → (first : SeatReads None seat old [] waits mid waits' taken0 taken) → PlaysOn halted seat mid first.on.still [] ⊥ new taken taken'
    → SeatReads halted seat old [] waits new waits' taken0 taken'
reads-out halted seat old mid new waits waits' taken0 taken taken' first second = record {
  statements = first.statements ++ [];
  behind = first.behind;
  reads = reads-then waits first.behind first.behind first.statements [] first.reads first.stays (reads-itself first.behind);
  stays = first.stays;
  on = on-then halted seat old mid new [] first.statements [] (LeavesToRead first.behind) ⊥ (LeavesToRead first.behind) taken0 taken taken'
      (eases-never halted (LeavesToRead first.behind)) first.on second;
  all = unless-halted {Holds = (first.behind ≡ waits') × HasNoStatement waits'} halted first.all;
}

-- the replies halted before a statement that is whole was replied to
pub replies-halted : (halt : Halt) (seat : ℕ) (old new : Sight) (waits waits' : Reading) (taken taken' : Option (List ℕ))
    → IsDue seat old [] → SeatPlaysWhole (Err halt) seat old waits new waits' taken taken'
    → RepliesWhole {A = Unit {0}} (Err halt) seat old waits new waits' taken taken'
replies-halted halt seat old new waits waits' taken taken' due whole = ((whole [] due).0, tt)

-- behind the last statement, by a seat of the same number
pub replies-stopped : (halt : Halt) (some : Bool) (seat same : ℕ) (old mid new : Sight) (waits waits' : Reading)
    (taken0 taken taken' : Option (List ℕ)) → same ≡ seat → IsDue seat old []
    → SeatPlaysWhole (Ok some) seat old waits mid waits' taken0 taken → SeatPlays (Err halt) same mid [] new taken taken'
    → RepliesWhole {A = Unit {0}} (Err halt) seat old waits new waits' taken0 taken'
replies-stopped halt some seat same old mid new waits waits' taken0 taken taken' is due whole plays =
    let first : SeatReads None seat old [] waits mid waits' taken0 taken = (whole [] due).0 in
    let rest : SeatPlays (Err halt) seat mid [] new taken taken' =
    subst (λ number. SeatPlays (Err halt) number mid [] new taken taken') is plays in
    (reads-out (Some halt) seat old mid new waits waits' taken0 taken taken' first (rest first.on.still first.on.goes.waits).0, tt)

-- all replies were written
pub replies-whole : (some others : Bool) (seat same : ℕ) (old mid new : Sight) (waits waits' : Reading)
    (taken0 taken taken' : Option (List ℕ)) → same ≡ seat → IsDue seat old []
    → SeatPlaysWhole (Ok some) seat old waits mid waits' taken0 taken → SeatPlays (Ok others) same mid [] new taken taken'
    → new.row.pending ≡ [] → RepliesWhole {A = Unit {0}} (Ok tt) seat old waits new waits' taken0 taken'
replies-whole some others seat same old mid new waits waits' taken0 taken taken' is due whole plays idle =
    let first : SeatReads None seat old [] waits mid waits' taken0 taken = (whole [] due).0 in
    let rest : SeatPlays (Ok others) seat mid [] new taken taken' =
    subst (λ number. SeatPlays (Ok others) number mid [] new taken taken') is plays in
    let reads = reads-out None seat old mid new waits waits' taken0 taken taken' first (rest first.on.still first.on.goes.waits).0 in
    (reads, still-none new.seen reads.on.still reads.on.goes.waits.given (sym reads.on.goes.waits.pending ∙ idle))

-- and nothing is waited for then
pub replied-due : (seat : ℕ) (old new : Sight) (waits waits' : Reading) (taken taken' : Option (List ℕ))
    → RepliesWhole {A = Unit {0}} (Ok tt) seat old waits new waits' taken taken' → IsDue seat new []
replied-due seat old new waits waits' taken taken' replies = subst (IsDue seat new) replies.1 replies.0.on.goes.waits

-- no write failed before
counts-stopped : (halt : Halt) (to0 to to' : WritingSide) → to.faults ≡ to0.faults → CountsHalt {A = Bool} (Err halt) to to'
    → CountsHalt {A = Unit {0}} (Err halt) to0 to'
counts-stopped WriteFault to0 to to' same counts = subst (λ (n : ℕ). FailedOnce n to'.faults to'.failed) same counts
counts-stopped NoMemory to0 to to' same counts = counts ∙ same

-- a seat that was at rest may take another turn where its replies halted
pub stopped-at : (board : BoardLock CoreParts) (halt : Halt) (old new : BoardSeat CoreParts) (waits waits' : Reading) (to0 to to' : WritingSide)
    → IsReady board None new → IsSameSeat old new
    → RepliesWhole {A = Unit {0}} (Err halt) (view_of old).number (sight_in (view_of old)) waits (sight_in (view_of new)) waits' to0.taken to'.taken
    → to.faults ≡ to0.faults → CountsHalt {A = Bool} (Err halt) to to'
    → RepliesAt {A = Unit {0}} board (Err halt) old new waits waits' to0 to'
stopped-at board halt old new waits waits' to0 to to' ready same replies unfailed counts = record {
  ready = ready;
  same = same;
  replies = replies;
  rest = tt;
  faults = counts-stopped halt to0 to to' unfailed counts;
}
