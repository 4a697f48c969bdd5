-- All statements that are whole, by turns of a seat: one run of them after another, and how that ends.
use Rattle.script_run.proofs.Words.{◌++◌, ◌||◌, ◌≡◌, [], Bool, Err, false, Halt, HasNoStatement, List, NoMemory, None, Ok, Reading, refl, Result, Statement, StaysFed, ℕ}
use Rattle.star_io.specs.Link.{WritingSide}
use Rattle.board_lock.specs.Seats.{view_of}
use Rattle.board_lock.specs.declared.seat.BoardLock.{BoardLock}
use Rattle.board_lock.specs.declared.seat.BoardSeat.{BoardSeat}
use Rattle.event_core.specs.CoreParts.{CoreParts}
use Rattle.worker_gate.specs.Turns.{IsReady, sight_in}
use Rattle.script_run.specs.Front.{LeavesToRead, ReadsBetween, UnlessHalted, halt_of}
use Rattle.script_run.specs.SeatFront.{PlaysAt, PlaysWholeAt}
use Rattle.script_run.proofs.OnLemmas.{Eases, eases-none, eases-some}
use Rattle.script_run.proofs.SeatFrontLemmas.{seat-eased, seat-left}
use Rattle.script_run.proofs.SeatPlaysLemmas.{played-err, played-none, played-ok}
use Rattle.script_run.proofs.SharedReadLemmas.{reads-itself, reads-then}
use Rattle.script_run.proofs.WholeLemmas.{fed_on}

-- the statements that were read so far were sent by turns of a seat, and the replies that were there were written
pub record PlaysRead (board : BoardLock CoreParts) (refused : Bool) (old now : BoardSeat CoreParts) (waits waits' : Reading)
    (to to' : WritingSide) : Type 0 where
  pub statements : List Statement
  pub reads : ReadsBetween waits statements waits'
  pub stays : StaysFed waits waits'
  pub plays : PlaysAt board (Ok refused) old now statements to to'

pub read-none : (board : BoardLock CoreParts) (seat : BoardSeat CoreParts) (waits : Reading) (to : WritingSide) → IsReady board None seat
    → PlaysRead board false seat seat waits waits to to
read-none board seat waits to ready = record {
  statements = [];
  reads = reads-itself waits;
  stays = (refl, refl);
  plays = played-none board seat to ready;
}

-- one run more
pub read-more : (board : BoardLock CoreParts) (refused some : Bool) (old between new : BoardSeat CoreParts) (waits waits' waits'' : Reading)
    (run : List Statement) (to0 to to' : WritingSide) → PlaysRead board refused old between waits waits' to0 to
    → ReadsBetween waits' run waits'' → StaysFed waits' waits'' → PlaysAt board (Ok some) between new run to to'
    → PlaysRead board (refused || some) old new waits waits'' to0 to'
read-more board refused some old between new waits waits' waits'' run to0 to to' way reads stays plays = record {
  statements = way.statements ++ run;
  reads = reads-then waits waits' waits'' way.statements run way.reads way.stays reads;
  stays = fed_on waits waits' waits'' way.stays stays;
  plays = played-ok board refused some old between new way.statements run to0 to to' way.plays plays;
}

-- The ways out.

-- what was sent is what was read
whole-at : (board : BoardLock CoreParts) (result : Result Bool Halt) (old new : BoardSeat CoreParts) (waits waits' : Reading)
    (statements : List Statement) (to to' : WritingSide) → ReadsBetween waits statements waits' → StaysFed waits waits'
    → PlaysAt board result old new statements to to' → Eases (halt_of result) ⊥ (LeavesToRead waits')
    → UnlessHalted (halt_of result) ((waits' ≡ waits') × HasNoStatement waits') → PlaysWholeAt board result old new waits waits' to to'
whole-at board result old new waits waits' statements to to' reads stays plays eases all = record {
  seat = plays.seat;
  plays = λ due is.
      let on = plays.plays due is in (
        record {
          statements = statements;
          behind = waits';
          reads = reads;
          stays = stays;
          on = seat-eased (halt_of result) (view_of old).number (sight_in (view_of old)) (sight_in (view_of new)) due statements ⊥
              (LeavesToRead waits') to.taken to'.taken eases on.0;
          all = all;
        },
        on.1,
      );
  stays = stays;
  faults = plays.faults;
}

-- no other statement is whole
pub read-all : (board : BoardLock CoreParts) (refused : Bool) (old now : BoardSeat CoreParts) (waits waits' : Reading) (to to' : WritingSide)
    → PlaysRead board refused old now waits waits' to to' → HasNoStatement waits' → PlaysWholeAt board (Ok refused) old now waits waits' to to'
read-all board refused old now waits waits' to to' way none =
    whole-at board (Ok refused) old now waits waits' way.statements to to' way.reads way.stays way.plays
    (eases-none ⊥ (LeavesToRead waits')) (refl, none)

-- the replies halt in a run
pub read-halts : (board : BoardLock CoreParts) (refused : Bool) (halt : Halt) (old between new : BoardSeat CoreParts)
    (waits waits' waits'' : Reading) (run : List Statement) (to0 to to' : WritingSide)
    → PlaysRead board refused old between waits waits' to0 to → ReadsBetween waits' run waits'' → StaysFed waits' waits''
    → PlaysAt board (Err halt) between new run to to' → PlaysWholeAt board (Err halt) old new waits waits'' to0 to'
read-halts board refused halt old between new waits waits' waits'' run to0 to to' way reads stays plays =
    whole-at board (Err halt) old new waits waits'' (way.statements ++ run) to0 to'
    (reads-then waits waits' waits'' way.statements run way.reads way.stays reads) (fed_on waits waits' waits'' way.stays stays)
    (played-err board refused halt old between new way.statements run to0 to to' way.plays plays)
    (eases-some halt ⊥ (LeavesToRead waits'') (λ never. absurd never)) tt

-- there is no memory for the next statement
pub read-wants : (board : BoardLock CoreParts) (refused : Bool) (old now : BoardSeat CoreParts) (waits waits' : Reading) (to to' : WritingSide)
    → PlaysRead board refused old now waits waits' to to' → LeavesToRead waits'
    → PlaysWholeAt board (Err NoMemory) old now waits waits' to to'
read-wants board refused old now waits waits' to to' way left = record {
  seat = way.plays.seat;
  plays = λ due is. (
    record {
      statements = way.statements;
      behind = waits';
      reads = way.reads;
      stays = way.stays;
      on = (seat-left refused (view_of old).number (sight_in (view_of old)) (sight_in (view_of now)) due way.statements ⊥
          (LeavesToRead waits') to.taken to'.taken left (way.plays.plays due is)).0;
      all = tt;
    },
    tt,
  );
  stays = way.stays;
  faults = way.plays.faults;
}
