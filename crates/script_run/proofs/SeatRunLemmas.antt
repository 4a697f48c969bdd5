-- A run by a seat of a board, from what was read and written so far.
use Rattle.script_run.proofs.Words.{◌++◌, ◌+◌, ◌||◌, ◌∙◌, ◌≡◌, ◌≤◌, [], All-nil, ap, arith, Bool, Consumes, Consumes-nil, Consumes-trans, Err, false, fed_with, Halt, HasNoStatement, length, length-append, List, Ok, Option, Reading, refl, Result, SCRIPT_LIMIT, Some, StaysFed, subst, sym, ℕ}
use Rattle.core_state.specs.Fronts.{IsDue}
use Rattle.core_state.specs.Rows.{Sight}
use Rattle.core_state.specs.Sent.{IsGiven, Sent}
use Rattle.script_reader.specs.Reading.{no_reading}
use Rattle.script_run.specs.Front.{LeavesToRead}
use Rattle.script_run.specs.SeatFront.{SeatPlays, SeatPlaysWhole, SeatReads}
use Rattle.script_run.specs.Shared.{nothing}
use Rattle.script_run.proofs.RunLemmas.{came, finished}
use Rattle.script_run.proofs.SeatFrontLemmas.{seat-err}
use Rattle.script_run.proofs.SeatReadLemmas.{SeatPlaying, seat-starts, seat-then}
use Rattle.script_run.proofs.SharedReadLemmas.{reads-then}
use Rattle.script_run.proofs.SharedRunLemmas.{fed-reads}
use Rattle.script_run.proofs.WholeLemmas.{fed_on}

-- these bytes were given, and the statements that are whole were sent by a seat that saw nothing before
pub record IsRunBy (now : Sight) (waits : Reading) (refused : Bool) (left0 left taken0 taken : Option (List ℕ)) : Type 0 where
  pub given : List ℕ
  pub gave : Consumes left0 left given
  pub within : waits.fed ≤ SCRIPT_LIMIT
  pub way : SeatPlaying 0 nothing [] now (came given) waits refused taken0 taken

-- a seat that sees nothing waits for nothing
nothing-due : IsDue 0 nothing []
nothing-due = record { pending = refl; points = All-nil _; given = All-nil IsGiven; made = refl }

pub starts-by : (now : Sight) (waits : Reading) (left taken : Option (List ℕ)) → now ≡ nothing → waits ≡ no_reading
    → IsRunBy now waits false left left taken taken
starts-by now waits left taken is none =
    subst (λ (sight : Sight). IsRunBy sight waits false left left taken taken) (sym is)
    (subst (λ (reading : Reading). IsRunBy nothing reading false left left taken taken) (sym none) (record {
      given = [];
      gave = Consumes-nil left;
      within = omega arith;
      way = seat-starts 0 nothing [] (came []) taken nothing-due;
    }))

-- all statements that were whole were sent, behind others
whole-by-way : (now new : Sight) (first waits waits' : Reading) (refused some : Bool) (taken0 taken taken' : Option (List ℕ))
    → SeatPlaying 0 nothing [] now first waits refused taken0 taken → SeatPlaysWhole (Ok some) 0 now waits new waits' taken taken'
    → SeatPlaying 0 nothing [] new first waits' (refused || some) taken0 taken'
whole-by-way now new first waits waits' refused some taken0 taken taken' way plays =
    let whole = plays way.plays.0.still way.plays.0.goes.waits in
    subst (λ reader. SeatPlaying 0 nothing [] new first reader (refused || some) taken0 taken') whole.0.all.0
    (seat-then 0 nothing now new [] first waits whole.0.behind refused some taken0 taken taken' whole.0.statements
    (LeavesToRead whole.0.behind) way
    whole.0.reads whole.0.stays (whole.0.on, whole.1))

-- and no statement is left that is whole
none-by-way : (now new : Sight) (first waits waits' : Reading) (refused some : Bool) (taken0 taken taken' : Option (List ℕ))
    → SeatPlaying 0 nothing [] now first waits refused taken0 taken → SeatPlaysWhole (Ok some) 0 now waits new waits' taken taken'
    → HasNoStatement waits'
none-by-way now new first waits waits' refused some taken0 taken taken' way plays = (plays way.plays.0.still way.plays.0.goes.waits).0.all.1

-- the replies halt at statements that were read, behind others
pub halted-by-way : (halt : Halt) (now new : Sight) (first waits waits' : Reading) (refused : Bool) (taken0 taken taken' : Option (List ℕ))
    → SeatPlaying 0 nothing [] now first waits refused taken0 taken → SeatPlaysWhole (Err halt) 0 now waits new waits' taken taken'
    → SeatReads (Some halt) 0 nothing [] first new waits' taken0 taken'
halted-by-way halt now new first waits waits' refused taken0 taken taken' way plays =
    let whole = plays way.plays.0.still way.plays.0.goes.waits in
    record {
      statements = way.statements ++ whole.0.statements;
      behind = whole.0.behind;
      reads = reads-then first waits whole.0.behind way.statements whole.0.statements way.reads way.stays whole.0.reads;
      stays = fed_on first waits whole.0.behind way.stays whole.0.stays;
      on = (seat-err refused halt 0 nothing now new [] way.statements whole.0.statements ⊥ (LeavesToRead whole.0.behind)
          (LeavesToRead whole.0.behind)
          taken0 taken taken' (λ left. left) way.plays (whole.0.on, tt)).0;
      all = tt;
    }

-- Behind the reading.

-- every whole statement was sent
pub whole-by : (now new : Sight) (waits waits' : Reading) (refused some : Bool) (left0 left taken0 taken taken' : Option (List ℕ))
    → IsRunBy now waits refused left0 left taken0 taken → SeatPlaysWhole (Ok some) 0 now waits new waits' taken taken'
    → StaysFed waits waits' → IsRunBy new waits' (refused || some) left0 left taken0 taken'
whole-by now new waits waits' refused some left0 left taken0 taken taken' run plays stays = record {
  given = run.given;
  gave = run.gave;
  within = subst (λ fed. fed ≤ SCRIPT_LIMIT) (sym stays.0) run.within;
  way = whole-by-way now new (came run.given) waits waits' refused some taken0 taken taken' run.way plays;
}

pub none-by : (now new : Sight) (waits waits' : Reading) (refused some : Bool) (left0 left taken0 taken taken' : Option (List ℕ))
    → IsRunBy now waits refused left0 left taken0 taken → SeatPlaysWhole (Ok some) 0 now waits new waits' taken taken'
    → HasNoStatement waits'
none-by now new waits waits' refused some left0 left taken0 taken taken' run plays =
    none-by-way now new (came run.given) waits waits' refused some taken0 taken taken' run.way plays

-- a piece more was fed
pub fed-by : (now : Sight) (waits waits' : Reading) (refused : Bool) (left0 left left' taken0 taken : Option (List ℕ)) (piece : List ℕ)
    → IsRunBy now waits refused left0 left taken0 taken → Consumes left left' piece → waits' ≡ fed_with waits piece
    → waits'.fed ≤ SCRIPT_LIMIT → IsRunBy now waits' refused left0 left' taken0 taken
fed-by now waits waits' refused left0 left left' taken0 taken piece run gave is within = record {
  given = run.given ++ piece;
  gave = Consumes-trans left0 left left' run.given piece run.gave gave;
  within = within;
  way = subst (λ (reading : Reading). SeatPlaying 0 nothing [] now (came (run.given ++ piece)) reading refused taken0 taken) (sym is)
      (record {
        statements = run.way.statements;
        reads = fed-reads run.given piece waits run.way.statements run.way.reads;
        stays = (ap (λ n. n + length piece) run.way.stays.0 ∙ sym (length-append run.given piece), run.way.stays.1);
        plays = run.way.plays;
      });
}

-- the same where the input has ended
pub finished-by : (now : Sight) (given : List ℕ) (waits : Reading) (refused : Bool) (taken0 taken : Option (List ℕ))
    → SeatPlaying 0 nothing [] now (came given) waits refused taken0 taken
    → SeatPlaying 0 nothing [] now (finished (came given)) (finished waits) refused taken0 taken
finished-by now given waits refused taken0 taken way = record {
  statements = way.statements;
  reads = λ more last comes. way.reads more last (λ e. cc);
  stays = (way.stays.0, refl);
  plays = way.plays;
}

-- as many bytes were given as the limit at most
pub few-by : (now : Sight) (waits : Reading) (refused : Bool) (left0 left taken0 taken : Option (List ℕ))
    → (run : IsRunBy now waits refused left0 left taken0 taken) → length run.given ≤ SCRIPT_LIMIT
few-by now waits refused left0 left taken0 taken run = subst (λ n. n ≤ SCRIPT_LIMIT) run.way.stays.0 run.within

-- the last statements were sent
pub ended-by : (now mid : Sight) (waits waits' : Reading) (refused some : Bool) (left0 left taken0 taken taken' : Option (List ℕ))
    → (run : IsRunBy now waits refused left0 left taken0 taken) → SeatPlaysWhole (Ok some) 0 now (finished waits) mid waits' taken taken'
    → SeatPlaying 0 nothing [] mid (finished (came run.given)) waits' (refused || some) taken0 taken'
ended-by now mid waits waits' refused some left0 left taken0 taken taken' run whole =
    whole-by-way now mid (finished (came run.given)) (finished waits) waits' refused some taken0 taken taken'
    (finished-by now run.given waits refused taken0 taken run.way) whole

-- and none is left
pub ended-none-by : (now mid : Sight) (waits waits' : Reading) (refused some : Bool) (left0 left taken0 taken taken' : Option (List ℕ))
    → (run : IsRunBy now waits refused left0 left taken0 taken) → SeatPlaysWhole (Ok some) 0 now (finished waits) mid waits' taken taken'
    → HasNoStatement waits'
ended-none-by now mid waits waits' refused some left0 left taken0 taken taken' run whole =
    none-by-way now mid (finished (came run.given)) (finished waits) waits' refused some taken0 taken taken'
    (finished-by now run.given waits refused taken0 taken run.way) whole

-- What the seat waits for.

-- something, or nothing
abbrev pub WaitsFor : Sight → Type 0
WaitsFor now = (due : List Sent) × IsDue 0 now due

pub waits-by : (now : Sight) (waits : Reading) (refused : Bool) (left0 left taken0 taken : Option (List ℕ))
    → IsRunBy now waits refused left0 left taken0 taken → WaitsFor now
waits-by now waits refused left0 left taken0 taken run = (run.way.plays.0.still, run.way.plays.0.goes.waits)

-- behind statements that were read
pub waits-whole : (result : Result Bool Halt) (now new : Sight) (waits waits' : Reading) (taken taken' : Option (List ℕ))
    → WaitsFor now → SeatPlaysWhole result 0 now waits new waits' taken taken' → WaitsFor new
waits-whole result now new waits waits' taken taken' due plays =
    let whole = plays due.0 due.1 in (whole.0.on.still, whole.0.on.goes.waits)

-- behind the replies that were written
pub waits-rest : (result : Result Bool Halt) (now new : Sight) (taken taken' : Option (List ℕ)) → WaitsFor now
    → SeatPlays result 0 now [] new taken taken' → WaitsFor new
waits-rest result now new taken taken' due plays = let rest = plays due.0 due.1 in (rest.0.still, rest.0.goes.waits)

-- The number of the seat.

-- what is told by a number that is 0
pub whole-zero : (result : Result Bool Halt) (seat : ℕ) (now new : Sight) (waits waits' : Reading) (taken taken' : Option (List ℕ))
    → seat ≡ 0 → SeatPlaysWhole result seat now waits new waits' taken taken' → SeatPlaysWhole result 0 now waits new waits' taken taken'
whole-zero result seat now new waits waits' taken taken' zero plays =
    subst (λ number. SeatPlaysWhole result number now waits new waits' taken taken') zero plays

pub rest-zero : (result : Result Bool Halt) (seat : ℕ) (now new : Sight) (taken taken' : Option (List ℕ)) → seat ≡ 0
    → SeatPlays result seat now [] new taken taken' → SeatPlays result 0 now [] new taken taken'
rest-zero result seat now new taken taken' zero plays = subst (λ number. SeatPlays result number now [] new taken taken') zero plays
