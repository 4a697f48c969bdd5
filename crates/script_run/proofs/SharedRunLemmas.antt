-- A run over a core, from what was read and written so far.
use Rattle.script_run.proofs.Words.{◌++◌, ◌+◌, ◌||◌, ◌∙◌, ◌≡◌, ◌≤◌, [], ap, append_assoc, arith, Bool, Consumes, Consumes-nil, Consumes-trans, empty_core, false, fed_with, HasNoStatement, length, length-append, List, Ok, Option, Reading, refl, RunSettings, Seat, SCRIPT_LIMIT, State, Statement, statements_of, StaysFed, subst, sym, ℕ}
use Rattle.core_state.specs.Fronts.{IsDue}
use Rattle.core_state.specs.Rows.{sight_of}
use Rattle.script_run.specs.Front.{LeavesToRead, PlaysWhole, ReadsBetween}
use Rattle.script_run.proofs.FrontNewLemmas.{new-seat}
use Rattle.script_run.proofs.OnLemmas.{due-none}
use Rattle.script_run.proofs.RunLemmas.{came, finished}
use Rattle.script_run.proofs.SharedWholeLemmas.{IsPlaying, playing-then, starts-playing}

-- these bytes were given, and the statements that are whole were given to a core that was empty
pub record IsShared (settings : RunSettings) (now : State) (waits : Reading) (refused : Bool) (left0 left taken0 taken : Option (List ℕ)) : Type 0 where
  pub given : List ℕ
  pub gave : Consumes left0 left given
  pub within : waits.fed ≤ SCRIPT_LIMIT
  pub way : IsPlaying (empty_core settings) [] now (came given) waits refused taken0 taken

-- an empty core waits for nothing
pub new-due : (settings : RunSettings) → IsDue 0 (sight_of (empty_core settings) 0) []
new-due settings = due-none 0 (empty_core settings) (ap (λ (seat : Seat). seat.pending) (new-seat settings))

pub starts-shared : (settings : RunSettings) (now : State) (waits : Reading) (left taken : Option (List ℕ)) → now ≡ empty_core settings
    → waits ≡ record { waiting = []; fed = 0; ended = false } → IsShared settings now waits false left left taken taken
starts-shared settings now waits left taken is none = rw (is, none) (record {
  given = [];
  gave = Consumes-nil left;
  within = omega arith;
  way = starts-playing (empty_core settings) [] (came []) taken (new-due settings);
})

-- all statements that were whole were given, behind others
pub whole-way : (old now new : State) (first waits waits' : Reading) (refused some : Bool) (taken0 taken taken' : Option (List ℕ))
    → IsPlaying old [] now first waits refused taken0 taken → PlaysWhole (Ok some) now waits new waits' taken taken'
    → IsPlaying old [] new first waits' (refused || some) taken0 taken'
whole-way old now new first waits waits' refused some taken0 taken taken' way plays =
    let whole = plays way.plays.0.on.still way.plays.0.on.goes.waits in
    subst (λ reader. IsPlaying old [] new first reader (refused || some) taken0 taken') whole.0.all.0
    (playing-then old now new [] first waits whole.0.behind refused some taken0 taken taken' whole.0.statements (LeavesToRead whole.0.behind) way
    whole.0.reads whole.0.stays (whole.0.plays, whole.1.0) whole.1.1)

-- and no statement is left that is whole
pub way-none : (old now new : State) (first waits waits' : Reading) (refused some : Bool) (taken0 taken taken' : Option (List ℕ))
    → IsPlaying old [] now first waits refused taken0 taken → PlaysWhole (Ok some) now waits new waits' taken taken' → HasNoStatement waits'
way-none old now new first waits waits' refused some taken0 taken taken' way plays = (plays way.plays.0.on.still way.plays.0.on.goes.waits).0.all.1

-- every whole statement was given to the core
pub whole-shared : (settings : RunSettings) (now new : State) (waits waits' : Reading) (refused some : Bool) (left0 left taken0 taken taken' : Option (List ℕ))
    → IsShared settings now waits refused left0 left taken0 taken → PlaysWhole (Ok some) now waits new waits' taken taken' → StaysFed waits waits'
    → IsShared settings new waits' (refused || some) left0 left taken0 taken'
whole-shared settings now new waits waits' refused some left0 left taken0 taken taken' run plays stays = record {
  given = run.given;
  gave = run.gave;
  within = subst (λ fed. fed ≤ SCRIPT_LIMIT) (sym stays.0) run.within;
  way = whole-way (empty_core settings) now new (came run.given) waits waits' refused some taken0 taken taken' run.way plays;
}

-- what was read of some bytes was read of them and those behind them
pub fed-reads : (given piece : List ℕ) (waits : Reading) (statements : List Statement) → ReadsBetween (came given) statements waits
    → ReadsBetween (came (given ++ piece)) statements (fed_with waits piece)
fed-reads given piece waits statements reads more last comes =
    ap (statements_of last) (append_assoc given piece more) ∙ reads (piece ++ more) last (λ e. cc)
    ∙ ap (λ bytes. statements ++ statements_of last bytes) (sym (append_assoc waits.waiting piece more))

-- a piece more was fed
pub fed-shared : (settings : RunSettings) (now : State) (waits waits' : Reading) (refused : Bool) (left0 left left' taken0 taken : Option (List ℕ)) (piece : List ℕ)
    → IsShared settings now waits refused left0 left taken0 taken → Consumes left left' piece → waits' ≡ fed_with waits piece → waits'.fed ≤ SCRIPT_LIMIT
    → IsShared settings now waits' refused left0 left' taken0 taken
fed-shared settings now waits waits' refused left0 left left' taken0 taken piece run gave is within = record {
  given = run.given ++ piece;
  gave = Consumes-trans left0 left left' run.given piece run.gave gave;
  within = within;
  way = rw is (record {
    statements = run.way.statements;
    reads = fed-reads run.given piece waits run.way.statements run.way.reads;
    stays = (ap (λ n. n + length piece) run.way.stays.0 ∙ sym (length-append run.given piece), run.way.stays.1);
    plays = run.way.plays;
    laps = run.way.laps;
  });
}

-- the same where the input has ended
pub finished-way : (old now : State) (given : List ℕ) (waits : Reading) (refused : Bool) (taken0 taken : Option (List ℕ))
    → IsPlaying old [] now (came given) waits refused taken0 taken → IsPlaying old [] now (finished (came given)) (finished waits) refused taken0 taken
finished-way old now given waits refused taken0 taken way = record {
  statements = way.statements;
  reads = λ more last comes. way.reads more last (λ e. cc);
  stays = (way.stays.0, refl);
  plays = way.plays;
  laps = way.laps;
}

-- as many bytes were given as the limit at most
pub few-given : (settings : RunSettings) (now : State) (waits : Reading) (refused : Bool) (left0 left taken0 taken : Option (List ℕ))
    → (run : IsShared settings now waits refused left0 left taken0 taken) → length run.given ≤ SCRIPT_LIMIT
few-given settings now waits refused left0 left taken0 taken run = subst (λ n. n ≤ SCRIPT_LIMIT) run.way.stays.0 run.within

-- the last statements were given to the core
pub ended-way : (settings : RunSettings) (now mid : State) (waits waits' : Reading) (refused some : Bool) (left0 left taken0 taken taken' : Option (List ℕ))
    → (run : IsShared settings now waits refused left0 left taken0 taken) → PlaysWhole (Ok some) now (finished waits) mid waits' taken taken'
    → IsPlaying (empty_core settings) [] mid (finished (came run.given)) waits' (refused || some) taken0 taken'
ended-way settings now mid waits waits' refused some left0 left taken0 taken taken' run whole =
    whole-way (empty_core settings) now mid (finished (came run.given)) (finished waits) waits' refused some taken0 taken taken'
    (finished-way (empty_core settings) now run.given waits refused taken0 taken run.way) whole
