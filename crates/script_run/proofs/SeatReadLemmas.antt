-- What a seat of a board sent of the statements that are whole, what was written so far, and how that goes on.
use Rattle.script_run.proofs.Words.{◌++◌, ◌||◌, [], Bool, false, List, Ok, Option, Reading, refl, Statement, StaysFed, ℕ}
use Rattle.core_state.specs.Fronts.{IsDue}
use Rattle.core_state.specs.Rows.{Sight}
use Rattle.core_state.specs.Sent.{Sent}
use Rattle.script_run.specs.Front.{ReadsBetween}
use Rattle.script_run.specs.SeatFront.{SeatPlaysBy}
use Rattle.script_run.proofs.SeatFrontLemmas.{seat-none, seat-ok}
use Rattle.script_run.proofs.SharedReadLemmas.{reads-itself, reads-then}
use Rattle.script_run.proofs.WholeLemmas.{fed_on}

-- the statements that were read so far were sent, and the replies that were taken so far written
pub record SeatPlaying (seat : ℕ) (old : Sight) (due : List Sent) (now : Sight) (waits waits' : Reading) (refused : Bool)
    (taken0 taken : Option (List ℕ)) : Type 0 where
  pub statements : List Statement
  pub reads : ReadsBetween waits statements waits'
  pub stays : StaysFed waits waits'
  pub plays : SeatPlaysBy (Ok refused) seat old due statements ⊥ now taken0 taken

pub seat-starts : (seat : ℕ) (sight : Sight) (due : List Sent) (waits : Reading) (taken : Option (List ℕ)) → IsDue seat sight due
    → SeatPlaying seat sight due sight waits waits false taken taken
seat-starts seat sight due waits taken is = record {
  statements = [];
  reads = reads-itself waits;
  stays = (refl, refl);
  plays = seat-none seat sight due taken is;
}

-- one part behind another
pub seat-then : (seat : ℕ) (old between new : Sight) (due : List Sent) (waits waits' waits'' : Reading) (refused some : Bool)
    (taken0 taken taken' : Option (List ℕ)) (others : List Statement) (Left : Type 0)
    → (way : SeatPlaying seat old due between waits waits' refused taken0 taken) → ReadsBetween waits' others waits'' → StaysFed waits' waits''
    → SeatPlaysBy (Ok some) seat between way.plays.0.still others Left new taken taken'
    → SeatPlaying seat old due new waits waits'' (refused || some) taken0 taken'
seat-then seat old between new due waits waits' waits'' refused some taken0 taken taken' others Left way reads stays plays = record {
  statements = way.statements ++ others;
  reads = reads-then waits waits' waits'' way.statements others way.reads way.stays reads;
  stays = fed_on waits waits' waits'' way.stays stays;
  plays = seat-ok refused some seat old between new due way.statements others ⊥ Left ⊥ taken0 taken taken' way.plays plays;
}
