-- All statements that are whole: what was given to a core and written so far, and how that goes on and ends.
use Rattle.script_run.proofs.Words.{◌++◌, ◌||◌, ◌∙◌, ◌∷◌, ◌≡◌, ◌≢◌, [], ap, Bool, Err, false, Halt, is_refusal, LapsOn, length, List, list_any, NoMemory, None, Ok, Option, Reading, refl, Some, State, Statement, statements_of, StaysFed, TakesFirst, WantsMemory, ℕ}
use Rattle.script_reader.specs.Reading.{AnswersNext}
use Rattle.script_reader.specs.declared.reader.NextStatement.{NextStatement}
use Rattle.script_reader.specs.declared.reader.NextStatement.TheVariants.{Got}
use Rattle.core_state.specs.Fronts.{IsDue}
use Rattle.core_state.specs.Rows.{sight_of}
use Rattle.core_state.specs.Sent.{Sent}
use Rattle.script_run.specs.Front.{LeavesToRead, PlaysBy, ReadsBetween, ReadsOn}
use Rattle.script_run.proofs.LapLemmas.{laps-itself, laps-then}
use Rattle.script_run.proofs.OnLemmas.{by-err, by-none, by-ok, wants-left, eased, eases-none}
use Rattle.script_run.proofs.SharedReadLemmas.{comes-on, leaves-wanting, reads-done, reads-first, reads-itself, reads-then}
use Rattle.script_run.proofs.WholeLemmas.{fed_on}

-- the statements that were read so far were given to a core, and the replies that were there were written
pub record IsPlaying (old : State) (due : List Sent) (now : State) (waits waits' : Reading) (refused : Bool) (taken0 taken : Option (List ℕ)) : Type 0 where
  pub statements : List Statement
  pub reads : ReadsBetween waits statements waits'
  pub stays : StaysFed waits waits'
  pub plays : PlaysBy (Ok refused) old due statements ⊥ now taken0 taken
  pub laps : LapsOn old now plays.0.on.replies

-- how many statements are left
abbrev pub statements_left : Reading → ℕ
statements_left waits = length (statements_of waits.ended (waits.waiting ++ []))

pub starts-playing : (state : State) (due : List Sent) (waits : Reading) (taken : Option (List ℕ)) → IsDue 0 (sight_of state 0) due
    → IsPlaying state due state waits waits false taken taken
starts-playing state due waits taken is = record {
  statements = [];
  reads = reads-itself waits;
  stays = (refl, refl);
  plays = by-none state due taken is;
  laps = laps-itself state;
}

-- one part behind another
pub playing-then : (old between new : State) (due : List Sent) (waits waits' waits'' : Reading) (refused some : Bool) (taken0 taken taken' : Option (List ℕ))
    (others : List Statement) (Left : Type 0) → (way : IsPlaying old due between waits waits' refused taken0 taken) → ReadsBetween waits' others waits'' → StaysFed waits' waits''
    → (plays : PlaysBy (Ok some) between way.plays.0.on.still others Left new taken taken') → LapsOn between new plays.0.on.replies
    → IsPlaying old due new waits waits'' (refused || some) taken0 taken'
playing-then old between new due waits waits' waits'' refused some taken0 taken taken' others Left way reads stays plays laps = record {
  statements = way.statements ++ others;
  reads = reads-then waits waits' waits'' way.statements others way.reads way.stays reads;
  stays = fed_on waits waits' waits'' way.stays stays;
  plays = by-ok refused some old between new due way.statements others ⊥ Left ⊥ taken0 taken taken' way.plays plays;
  laps = laps-then old between new way.plays.0.on.replies plays.0.on.replies way.laps laps;
}

-- every statement that is whole was given
pub whole-done : (old now : State) (due : List Sent) (first waits waits' : Reading) (next : NextStatement) (refused : Bool) (taken0 taken : Option (List ℕ))
    → IsPlaying old due now first waits refused taken0 taken → ((statement : Statement) → next ≢ Got statement) → AnswersNext waits waits' next
    → StaysFed waits waits' → (reads : ReadsOn None old due first now waits' taken0 taken)
    × ((refused ≡ list_any is_refusal reads.plays.on.replies) × LapsOn old now reads.plays.on.replies)
whole-done old now due first waits waits' next refused taken0 taken way never answers stays =
    let done = reads-done waits waits' next never answers stays in (
      record {
        statements = way.statements;
        behind = waits';
        reads = λ more last comes. way.reads more last comes
            ∙ ap (λ list. way.statements ++ list) (done.0 more last (comes-on first waits way.stays more last comes));
        stays = fed_on first waits waits' way.stays stays;
        plays = eased None old now due way.statements ⊥ (LeavesToRead waits') taken0 taken (eases-none ⊥ (LeavesToRead waits')) way.plays.0;
        all = (refl, done.1);
      },
      (way.plays.1, way.laps),
    )

-- The replies halt.

-- at a statement that was read
pub stops-first : (halt : Halt) (old between new : State) (due : List Sent) (waits waits' waits'' waits''' : Reading) (statement : Statement) (refused : Bool)
    (taken0 taken taken' : Option (List ℕ)) → (way : IsPlaying old due between waits waits' refused taken0 taken) → TakesFirst waits' waits'' statement
    → StaysFed waits' waits'' → PlaysBy (Err halt) between way.plays.0.on.still (statement ∷ []) ⊥ new taken taken'
    → ReadsOn (Some halt) old due waits new waits''' taken0 taken'
stops-first halt old between new due waits waits' waits'' waits''' statement refused taken0 taken taken' way first stays plays = record {
  statements = way.statements ++ statement ∷ [];
  behind = waits'';
  reads = reads-then waits waits' waits'' way.statements (statement ∷ []) way.reads way.stays (reads-first waits' waits'' statement first);
  stays = fed_on waits waits' waits'' way.stays stays;
  plays = (by-err refused halt old between new due way.statements (statement ∷ []) ⊥ ⊥ (LeavesToRead waits'') taken0 taken taken' (λ never. absurd never)
      way.plays plays).0;
  all = tt;
}

-- at the reader
pub stops-wanting : (old between : State) (due : List Sent) (waits waits' waits'' waits''' : Reading) (refused : Bool) (taken0 taken : Option (List ℕ))
    → IsPlaying old due between waits waits' refused taken0 taken → WantsMemory waits' waits'' → ReadsOn (Some NoMemory) old due waits between waits''' taken0 taken
stops-wanting old between due waits waits' waits'' waits''' refused taken0 taken way wants = record {
  statements = way.statements;
  behind = waits';
  reads = way.reads;
  stays = way.stays;
  plays = (wants-left refused old between due way.statements ⊥ (LeavesToRead waits') taken0 taken (leaves-wanting waits' waits'' wants) way.plays).0;
  all = tt;
}
