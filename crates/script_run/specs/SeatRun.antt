-- Statements that a seat reads to give them to a core in one turn: which were read, and what there
-- is to read behind them.
use Rattle.std.specs.Prelude.{◌≡◌, ◌≢◌, List, [], ◌∷◌, ◌++◌, Option, Some, None}
use Rattle.script_reader.specs.Reading.{Reading}
use Rattle.script_reader.specs.declared.statement.Statement.{Statement}
use Rattle.script_run.specs.Answer.{HasNoStatement}
use Rattle.script_run.specs.Front.{LeavesToRead, ReadsBetween}
use Rattle.script_run.specs.declared.seat_run.Behind.{Behind}
use Rattle.script_run.specs.declared.seat_run.Behind.TheVariants as behind
use Rattle.script_run.specs.declared.seat_run.StatementRun.{StatementRun}
use Rattle.script_run.specs.declared.seat_run.StatementRunEnd.{StatementRunEnd}
use Rattle.script_run.specs.declared.seat_run.StatementRunEnd.TheVariants as ended

-- the statement that was read and is given by itself, if one is
abbrev pub alone_in : StatementRunEnd → List Statement
alone_in (ended.Alone statement) = statement ∷ []
alone_in other = []

-- none is where the run goes on
abbrev pub alone_at : Option StatementRunEnd → List Statement
alone_at None = []
alone_at (Some end) = alone_in end

-- all that were read of a run
abbrev pub statements_in_run : StatementRun → List Statement
statements_in_run run = run.plain.items ++ alone_in run.end

-- what there is to read behind a run
abbrev pub behind_end : StatementRunEnd → Behind
behind_end ended.Full = behind.More
behind_end (ended.Alone statement) = behind.More
behind_end ended.Last = behind.Nothing
behind_end ended.NoMemory = behind.NoMemory

-- the same where a run may go on
abbrev pub behind_at : Option StatementRunEnd → Behind
behind_at None = behind.More
behind_at (Some end) = behind_end end

-- these statements were read: some of them where there may be more behind, or no other is whole, or
-- one is left for which there was no memory
abbrev pub StopsReading : Behind → (read : List Statement) → Reading → Type 0
StopsReading behind.More read waits = read ≢ []
StopsReading behind.Nothing read waits = HasNoStatement waits
StopsReading behind.NoMemory read waits = LeavesToRead waits

-- the next statement was read, if there is one, and stands behind those of the run or is the one by
-- itself
pub record ReadsNext (ended : Option StatementRunEnd) (waits : Reading) (before : List Statement)
    (waits' : Reading) (after : List Statement) : Type 0 where
  pub read : List Statement
  pub are : after ++ alone_at ended ≡ before ++ read
  pub reads : ReadsBetween waits read waits'
  pub stops : StopsReading (behind_at ended) read waits'

-- the statements of a run were read, and no others
pub record ReadsRun (run : StatementRun) (waits waits' : Reading) : Type 0 where
  pub reads : ReadsBetween waits (statements_in_run run) waits'
  pub stops : StopsReading (behind_end run.end) (statements_in_run run) waits'
