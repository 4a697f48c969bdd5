-- A reader over many calls: what was fed and what was taken.
use Rattle.std.specs.Prelude.{◌≡◌, ℕ, Bool, false, List, [], ◌∷◌, ◌++◌, take}
use Rattle.script_reader.specs.declared.statement.Statement.{Statement}
use Rattle.script_reader.specs.declared.reader.TheConstants.{SCRIPT_LIMIT}
use Rattle.script_reader.specs.Reading.{Reading, no_reading, after_piece, TakesFirst, MeansTheSame, StaysFed}
use Rattle.script_reader.specs.Script.{statements_of}

-- what a call did to a reader: a piece was fed, a statement was taken, or none was
pub data ReaderStep : Type 0 where
  Fed : List ℕ → ReaderStep
  Taken : Statement → ReaderStep
  Passed : ReaderStep

-- the call did this, before the end of the input
abbrev pub IsStep : Reading → ReaderStep → Reading → Type 0
IsStep old (Fed piece) new = (old.ended ≡ false) × (new ≡ after_piece old piece)
IsStep old (Taken statement) new =
    (old.ended ≡ false) × TakesFirst old new statement × StaysFed old new
IsStep old Passed new = (old.ended ≡ false) × MeansTheSame old new × StaysFed old new

-- the calls did these, one after another
abbrev pub Steps : Reading → List ReaderStep → Reading → Type 0
Steps old [] new = new ≡ old
Steps old (step ∷ steps) new =
    (between : Reading) × IsStep old step between × Steps between steps new

-- the pieces that were fed, joined
abbrev pub pieces_joined : List ReaderStep → List ℕ
pieces_joined [] = []
pieces_joined (Fed piece ∷ steps) = piece ++ pieces_joined steps
pieces_joined (Taken statement ∷ steps) = pieces_joined steps
pieces_joined (Passed ∷ steps) = pieces_joined steps

-- the bytes that were fed, up to the limit
abbrev pub bytes_fed : List ReaderStep → List ℕ
bytes_fed steps = take SCRIPT_LIMIT (pieces_joined steps)

-- the statements that were taken, in order
abbrev pub taken_in : List ReaderStep → List Statement
taken_in [] = []
taken_in (Fed piece ∷ steps) = taken_in steps
taken_in (Taken statement ∷ steps) = statement ∷ taken_in steps
taken_in (Passed ∷ steps) = taken_in steps

-- however the bytes were cut, the statements taken are the first of those of all bytes that were
-- fed, and what waits then is behind them
abbrev pub StatementsComeInOrder : Type 0
StatementsComeInOrder =
    (steps : List ReaderStep) (new : Reading)
    → Steps no_reading steps new → (more : List ℕ) (last : Bool)
    → statements_of last (bytes_fed steps ++ more)
    ≡ taken_in steps ++ statements_of last (new.waiting ++ more)
