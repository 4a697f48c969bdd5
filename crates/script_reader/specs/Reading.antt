-- A reader that is fed a script in pieces, and what its statements are.
use Rattle.std.specs.Prelude.{◌≡◌, ◌≢◌, ℕ, ◌+◌, ◌-◌, ◌<◌, min, Bool, true, false, List, [], ◌∷◌, ◌++◌, length, take}
use Rattle.script_reader.specs.declared.reader.TheConstants.{SCRIPT_LIMIT}
use Rattle.script_reader.specs.declared.reader.NextStatement.{NextStatement}
use Rattle.script_reader.specs.declared.reader.NextStatement.TheVariants.{Got, NotYet, End}
use Rattle.script_reader.specs.declared.statement.Statement.{Statement}
use Rattle.script_reader.specs.declared.pending_bytes.TheConstants.{SHORTENED_BYTES}
use Rattle.script_reader.specs.Script.{statements_of, whole_lines}

-- what a reader stands for: the bytes that were fed and stand in no statement that was taken, how
-- many bytes were fed in all, but at most one past the limit, and whether the input has ended
pub record Reading : Type 0 where
  pub waiting : List ℕ
  pub fed : ℕ
  pub ended : Bool

-- a reader that was fed nothing
abbrev pub no_reading : Reading
no_reading = record { waiting = []; fed = 0; ended = false }

-- the reader after a piece more: bytes past the limit are not taken
abbrev pub after_piece : Reading → List ℕ → Reading
after_piece reading piece = record reading {
  waiting = reading.waiting ++ take (SCRIPT_LIMIT - reading.fed) piece;
  fed = min (reading.fed + length piece) (SCRIPT_LIMIT + 1);
}

-- the bytes that may still come: none where the input has ended, and then those that came are all
abbrev pub May : (ended : Bool) → (more : List ℕ) → (last : Bool) → Type 0
May ended more last = ended ≡ true → (more ≡ []) × (last ≡ true)

-- the same behind the bytes that wait
abbrev pub MayCome : Reading → (more : List ℕ) → (last : Bool) → Type 0
MayCome reading more last = May reading.ended more last

-- the statement is the first that waits, whatever comes behind, and what waits then is behind it
abbrev pub TakesFirst : Reading → Reading → Statement → Type 0
TakesFirst old new statement = (more : List ℕ) (last : Bool) → MayCome old more last
    → statements_of last (old.waiting ++ more)
    ≡ statement ∷ statements_of last (new.waiting ++ more)

-- what waits means the same, whatever comes behind: lines that begin no statement may be given up
abbrev pub MeansTheSame : Reading → Reading → Type 0
MeansTheSame old new = (more : List ℕ) (last : Bool) → MayCome old more last
    → statements_of last (new.waiting ++ more) ≡ statements_of last (old.waiting ++ more)

-- the counts stay
abbrev pub StaysFed : Reading → Reading → Type 0
StaysFed old new = (new.fed ≡ old.fed) × (new.ended ≡ old.ended)

-- what is answered of the first statement that waits
abbrev pub AnswersNext : Reading → Reading → NextStatement → Type 0
AnswersNext old new (Got statement) = TakesFirst old new statement
AnswersNext old new NotYet =
    (old.ended ≡ false) × (statements_of false old.waiting ≡ [])
    × (statements_of false new.waiting ≡ []) × MeansTheSame old new
AnswersNext old new End =
    (old.ended ≡ true) × (statements_of true old.waiting ≡ [])
    × (statements_of true new.waiting ≡ [])

-- where memory was wanted what waits means the same, and at the end of the
-- input a statement is left
abbrev pub WantsMemory : Reading → Reading → Type 0
WantsMemory old new =
    (old.ended ≡ true → statements_of true old.waiting ≢ []) × MeansTheSame old new

-- where nothing that waits is a whole line, few bytes wait: a line that is coming is not kept whole,
-- however long it becomes. Behind a whole line that waits they are the block of a `load`
abbrev pub KeepsShort : Reading → NextStatement → Type 0
KeepsShort new (Got statement) = Unit {0}
KeepsShort new NotYet =
    whole_lines false new.waiting ≡ [] → length new.waiting < SHORTENED_BYTES
KeepsShort new End = Unit {0}
