-- What one read does to a run: which bytes it gave, and what became of them.
use Rattle.std.specs.Prelude.{◌≡◌, ℕ, ◌+◌, ◌<◌, ◌≤◌, false, List, [], ◌++◌, length}
use Rattle.std.specs.Io.KnownBytes.{Consumes}
use Rattle.star_io.specs.Faults.{FailedOnce}
use Rattle.star_io.specs.Link.{ReadingSide}
use Rattle.script_reader.specs.Reading.{Reading}
use Rattle.script_reader.specs.declared.reader.TheConstants.{SCRIPT_LIMIT}
use Rattle.script_run.specs.Run.{HasEnded}
use Rattle.script_run.specs.declared.piece.Piece.{Piece}
use Rattle.script_run.specs.declared.piece.Piece.TheVariants.{Fed, Ended, Fault, Limit, NoMemory}

-- a reader that may be fed: it was fed no more than the limit, and its input has not ended
pub record MayBeFed (waits : Reading) : Type 0 where
  pub within : waits.fed ≤ SCRIPT_LIMIT
  pub not_ended : waits.ended ≡ false

-- the reader after these bytes more
abbrev pub fed_with : Reading → List ℕ → Reading
fed_with waits given =
    record waits { waiting = waits.waiting ++ given; fed = waits.fed + length given }

-- the bytes that a read gave: the reader has them, or they are those past the limit, or
-- there was no memory for them
abbrev pub TakesGiven : Piece → Reading → Reading → List ℕ → Type 0
TakesGiven Fed old new given =
    (new ≡ fed_with old given) × (old.fed < new.fed) × (new.fed ≤ SCRIPT_LIMIT)
TakesGiven Ended old new given = (new ≡ old) × (given ≡ [])
TakesGiven Fault old new given = (new ≡ old) × (given ≡ [])
TakesGiven Limit old new given = (new ≡ old) × (old.fed ≡ SCRIPT_LIMIT) × (length given ≡ 1)
TakesGiven NoMemory old new given = (new ≡ old) × (old.fed + length given ≤ SCRIPT_LIMIT)

-- the next bytes of the source were read
abbrev pub TakesPiece : Piece → Reading → Reading → (from from' : ReadingSide) → Type 0
TakesPiece piece old new from from' =
    (given : List ℕ) × Consumes from.left from'.left given × TakesGiven piece old new given

-- the source has ended at the end of its input alone
abbrev pub FindsEnd : Piece → (from from' : ReadingSide) → Type 0
FindsEnd Ended from from' = HasEnded from'
FindsEnd other from from' = from'.ended ≡ from.ended

-- one read failed, the last one, at a fault alone
abbrev pub CountsPieceFault : Piece → (from from' : ReadingSide) → Type 0
CountsPieceFault Fault from from' = FailedOnce from.faults from'.faults from'.failed
CountsPieceFault other from from' = from'.faults ≡ from.faults

-- the byte past the limit was read, or nothing
abbrev pub ReadsPast : Piece → (from from' : ReadingSide) → Type 0
ReadsPast Ended from from' = Consumes from.left from'.left []
ReadsPast Fault from from' = Consumes from.left from'.left []
ReadsPast Limit from from' =
    (given : List ℕ) × Consumes from.left from'.left given × (length given ≡ 1)
ReadsPast Fed from from' = ⊥
ReadsPast NoMemory from from' = ⊥
