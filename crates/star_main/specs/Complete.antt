-- How a call ends of which no read, no write and no call of the door failed: with all that was
-- asked for, or for want of memory.
use Rattle.std.specs.Prelude.{◌≡◌, ℕ, ◌⊎◌, List}
use Rattle.std.specs.Io.KnownBytes.{Appends}
use Rattle.star_io.specs.Faults.{FailedOnce}
use Rattle.star_io.specs.Link.{ReadingSide, WritingSide}
use Rattle.star_io.specs.declared.run_end.RunEnd.{RunEnd}
use Rattle.star_io.specs.declared.run_end.RunEnd.TheVariants.{Clean, SomeRefused, ScriptLimit}
use Rattle.script_run.specs.Run.{AnswersScript}
use Rattle.make_load.specs.Made.{WritesMade}
use Rattle.make_load.specs.declared.made.MadeEnd.{MadeEnd}
use Rattle.make_load.specs.declared.made.MadeEnd.TheVariants as made_end
use Rattle.star_main.specs.Headline.{status_of}
use Rattle.star_main.specs.Made.{made_status_of}
use Rattle.star_main.specs.Modes.{HasScript, IsMade, Serves}
use Rattle.star_main.specs.declared.settings.Settings.{Settings}

-- a read failed in the call
abbrev pub ReadFailed : ReadingSide → ReadingSide → Type 0
ReadFailed from from' = FailedOnce from.faults from'.faults from'.failed

-- a write failed in the call
abbrev pub WriteFailed : WritingSide → WritingSide → Type 0
WriteFailed to to' = FailedOnce to.faults to'.faults to'.failed

-- a script was answered up to this end, which the status tells
abbrev pub EndsBy : RunEnd → (status : ℕ) → (from from' : ReadingSide) → (to to' : WritingSide)
    → Type 0
EndsBy end status from from' to to' = (status ≡ status_of end) × AnswersScript end from from' to to'

-- all that the source gave was read to its end, and all replies to it were written, none of which
-- is a refusal or `memory`, or some; or no memory was left; or more bytes were given than a script
-- may have, and all replies to what was whole within them were written
abbrev pub EndsScript : (status : ℕ) → (from from' : ReadingSide) → (to to' : WritingSide) → Type 0
EndsScript status from from' to to' =
    EndsBy Clean status from from' to to' ⊎ (EndsBy SomeRefused status from from' to to'
    ⊎ ((status ≡ 5) ⊎ EndsBy ScriptLimit status from from' to to'))

-- the sink took what this end, which the status tells, says of the line that sums up the
-- replies to the made script
pub record MakesBy (end : MadeEnd) (seed rows status : ℕ) (to to' : WritingSide) : Type 0 where
  pub told : status ≡ made_status_of end
  pub wanted : List ℕ
  pub written : List ℕ
  pub took : Appends to.taken to'.taken written
  pub writes : WritesMade end wanted seed rows written

-- the line was written, and no reply is a refusal or `memory`, or some is; or no memory was left
abbrev pub EndsMade : (seed rows status : ℕ) → (to to' : WritingSide) → Type 0
EndsMade seed rows status to to' = MakesBy made_end.Clean seed rows status to to'
    ⊎ (MakesBy made_end.SomeRefused seed rows status to to' ⊎ (status ≡ 5))

-- Where neither source nor sink failed in a call that runs a script, the sink did not in one that
-- makes it, or the door did not in one that serves, all was done that was asked for, or no memory
-- was left. A script within its limit has no other end; at 6 more bytes were given. That the counts
-- of faults stay at 0 and 1 stands with the causes (`HasCause`).
pub record IsComplete (settings : Settings) (status : ℕ) (from from' : ReadingSide)
    (to to' : WritingSide) (DoorFailed : Type 0)
    : Type 0 where
  pub script : HasScript settings → ¬ ReadFailed from from' → ¬ WriteFailed to to'
      → EndsScript status from from' to to'
  pub made : IsMade settings → ¬ WriteFailed to to'
      → EndsMade settings.seed settings.rows status to to'
  pub served : Serves settings → ¬ DoorFailed → (status ≡ 0) ⊎ (status ≡ 5)
