-- What a run of the made workload writes, and what the core tells of it.
use Rattle.std.specs.Prelude.{◌≡◌, ◌≢◌, ◌↔◌, ℕ, Bool, true, false, List, [], Option, None, IfSome, IsNone, IfOk, Result, Ok, Err}
use Rattle.std.specs.Io.KnownBytes.{Appends}
use Rattle.star_io.specs.Faults.{FailedOnce}
use Rattle.star_io.specs.Link.{WritingSide}
use Rattle.star_io.specs.declared.failed.Failed.{Failed}
use Rattle.star_io.specs.declared.run_end.RunEnd.{RunEnd}
use Rattle.star_io.specs.declared.run_end.RunEnd.TheVariants as run_end
use Rattle.star_values.specs.declared.no_memory.NoMemory as values
use Rattle.make_load.specs.Script.{made_script}
use Rattle.make_load.specs.Summary.{summary_of, summary_text}
use Rattle.core_state.specs.Sound.{empty_core}
use Rattle.core_state.specs.State.{State}
use Rattle.core_state.specs.declared.settings.RunSettings.{RunSettings}
use Rattle.event_core.specs.CoreParts.{CoreParts}
use Rattle.event_core.specs.Seen.{state_of}
use Rattle.script_run.specs.End.{end_of_all}
use Rattle.script_run.specs.Front.{IsRun}
use Rattle.script_run.specs.Run.{IsProperFront, script_replies, script_text, some_refused}
use Rattle.script_run.specs.Shared.{CutScript, TellsFront, TellsOf}
use Rattle.make_load.specs.declared.line.Summed.{Summed}
use Rattle.make_load.specs.declared.made.MadeDone.{MadeDone}
use Rattle.make_load.specs.declared.made.MadeEnd.{MadeEnd}
use Rattle.make_load.specs.declared.made.MadeEnd.TheVariants.{Clean, SomeRefused, WriteFault, NoMemory}
use Rattle.make_load.specs.declared.ran.Ran.{Ran}

-- the line that sums up the replies to a script, where memory was wanted for the
-- statements at these places
abbrev pub line_of : (wanted script : List ℕ) → List ℕ
line_of wanted script = summary_text (summary_of (script_replies wanted true script))

-- the same for the made script
abbrev pub made_line : (wanted : List ℕ) → (seed rows : ℕ) → List ℕ
made_line wanted seed rows = line_of wanted (made_script seed rows)

-- all of a script
abbrev pub whole_of : (script : List ℕ) → CutScript
whole_of script = record { ended = true; script = script }

-- what was written of a line, by the end of the run: the whole line, where some reply is a refusal
-- or none is, a proper front of it, or nothing
abbrev pub WritesLine : MadeEnd → (line : List ℕ) → (refused : Bool) → (written : List ℕ) → Type 0
WritesLine Clean line refused written = (written ≡ line) × (refused ≡ false)
WritesLine SomeRefused line refused written = (written ≡ line) × (refused ≡ true)
WritesLine WriteFault line refused written = IsProperFront written line
WritesLine NoMemory line refused written = written ≡ []

-- the same for the line of the made script
abbrev pub WritesMade : MadeEnd → (wanted : List ℕ) → (seed rows : ℕ) → (written : List ℕ) → Type 0
WritesMade end wanted seed rows written =
    WritesLine end (made_line wanted seed rows)
    (some_refused wanted true (made_script seed rows)) written

-- what a core of these settings tells of a script that it ran to its end, where memory was wanted
-- for the statements at some places: that they were submitted and replied to, as its seat 0 sees
-- it; and where nobody else had the core, its history, its queries and its laps. Whether some reply
-- is a refusal is not told by it
abbrev pub TellsMade : (Alone : Type 0) → (settings : RunSettings) → (wanted script : List ℕ)
    → State → Type 0
TellsMade Alone settings wanted script core =
    (Alone → TellsOf wanted (whole_of script) settings.slots core)
    × TellsFront Alone settings run_end.Clean true wanted script core

-- The sink took these bytes, and they are what the end says of the made script. Memory ran out for
-- its statements at the places `wanted`. They are those of `memory` in the text of the replies that
-- the line sums up (`IsRan`), and the line tells how many they are. A core that is handed back
-- tells of the same script and of the same places; `Alone` is what is known if nobody else had it.
pub record AnswersMade (Alone : Type 0) (settings : RunSettings) (seed rows : ℕ)
    (core : Option CoreParts) (end : MadeEnd)
    (to to' : WritingSide) : Type 0 where
  pub wanted : List ℕ
  pub written : List ℕ
  pub took : Appends to.taken to'.taken written
  pub writes : WritesMade end wanted seed rows written
  pub told : IfSome core (λ parts.
      TellsMade Alone settings wanted (made_script seed rows) (state_of parts))

-- which faults came: where a write failed the last one alone, and else none
abbrev pub CountsMade : MadeEnd → (to to' : WritingSide) → Type 0
CountsMade WriteFault to to' = FailedOnce to.faults to'.faults to'.failed
CountsMade other to to' = to'.faults ≡ to.faults

-- the end of a run whose line was written, or not all of it
abbrev pub end_behind : Result (Unit {0}) Failed → (refused : Bool) → MadeEnd
end_behind (Ok done) false = Clean
end_behind (Ok done) true = SomeRefused
end_behind (Err failed) refused = WriteFault

-- This is the text of the replies to all of a script, and memory ran out for its statements at the
-- places `wanted`. The text determines these places, for a script within the limit:
-- `the_text_tells_where_memory_was_wanted` of `star_store`.
abbrev pub IsTextOf : (replies script : List ℕ) → Type 0
IsTextOf replies script = (wanted : List ℕ) × (replies ≡ script_text wanted true script)

-- A script was run to its end, and some reply was a refusal or none was. This is the text of the
-- replies, which determines the places `wanted` as it does in `IsTextOf`, and a core that there is
-- tells of the script.
pub record IsRan (Alone : Type 0) (settings : RunSettings) (script replies : List ℕ)
    (refused : Bool) (core : Option CoreParts) : Type 0 where
  pub wanted : List ℕ
  pub text : replies ≡ script_text wanted true script
  pub refusal : some_refused wanted true script ≡ refused
  pub tells : IfSome core (λ parts. TellsMade Alone settings wanted script (state_of parts))

-- what is told of the run of a script in memory, where it came to its end
abbrev pub RunsText : (Alone : Type 0) → (settings : RunSettings) → (script : List ℕ) → Ran → Type 0
RunsText Alone settings script ran =
    (refused : Bool) → ran.end ≡ end_of_all refused
    → IsRan Alone settings script ran.replies.taken refused ran.core

-- the replies to a script whose run ended so were summed up: it came to its
-- end, and this is their line
abbrev pub IsSummed : (run_end : RunEnd) → (script replies : List ℕ) → Summed → Type 0
IsSummed run_end script replies summed = (run_end ≡ end_of_all summed.refused)
    × ((wanted : List ℕ) → replies ≡ script_text wanted true script
    → summed.line ≡ line_of wanted script)

-- what was written of the line, if there is one
pub record WritesSome (end : MadeEnd) (line : List ℕ) (refused : Bool)
    (to to' : WritingSide) : Type 0 where
  pub ends : end ≢ NoMemory
  pub written : List ℕ
  pub took : Appends to.taken to'.taken written
  pub writes : WritesLine end line refused written

-- the same, and nothing where no memory was left
abbrev pub WritesSummed : Result Summed values.NoMemory → MadeEnd → (to to' : WritingSide) → Type 0
WritesSummed (Ok summed) end to to' = WritesSome end summed.line summed.refused to to'
WritesSummed (Err wanting) end to to' = (end ≡ NoMemory) × (to' ≡ to)

-- how the run of a text in memory ends that is no longer than a script may be: no read of it fails,
-- and the limit is not passed
pub record EndsText (end : RunEnd) : Type 0 where
  pub read : end ≢ run_end.ReadFault
  pub limit : end ≢ run_end.ScriptLimit

-- a core of these settings is handed back but where a run is in want of memory, and where nobody
-- else had it, steps of a run lead to it from an empty one
pub record HandsBack (Alone : Type 0) (settings : RunSettings) (handed : Option CoreParts)
    (Wanting : Type 0) : Type 0 where
  pub core : IsNone handed ↔ Wanting
  pub run : Alone → IfSome handed (λ parts. IsRun (empty_core settings) (state_of parts))

-- the core of a run is handed on, unless no memory was left
abbrev pub HandsOn : MadeEnd → (found handed : Option CoreParts) → Type 0
HandsOn NoMemory found handed = handed ≡ None
HandsOn other found handed = handed ≡ found

-- the replies of a run were summed up, the line was written, and the core was handed on
pub record TellsRan (script : List ℕ) (ran : Ran) (done : MadeDone)
    (to to' : WritingSide) : Type 0 where
  pub summed : Result Summed values.NoMemory
  pub is : IfOk summed (IsSummed ran.end script ran.replies.taken)
  pub writes : WritesSummed summed done.end to to'
  pub hands : HandsOn done.end ran.core done.core
