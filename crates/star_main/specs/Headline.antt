-- The headline: what the program writes is the replies to its script, each
-- query answered as if alone.
use Rattle.std.specs.Prelude.{◌≡◌, ℕ, ◌≤◌, Option}
use Rattle.star_io.specs.Faults.{FailedOnce, FailedOnceAtMost}
use Rattle.star_io.specs.Link.{ReadingSide, WritingSide}
use Rattle.star_io.specs.declared.run_end.RunEnd.{RunEnd}
use Rattle.star_io.specs.declared.run_end.RunEnd.TheVariants.{Clean, SomeRefused, ReadFault, WriteFault, NoMemory, ScriptLimit}
use Rattle.core_state.specs.declared.settings.RunSettings.{RunSettings}
use Rattle.event_core.specs.CoreParts.{CoreParts}
use Rattle.script_run.specs.Shared.{AnswersShared}

-- the status of a run
abbrev pub status_of : RunEnd → ℕ
status_of Clean = 0
status_of SomeRefused = 1
status_of ReadFault = 3
status_of WriteFault = 4
status_of NoMemory = 5
status_of ScriptLimit = 6

-- The run has an end, which the status tells, and answered its script up to there: the source gave
-- some bytes in the call, the sink took others, and these are all replies to the statements of
-- those, in order, where nothing is left at the source; where a read failed or the limit was
-- passed, to those that were whole by then; where a write failed, a proper front of the replies;
-- where no memory was left for the words or the run, a front of them, and a proper one unless the
-- reading had met no end. At some places memory was wanted for the statement alone; the replies
-- tell which. The core that is handed back, if one is, tells of the same script: of what its seat 0
-- was given and took, and where no workers shared it, of its queries and laps.
pub record Headline (settings : RunSettings) (core : Option CoreParts) (status : ℕ)
    (from from' : ReadingSide)
    (to to' : WritingSide) : Type 0 where
  pub end : RunEnd
  pub told : status ≡ status_of end
  pub answers : AnswersShared (settings.workers ≡ 0) settings core end from from' to to'

-- A status that tells a fault has its cause in the call: one read or one write failed, the last
-- one, and no other did. Without a fault the counts stay, and so they do where a call of the door
-- failed; where a write failed or no memory was left, the last read may have failed before.
pub record HasCause (status : ℕ) (from from' : ReadingSide) (to to' : WritingSide) : Type 0 where
  pub unfailed : status ≤ 2 → (from'.faults ≡ from.faults) × (to'.faults ≡ to.faults)
  pub read_fault : status ≡ 3
      → FailedOnce from.faults from'.faults from'.failed × (to'.faults ≡ to.faults)
  pub write_fault : status ≡ 4
      → FailedOnceAtMost from.faults from'.faults from'.failed
      × FailedOnce to.faults to'.faults to'.failed
  pub no_memory : status ≡ 5
      → FailedOnceAtMost from.faults from'.faults from'.failed × (to'.faults ≡ to.faults)
  pub past_limit : status ≡ 6 → (from'.faults ≡ from.faults) × (to'.faults ≡ to.faults)
  pub door_fault : status ≡ 7 → (from'.faults ≡ from.faults) × (to'.faults ≡ to.faults)
