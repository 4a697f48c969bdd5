-- What the program writes in the mode `make`.
use Rattle.std.specs.Prelude.{◌≡◌, ℕ, Option}
use Rattle.star_io.specs.Link.{WritingSide}
use Rattle.core_state.specs.declared.settings.RunSettings.{RunSettings}
use Rattle.event_core.specs.CoreParts.{CoreParts}
use Rattle.make_load.specs.Made.{AnswersMade}
use Rattle.make_load.specs.declared.made.MadeEnd.{MadeEnd}
use Rattle.make_load.specs.declared.made.MadeEnd.TheVariants.{Clean, SomeRefused, WriteFault, NoMemory}

-- the status of a run of the made workload
abbrev pub made_status_of : MadeEnd → ℕ
made_status_of Clean = 0
made_status_of SomeRefused = 1
made_status_of WriteFault = 4
made_status_of NoMemory = 5

-- The run has an end, which the status tells, and the sink took what is due then of the line that
-- sums up the replies to the made script, where memory was wanted for its statements at some
-- places: the whole line; where a write failed, a proper front of it; where no memory was left,
-- nothing. The core that is handed back, if one is, tells of the same script: of what its seat 0
-- was given and took, and where no workers shared it, of its queries and laps.
pub record MadeHeadline (settings : RunSettings) (seed rows : ℕ) (core : Option CoreParts)
    (status : ℕ)
    (to to' : WritingSide) : Type 0 where
  pub end : MadeEnd
  pub told : status ≡ made_status_of end
  pub answers : AnswersMade (settings.workers ≡ 0) settings seed rows core end to to'
