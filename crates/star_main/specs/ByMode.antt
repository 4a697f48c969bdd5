-- What is said of a call by the mode that the words name, and of one whose words name no settings.
use Rattle.std.specs.Prelude.{◌≡◌, ◌⊎◌, ℕ, Option, IsNone}
use Rattle.star_io.specs.Door.{DoorSide}
use Rattle.star_io.specs.Link.{ReadingSide, WritingSide}
use Rattle.star_main.specs.HandedBack.{HandsCore, core_in}
use Rattle.star_main.specs.Headline.{Headline}
use Rattle.star_main.specs.Made.{MadeHeadline}
use Rattle.star_main.specs.Modes.{HasScript, IsAlone, IsMade, IsShared, Serves, run_settings_of}
use Rattle.star_main.specs.Serving.{ServeHeadline}
use Rattle.star_main.specs.declared.settings.Settings.{Settings}
use Rattle.star_main.specs.declared.top.HandedBack.TheVariants.{Nothing}
use Rattle.star_main.specs.declared.top.TopDone.{TopDone}

-- the outside of the program at one moment: its source, its sink and its door
pub record Outside : Type 0 where
  pub from : ReadingSide
  pub to : WritingSide
  pub door : DoorSide

-- an outside of these three
abbrev pub outside : ReadingSide → WritingSide → DoorSide → Outside
outside from to door = record { from = from; to = to; door = door }

-- what it means that the source, the sink, or the door is left as it was
pub record Untouched : Type 1 where
  pub source : Type 0
  pub sink : Type 0
  pub door : Type 0

-- it means these three
abbrev pub untouched : Type 0 → Type 0 → Type 0 → Untouched
untouched source sink door = record { source = source; sink = sink; door = door }

-- mode `run`: the headline, and the core is handed back
pub record AnswersRun (settings : Settings) (done : TopDone) (from from' : ReadingSide)
    (to to' : WritingSide) : Type 0 where
  pub headline : Headline (run_settings_of settings) (core_in done.handed) done.status
      from from' to to'
  pub hands : HandsCore settings done.handed done.status

-- mode `alone`: the headline, and nothing is handed back
pub record AnswersAlone (settings : Settings) (done : TopDone) (from from' : ReadingSide)
    (to to' : WritingSide) : Type 0 where
  pub headline : Headline (run_settings_of settings) (core_in done.handed) done.status
      from from' to to'
  pub nothing : done.handed ≡ Nothing

-- mode `make`: the headline of the made workload, and the core is handed back
pub record AnswersMake (settings : Settings) (done : TopDone) (to to' : WritingSide)
    : Type 0 where
  pub made : MadeHeadline (run_settings_of settings) settings.seed settings.rows
      (core_in done.handed) done.status to to'
  pub hands : HandsCore settings done.handed done.status

-- mode `serve`: what is told of the door, and nothing is handed back
pub record AnswersServe (settings : Settings) (done : TopDone) (door door' : DoorSide)
    : Type 0 where
  pub served : ServeHeadline settings.port settings.accept done.status door door'
  pub nothing : done.handed ≡ Nothing

-- What the mode of the settings says of a call, from one outside to the other: a field for each
-- mode. Only a mode that runs a script reads the source, only `serve` leaves the sink alone, and
-- only `serve` calls the door.
pub record AnswersByMode (settings : Settings) (done : TopDone) (old new : Outside)
    (leaves : Untouched) : Type 0 where
  pub run : IsShared settings → AnswersRun settings done old.from new.from old.to new.to
  pub alone : IsAlone settings → AnswersAlone settings done old.from new.from old.to new.to
  pub make : IsMade settings → AnswersMake settings done old.to new.to
  pub serve : Serves settings → AnswersServe settings done old.door new.door
  pub source : ¬ HasScript settings → leaves.source
  pub sink : Serves settings → leaves.sink
  pub door : ¬ Serves settings → leaves.door

-- Where the words name no settings, all is left as it was, nothing is handed back, and the status
-- says so, or that no memory was left. No other words have status 2.
pub record IsFaulty (named : Option Settings) (done : TopDone) (leaves : Untouched)
    : Type 0 where
  pub only : done.status ≡ 2 → IsNone named
  pub told : IsNone named → (done.status ≡ 2) ⊎ (done.status ≡ 5)
  pub left : IsNone named → leaves.source × (leaves.sink × leaves.door)
  pub nothing : IsNone named → done.handed ≡ Nothing
