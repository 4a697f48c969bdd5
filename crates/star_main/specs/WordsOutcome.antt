-- What words ask for: a run, which came to its end, or what may wait: a run with workers, or that
-- connections are served.
use Rattle.star_main.specs.Modes.{IsMade, IsShared, Serves, Works}
use Rattle.star_main.specs.declared.settings.Settings.{Settings}
use Rattle.star_main.specs.declared.top.TopDone.{TopDone}
use Rattle.star_main.specs.declared.top.WordsOutcome.{WordsOutcome}
use Rattle.star_main.specs.declared.top.WordsOutcome.TheVariants.{Ran, RunWithWorkers, MakeWithWorkers, Serve}

-- what holds of what came of a run, or of words that name no settings
abbrev pub IfRan : WordsOutcome → (TopDone → Type 0) → Type 0
IfRan (Ran done) holds = holds done
IfRan (RunWithWorkers settings) holds = Unit {0}
IfRan (MakeWithWorkers settings) holds = Unit {0}
IfRan (Serve settings) holds = Unit {0}

-- what holds of the settings by which something is left to do that may wait, which is what their
-- mode says
abbrev pub IfLeft : WordsOutcome → (Settings → Type 0) → Type 0
IfLeft (Ran done) holds = Unit {0}
IfLeft (RunWithWorkers settings) holds = holds settings × (IsShared settings × Works settings)
IfLeft (MakeWithWorkers settings) holds = holds settings × (IsMade settings × Works settings)
IfLeft (Serve settings) holds = holds settings × Serves settings
