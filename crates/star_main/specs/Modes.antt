-- What the modes make of settings.
use Rattle.std.specs.Prelude.{◌≡◌, ◌+◌, ◌<◌, ◌⊎◌}
use Rattle.core_state.specs.declared.settings.RunSettings.{RunSettings}
use Rattle.star_main.specs.declared.settings.Settings.{Settings}
use Rattle.star_main.specs.declared.settings.Mode.{Mode}
use Rattle.star_main.specs.declared.settings.Mode.TheVariants.{Run, Alone, Make, Serve}

-- how large the core of a run is: workers, slots and batches as the settings say, and a seat for
-- each worker and for the one who reads the script
abbrev pub run_settings_of : Settings → RunSettings
run_settings_of settings =
    record {
      workers = settings.workers;
      slots = settings.slots;
      batch = settings.batch;
      seats = settings.workers + 1;
    }

-- how large the core of a server is: workers, slots and batches as the settings say, a seat for
-- each worker, one for whoever takes the connections, and 64 for sessions
abbrev pub serve_settings_of : Settings → RunSettings
serve_settings_of settings =
    record {
      workers = settings.workers;
      slots = settings.slots;
      batch = settings.batch;
      seats = settings.workers + 65;
    }

-- the settings say that the queries of a script share the scan of one core
abbrev pub IsShared : Settings → Type 0
IsShared settings = settings.mode ≡ Run

-- the settings say that each query is answered by itself
abbrev pub IsAlone : Settings → Type 0
IsAlone settings = settings.mode ≡ Alone

-- the settings say that the workload is made
abbrev pub IsMade : Settings → Type 0
IsMade settings = settings.mode ≡ Make

-- the settings say that connections are served
abbrev pub Serves : Settings → Type 0
Serves settings = settings.mode ≡ Serve

-- in this mode the script on the source is run
abbrev pub RunsSource : Mode → Type 0
RunsSource Run = Unit {0}
RunsSource Alone = Unit {0}
RunsSource Make = ⊥
RunsSource Serve = ⊥

-- the settings say that the script on the source is run
abbrev pub HasScript : Settings → Type 0
HasScript settings = RunsSource settings.mode

-- there are workers
abbrev pub Works : Settings → Type 0
Works settings = 0 < settings.workers

-- what the settings say may wait: there are workers that share a core, or connections are served
abbrev pub MayWait : Settings → Type 0
MayWait settings = Serves settings ⊎ (Works settings × (IsShared settings ⊎ IsMade settings))
