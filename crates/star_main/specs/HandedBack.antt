-- What a call hands back beside its status.
use Rattle.std.specs.Prelude.{◌≡◌, ◌↔◌, ℕ, Option, Some, None, IfSome, IsNone}
use Rattle.core_state.specs.Sound.{empty_core}
use Rattle.event_core.specs.CoreParts.{CoreParts}
use Rattle.event_core.specs.Seen.{state_of}
use Rattle.script_run.specs.Front.{IsRun}
use Rattle.star_main.specs.Modes.{run_settings_of}
use Rattle.star_main.specs.declared.settings.Settings.{Settings}
use Rattle.star_main.specs.declared.top.HandedBack.{HandedBack}
use Rattle.star_main.specs.declared.top.HandedBack.TheVariants.{Nothing, Core}

-- the core that was handed back, if one was
abbrev pub core_in : HandedBack → Option CoreParts
core_in Nothing = None
core_in (Core core) = Some core

-- a core was handed back, unless no memory was left; without workers a run of the settings led to it
pub record HandsCore (settings : Settings) (handed : HandedBack) (status : ℕ) : Type 0 where
  pub core : IsNone (core_in handed) ↔ (status ≡ 5)
  pub run : settings.workers ≡ 0 → IfSome (core_in handed) (λ core.
      IsRun (empty_core (run_settings_of settings)) (state_of core))
