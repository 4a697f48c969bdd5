-- How large a core is.
use Rattle.std.specs.Prelude.{ℕ, ◌+◌, ◌*◌, ◌≤◌}
use Rattle.bit_words.specs.declared.slots.TheConstants.{MAX_SLOTS}
use Rattle.core_state.specs.declared.settings.RunSettings.{RunSettings}

-- how many frames a core has for batches in flight
abbrev pub frames_of : RunSettings → ℕ
frames_of settings = 2 * settings.workers + 8

-- the settings are within the limits of a core
pub record AreWithin (settings : RunSettings) : Type 0 where
  pub workers : settings.workers ≤ 16
  pub slots : 1 ≤ settings.slots
  pub most_slots : settings.slots ≤ MAX_SLOTS
  pub batch : 1 ≤ settings.batch
  pub most_rows : settings.batch ≤ 1024
  pub seats : 1 ≤ settings.seats
  pub most_seats : settings.seats ≤ 128
