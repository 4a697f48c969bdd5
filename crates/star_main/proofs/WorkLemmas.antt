-- How large a core is.
use Rattle.std.proofs.Common.{◌+◌, ◌≤◌, ℕ, arith}
use Rattle.core_state.specs.Settings.{AreWithin}
use Rattle.star_main.specs.Ranges.{AreInRange}
use Rattle.star_main.specs.declared.settings.Settings.{Settings}

-- the settings that words name are within the limits of a core, with a seat for each worker and for some others
pub within-limits : (settings : Settings) (others : ℕ) → 1 ≤ others → others ≤ 112 → AreInRange settings
    → AreWithin (record { workers = settings.workers; slots = settings.slots; batch = settings.batch; seats = settings.workers + others })
within-limits settings others some most range =
    let few = range.workers.1 in
    record {
      workers = range.workers.1;
      slots = range.slots.0;
      most_slots = range.slots.1;
      batch = range.batch.0;
      most_rows = range.batch.1;
      seats = omega (arith, some);
      most_seats = omega (arith, few, most);
    }
