-- Which numbers settings have: those that the options take.
use Rattle.std.specs.Prelude.{ℕ, ◌≤◌}
use Rattle.star_main.specs.declared.limits.OptionNumbers.{OptionNumbers}
use Rattle.star_main.specs.declared.limits.TheConstants.{WORKERS, SLOTS, BATCH, SEED, ROWS, PORT, ACCEPT}
use Rattle.star_main.specs.declared.settings.Settings.{Settings}

-- an option takes the number
abbrev pub TakesNumber : OptionNumbers → ℕ → Type 0
TakesNumber numbers number = (numbers.least ≤ number) × (number ≤ numbers.greatest)

-- each number is one that its option takes
pub record AreInRange (settings : Settings) : Type 0 where
  pub workers : TakesNumber WORKERS settings.workers
  pub slots : TakesNumber SLOTS settings.slots
  pub batch : TakesNumber BATCH settings.batch
  pub seed : TakesNumber SEED settings.seed
  pub rows : TakesNumber ROWS settings.rows
  pub port : TakesNumber PORT settings.port
  pub accept : TakesNumber ACCEPT settings.accept
