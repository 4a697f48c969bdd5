-- Who holds a slot, and what runs in it.
use Rattle.std.specs.Prelude.{ℕ, Option, Some, None}
use Rattle.std.specs.Option.{option_map_or}
use Rattle.pipeline_manager.specs.Lives.{Lives, slot_of}
use Rattle.pipeline_manager.specs.declared.life.SlotState.{SlotState}
use Rattle.pipeline_manager.specs.declared.life.SlotState.TheVariants.{Free, Held, Clearing}
use Rattle.continuous_scan.specs.Range.{after_stop}
use Rattle.continuous_scan.specs.Scanning.{Scanning}

-- the query that holds a slot
abbrev pub holder_of : SlotState → Option ℕ
holder_of Free = None
holder_of (Held query built) = Some query
holder_of (Clearing left) = None

-- a scan that stops what runs for a query, where the query holds a slot
abbrev pub stopped_for : Lives → (query : ℕ) → Scanning → Scanning
stopped_for lives query scan =
    option_map_or (λ slot. after_stop slot scan) (slot_of lives query) scan
