-- Which query may get which slot.
use Rattle.std.specs.Prelude.{◌≡◌, ℕ, ◌<◌, length, Some}
use Rattle.pipeline_manager.specs.Lives.{Lives, oldest_waiting, slot_at}
use Rattle.pipeline_manager.specs.declared.life.SlotState.TheVariants.{Free}

-- the oldest query that waits has this number, and the slot is free
pub record MayGetSlot (query slot : ℕ) (lives : Lives) : Type 0 where
  pub oldest : oldest_waiting lives ≡ Some query
  pub there : slot < length lives.slots
  pub is_free : slot_at lives slot ≡ Free
