-- Each call of which the condition holds keeps what holds of all lives and slots.
use Rattle.std.proofs.Common.{◌≡◌, ℕ, ◌<◌, true, List, length, get_or, Option, Some, None, position, refl, sym, ap}
use Rattle.std.proofs.lemmas.List.Elements.{All-get_or}
use Rattle.std.proofs.lemmas.List.Quantifiers.{position-Some}
use Rattle.pipeline_manager.specs.declared.life.SlotState.{SlotState}
use Rattle.pipeline_manager.specs.declared.life.SlotState.TheVariants.{Free, Held, Clearing}
use Rattle.pipeline_manager.specs.Lives.{Lives, oldest_waiting, slot_at, slot_of, is_held_by, is_free}
use Rattle.pipeline_manager.specs.Changes.{with_dimension, without_dimension, given_up, after_reserve, after_built, after_end, after_cleared, after_free}
use Rattle.pipeline_manager.specs.Conditions.{CanReserve, CanBuild, CanEnd, CanFree, IsHolderOver}
use Rattle.pipeline_manager.specs.Sound.{AreSoundLives, IsOfFilters}
use Rattle.pipeline_manager.proofs.SoundLemmas.{sound-with_slot}
use Rattle.pipeline_manager.proofs.CallLemmas.{PutIn, TakenOut, sound-reserved, holder-with_dimension, filters-with_dimension, holder-without_dimension, filters-without_dimension}
use Rattle.pipeline_manager.proofs.EndLemmas.{sound-ended}

-- the bits of a slot are those of filters
bits-at : (slot : ℕ) (lives : Lives) → slot < length lives.slots → AreSoundLives lives → IsOfFilters lives.filters (slot_at lives slot)
bits-at slot lives within sound = All-get_or (IsOfFilters lives.filters) lives.slots slot Free within sound.of_filters

pub sound-after_reserve : (slot : ℕ) (lives : Lives) → slot < length lives.slots → CanReserve slot lives → AreSoundLives lives
    → AreSoundLives (after_reserve slot lives)
sound-after_reserve slot lives within can sound = by_oldest (oldest_waiting lives) refl
  where
    by_oldest : (oldest : Option ℕ) → oldest ≡ oldest_waiting lives → AreSoundLives (after_reserve slot lives)
    by_oldest None e = rw (sym e) sound
    by_oldest (Some query) e = rw (sym e) (sound-reserved slot query lives within can.is_free (sym e) sound)

pub sound-after_built : PutIn → (query dimension : ℕ) (lives : Lives) → CanBuild query dimension lives → AreSoundLives lives
    → AreSoundLives (after_built query dimension lives)
sound-after_built put_in query dimension lives can sound = by_slot (slot_of lives query) refl
  where
    by_slot : (slot : Option ℕ) → slot ≡ slot_of lives query → AreSoundLives (after_built query dimension lives)
    by_slot None e = rw (sym e) sound
    by_slot (Some slot) e =
        let within : slot < length lives.slots = (position-Some (is_held_by query) lives.slots slot Free (sym e)).0 in
        rw (sym e)
        (sound-with_slot slot (with_dimension dimension (slot_at lives slot)) lives within (holder-with_dimension dimension (slot_at lives slot))
        (filters-with_dimension put_in lives.filters dimension (slot_at lives slot) can.filters (bits-at slot lives within sound)) sound)

pub sound-after_end : (slot : ℕ) (lives : Lives) → slot < length lives.slots → CanEnd slot lives → AreSoundLives lives
    → AreSoundLives (after_end slot lives)
sound-after_end slot lives within can sound = by_state (slot_at lives slot) refl can
  where
    by_state : (state : SlotState) → state ≡ slot_at lives slot → IsHolderOver state lives → AreSoundLives (given_up slot state lives)
    by_state Free e over = absurd over
    by_state (Held query built) e over = sound-ended slot query built lives within (sym e) over sound
    by_state (Clearing left) e over = absurd over

pub sound-after_cleared : TakenOut → (slot dimension : ℕ) (lives : Lives) → slot < length lives.slots → AreSoundLives lives
    → AreSoundLives (after_cleared slot dimension lives)
sound-after_cleared taken_out slot dimension lives within sound =
    sound-with_slot slot (without_dimension dimension (slot_at lives slot)) lives within (holder-without_dimension dimension (slot_at lives slot))
    (filters-without_dimension taken_out lives.filters dimension (slot_at lives slot) (bits-at slot lives within sound)) sound

pub sound-after_free : (slot : ℕ) (lives : Lives) → slot < length lives.slots → CanFree slot lives → AreSoundLives lives
    → AreSoundLives (after_free slot lives)
sound-after_free slot lives within can sound =
    sound-with_slot slot Free lives within (λ query. sym (ap (is_held_by query) can)) tt sound

-- the first slot that is Free is Free
pub first-is_free : (slots : List SlotState) (slot : ℕ) → position is_free slots ≡ Some slot → get_or slots slot Free ≡ Free
first-is_free slots slot found = by_state (get_or slots slot Free) (position-Some is_free slots slot Free found).1
  where
    by_state : (state : SlotState) → is_free state ≡ true → state ≡ Free
    by_state Free e = refl
    by_state (Held query built) e = cc
    by_state (Clearing left) e = cc
