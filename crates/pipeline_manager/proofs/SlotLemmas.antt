-- What queries and slots there are none of.
use Rattle.std.proofs.Common.{◌≡◌, ℕ, ◌<◌, ◌≤◌, false, true, length, Option, Some, None, IsSome, position, refl, ap, sym, ◌∙◌, subst, inl, inr, arith, eqb-true}
use Rattle.std.specs.Option.{option_map_or}
use Rattle.std.proofs.lemmas.Bool.{cases_lt}
use Rattle.std.proofs.lemmas.List.Quantifiers.{position-Some}
use Rattle.std.proofs.lemmas.List.Sums.{fails_before_first}
use Rattle.pipeline_manager.specs.declared.life.Life.TheVariants.{Building}
use Rattle.pipeline_manager.specs.declared.life.SlotState.{SlotState}
use Rattle.pipeline_manager.specs.declared.life.SlotState.TheVariants.{Free, Held, Clearing}
use Rattle.pipeline_manager.specs.Conditions.{CanSpoil, is_begun}
use Rattle.pipeline_manager.specs.Lives.{Lives, is_free, is_held_by, life_of, slot_at, slot_of}
use Rattle.pipeline_manager.specs.Sound.{AreSoundLives}
use Rattle.pipeline_manager.proofs.HolderLemmas.{slot_of-begun}
use Rattle.star_values.proofs.PlaceLemmas.{past-from_none}

-- a slot that is there is not free where no first one is
pub none-free : (lives : Lives) (slot : ℕ) → position is_free lives.slots ≡ None → slot < length lives.slots
    → slot_at lives slot ≡ Free → ⊥
none-free lives slot none there free =
    let past = past-from_none is_free lives.slots none in
    let not : is_free (slot_at lives slot) ≡ false = fails_before_first is_free lives.slots slot Free (omega arith) in
    absurd (let both : false ≡ true = sym not ∙ ap is_free free in cc)

-- the first slot that a query holds is held by it
held-there : (lives : Lives) (slot query : ℕ) (state : SlotState) → slot_at lives slot ≡ state → slot_of lives query ≡ Some slot
    → is_held_by query state ≡ true
held-there lives slot query state at first =
    sym (ap (is_held_by query) at) ∙ (position-Some (is_held_by query) lives.slots slot Free first).1

-- so who holds it is that query
pub holder-there : (lives : Lives) (slot query holder built : ℕ) → slot_at lives slot ≡ Held holder built
    → slot_of lives query ≡ Some slot → holder ≡ query
holder-there lives slot query holder built at first =
    eqb-true holder query (held-there lives slot query (Held holder built) at first)

-- no query holds a free slot
pub unheld-free : (lives : Lives) (slot query : ℕ) → slot_at lives slot ≡ Free → slot_of lives query ≡ Some slot → ⊥
unheld-free lives slot query at first = absurd (let held : false ≡ true = held-there lives slot query Free at first in cc)

-- nor one that is being cleared
pub unheld-clearing : (lives : Lives) (slot query left : ℕ) → slot_at lives slot ≡ Clearing left → slot_of lives query ≡ Some slot → ⊥
unheld-clearing lives slot query left at first =
    absurd (let held : false ≡ true = held-there lives slot query (Clearing left) at first in cc)

-- from so many slots on each is free
abbrev pub AreFreeFrom : (used : ℕ) → Lives → Type 0
AreFreeFrom used lives = (slot : ℕ) → used ≤ slot → slot_at lives slot ≡ Free

-- a slot of which something holds that holds of no free one is in front of them
pub within-used : (P : SlotState → Type 0) (lives : Lives) (used slot : ℕ) → AreFreeFrom used lives → (P Free → ⊥)
    → P (slot_at lives slot) → slot < used
within-used P lives used slot free never holds = elim (cases_lt slot used) [
  | inl low ↦ low
  | inr past ↦ absurd (never (subst P (free slot past) holds))
]

-- what holds of no query that holds a slot, and only of queries that hold one, holds of none
pub none-at-all : (P : ℕ → Type 0) (lives : Lives) (used : ℕ) → AreSoundLives lives → AreFreeFrom used lives
    → ((query : ℕ) → P query → CanSpoil query lives)
    → ((query slot : ℕ) → slot < used → slot_of lives query ≡ Some slot → P query → ⊥) → (query : ℕ) → P query → ⊥
none-at-all P lives used sound free begun none query holds = by_slot (slot_of lives query) refl (slot_of-begun lives query sound (begun query holds))
  where
    by_slot : (o : Option ℕ) → slot_of lives query ≡ o → IsSome o → ⊥
    by_slot None is some = absurd (let both : false ≡ true = some in cc)
    by_slot (Some slot) is some =
        let held : is_held_by query (slot_at lives slot) ≡ true = (position-Some (is_held_by query) lives.slots slot Free is).1 in
        none query slot (within-used (λ state. is_held_by query state ≡ true) lives used slot free (λ never. absurd (cc)) held) is holds

-- a query that is Building has begun
pub begun-building : (lives : Lives) (query : ℕ) → life_of lives query ≡ Some Building → CanSpoil query lives
begun-building lives query building = ap (λ life. option_map_or is_begun life false) building
