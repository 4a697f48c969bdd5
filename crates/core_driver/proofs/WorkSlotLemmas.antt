-- What is to be done until slots are free, where one has another state.
use Rattle.core_driver.proofs.Words.{◌+◌, ◌<◌, ◌∙◌, ◌≡◌, All-get_or, ap, arith, CanBuild, cases_lt, Clearing, eqb-true, false, Free, get_or, Has, Held, is_held_by, length, List, Lives, None, Option, option_map_or, position-Some, refl, set, slot_at, slot_of, SlotState, Some, steps_to_free, subst, sum_by, sum_by-set, sym, true, with_dimension, without_dimension, ℕ, ⊎_elim}
use Rattle.std.proofs.Common.{IsSome}
use Rattle.std.proofs.lemmas.List.{get_or_past}
use Rattle.pipeline_manager.specs.Conditions.{is_begun}
use Rattle.pipeline_manager.specs.Sound.{IsOfFilters, AreSoundLives}
use Rattle.pipeline_manager.proofs.HolderLemmas.{built_of-holder, slot_of-begun}
use Rattle.core_driver.proofs.SizeLemmas.{size-most, size-with, size-without}

-- another state of a slot changes what is to be done by what is for that slot
pub slot-written : (slots : List SlotState) (slot : ℕ) (old new : SlotState) → slot < length slots → get_or slots slot Free ≡ old
    → sum_by steps_to_free (set slots slot new) + steps_to_free old ≡ sum_by steps_to_free slots + steps_to_free new
slot-written slots slot old new there is =
    subst (λ state. sum_by steps_to_free (set slots slot new) + steps_to_free state ≡ sum_by steps_to_free slots + steps_to_free new) is
    (sum_by-set steps_to_free slots slot new Free there)

-- a slot that is held is there
pub there-held : (slots : List SlotState) (slot query built : ℕ) → get_or slots slot Free ≡ Held query built → slot < length slots
there-held slots slot query built is = ⊎_elim
    (λ low. low)
    (λ past. absurd (let both : Free ≡ Held query built = sym (get_or_past slots slot Free past) ∙ is in cc))
    (cases_lt slot (length slots))

-- so is one that is being cleared
pub there-clearing : (slots : List SlotState) (slot left : ℕ) → get_or slots slot Free ≡ Clearing left → slot < length slots
there-clearing slots slot left is = ⊎_elim
    (λ low. low)
    (λ past. absurd (let both : Free ≡ Clearing left = sym (get_or_past slots slot Free past) ∙ is in cc))
    (cases_lt slot (length slots))

-- every filter is of a dimension below this number
abbrev pub FiltersAreBelow : ℕ → Lives → Type 0
FiltersAreBelow most lives = (dimension : ℕ) → Has lives.filters dimension → dimension < most

-- the slot that a query holds
pub record Holds (lives : Lives) (query slot built : ℕ) : Type 0 where
  pub there : slot < length lives.slots
  pub is : slot_at lives slot ≡ Held query built
  pub first : slot_of lives query ≡ Some slot

-- a slot that is found is held
pub holds-slot : (lives : Lives) (query : ℕ) → IsSome (slot_of lives query) → (slot : ℕ) × ((built : ℕ) × Holds lives query slot built)
holds-slot lives query some = by_slot (slot_of lives query) refl some
  where
    by_state : (slot : ℕ) (state : SlotState) → slot_of lives query ≡ Some slot → slot < length lives.slots → slot_at lives slot ≡ state
        → is_held_by query state ≡ true → (built : ℕ) × Holds lives query slot built
    by_state slot Free first there is holds = absurd (let both : false ≡ true = holds in cc)
    by_state slot (Held holder built) first there is holds = (
      built,
      record {
        there = there;
        is = is ∙ ap (λ n. Held n built) (eqb-true holder query holds);
        first = first;
      },
    )
    by_state slot (Clearing left) first there is holds = absurd (let both : false ≡ true = holds in cc)

    by_slot : (o : Option ℕ) → slot_of lives query ≡ o → IsSome o → (slot : ℕ) × ((built : ℕ) × Holds lives query slot built)
    by_slot None first some = absurd (let both : false ≡ true = some in cc)
    by_slot (Some slot) first some =
        let at = position-Some (is_held_by query) lives.slots slot Free first in
        (slot, by_state slot (slot_at lives slot) first at.0 refl at.1)

-- a query that is built for holds a slot
pub building-holds : (lives : Lives) (query dimension : ℕ) → AreSoundLives lives → CanBuild query dimension lives
    → (slot : ℕ) × ((built : ℕ) × Holds lives query slot built)
building-holds lives query dimension sound can =
    holds-slot lives query (slot_of-begun lives query sound (ap (λ o. option_map_or is_begun o false) can.building))

-- a slot for whose query one more filter is built has one step less to come
pub free-built : (lives : Lives) (query dimension slot built : ℕ) → AreSoundLives lives → FiltersAreBelow 8 lives → CanBuild query dimension lives
    → Holds lives query slot built
    → sum_by steps_to_free (set lives.slots slot (with_dimension dimension (slot_at lives slot))) < sum_by steps_to_free lives.slots
free-built lives query dimension slot built sound below can holds =
    let written = slot-written lives.slots slot (Held query built) (with_dimension dimension (Held query built)) holds.there holds.is in
    let out : ¬ (Has built dimension) = λ has. can.not_built (subst (λ set. Has set dimension) (sym (built_of-holder lives slot query built sound holds.there holds.is)) has) in
    let more = size-with built dimension (below dimension can.filters) out in
    let most = size-most built in
    subst (λ state. sum_by steps_to_free (set lives.slots slot (with_dimension dimension state)) < sum_by steps_to_free lives.slots) (sym holds.is)
    (omega arith)

-- a slot that is taken from its query has fewer steps to come
pub free-taken : (slots : List SlotState) (slot query built : ℕ) → slot < length slots → get_or slots slot Free ≡ Held query built
    → sum_by steps_to_free (set slots slot (Clearing built)) < sum_by steps_to_free slots
free-taken slots slot query built there is =
    let written = slot-written slots slot (Held query built) (Clearing built) there is in
    let most = size-most built in
    omega arith

-- so has one that is cleared of a dimension
pub free-cleared : (lives : Lives) (slot dimension left : ℕ) → AreSoundLives lives → FiltersAreBelow 8 lives → slot < length lives.slots
    → slot_at lives slot ≡ Clearing left → Has left dimension
    → sum_by steps_to_free (set lives.slots slot (without_dimension dimension (slot_at lives slot))) < sum_by steps_to_free lives.slots
free-cleared lives slot dimension left sound below there is has =
    let written = slot-written lives.slots slot (Clearing left) (without_dimension dimension (Clearing left)) there is in
    let of_filters : IsOfFilters lives.filters (Clearing left) =
    subst (IsOfFilters lives.filters) is (All-get_or (IsOfFilters lives.filters) lives.slots slot Free there sound.of_filters) in
    let less = size-without left dimension (below dimension (of_filters dimension has)) has in
    subst (λ state. sum_by steps_to_free (set lives.slots slot (without_dimension dimension state)) < sum_by steps_to_free lives.slots) (sym is)
    (omega arith)

-- and one that becomes free
pub free-released : (slots : List SlotState) (slot : ℕ) → slot < length slots → get_or slots slot Free ≡ Clearing 0
    → sum_by steps_to_free (set slots slot Free) < sum_by steps_to_free slots
free-released slots slot there is =
    let written = slot-written slots slot (Clearing 0) Free there is in
    omega arith

-- one that gets a query has all of them to come
pub free-reserved : (slots : List SlotState) (slot query : ℕ) → slot < length slots → get_or slots slot Free ≡ Free
    → sum_by steps_to_free (set slots slot (Held query 0)) ≡ sum_by steps_to_free slots + 18
free-reserved slots slot query there is =
    let written = slot-written slots slot Free (Held query 0) there is in
    omega arith
