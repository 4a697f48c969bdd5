-- A filter of a core is cleared of a slot.
use Rattle.bit_words.specs.declared.slots.TheConstants.{MAX_SLOTS}
use Rattle.event_core.proofs.Words.{◌∙◌, after_clear, ap, arith, Becomes, CanClear, Clear, cleared, Clearing, CoreParts, filter_without, FilterVersion, Free, Has, Held, IsCore, IsSome, last_after, Lives, next_number, Numbers, slot_at, SlotState, state_of, subst, sym, version_at, versions_in_hands, with_new}
use Rattle.std.specs.Prelude.{◌≡◌, ℕ, ◌<◌, length, Some, refl}
use Rattle.std.proofs.lemmas.List.Elements.{All-get_or}
use Rattle.pipeline_manager.specs.Changes.{after_cleared, without_dimension}
use Rattle.pipeline_manager.specs.Conditions.{IsToClear}
use Rattle.pipeline_manager.specs.Sound as managed
use Rattle.pipeline_manager.specs.Sound.{IsOfFilters}
use Rattle.pipeline_manager.proofs.CallLemmas.{holder-without_dimension}
use Rattle.core_state.specs.Events.{after_event}
use Rattle.core_state.proofs.HeldLemmas.{slot-there}
use Rattle.event_core.proofs.HeldSlotLemmas.{attached_for-written}
use Rattle.event_core.proofs.LivedLemmas.{IsSeenAs, QuietEventsLeave, becomes-lived, state_lived}
use Rattle.event_core.proofs.NextVersionLemmas.{has-few, has-present, is-present, with-next}

-- the slot is there, and what it is cleared of is a filter
to-clear : (lives : Lives) (slot dimension : ℕ) → managed.AreSoundLives lives → CanClear slot dimension lives
    → (slot < length lives.slots) × Has lives.filters dimension
to-clear lives slot dimension sound can = by_state (slot_at lives slot) refl can
  where
    by_state : (now : SlotState) → slot_at lives slot ≡ now → IsToClear dimension now
        → (slot < length lives.slots) × Has lives.filters dimension
    by_state Free is can = absurd can
    by_state (Held query built) is can = absurd can
    by_state (Clearing left) is can =
        let there = slot-there lives.slots slot (λ free. let both : Clearing left ≡ Free = sym is ∙ free in cc) in
        let bits : IsOfFilters lives.filters (Clearing left) =
        subst (IsOfFilters lives.filters) is (All-get_or (IsOfFilters lives.filters) lives.slots slot Free there sound.of_filters) in
        (there, bits dimension can)

pub clearing-there : (parts : CoreParts) (slot dimension : ℕ) → IsCore parts → CanClear slot dimension parts.lives
    → (slot < MAX_SLOTS) × (dimension < 8) × IsSome (version_at parts.filters.versions dimension)
clearing-there parts slot dimension core can =
    let there = to-clear parts.lives slot dimension core.sound.slots.lives can in
    let few = core.sound.slots.lives.few in
    let present = has-present (state_of parts) dimension core.sound there.1 in
    (omega arith, has-few (state_of parts) dimension core.sound there.1, subst IsSome (sym present.1.found) refl)

-- the same is attached for each query
seen-cleared : (parts : CoreParts) (slot dimension : ℕ) → IsSeenAs parts.lives (after_cleared slot dimension parts.lives) parts.attached
seen-cleared parts slot dimension = record {
  attached = λ query. attached_for-written parts.lives parts.attached slot query (without_dimension dimension (slot_at parts.lives slot))
      (holder-without_dimension dimension (slot_at parts.lives slot) query);
  reaches = refl;
}

-- the parts where a filter is cleared of a slot
pub becomes-cleared : QuietEventsLeave → (parts : CoreParts) (slot dimension : ℕ) (old version : FilterVersion) → IsCore parts
    → CanClear slot dimension parts.lives → version_at parts.filters.versions dimension ≡ Some old
    → version.number ≡ next_number parts.numbers.version (versions_in_hands (state_of parts).scan.flights)
    → version.filter ≡ filter_without slot old.filter
    → Becomes (cleared slot dimension version parts) (after_clear slot dimension (state_of parts))
unfolding after_event
becomes-cleared quiet parts slot dimension old version core can found numbered changed =
    becomes-lived quiet parts (Clear slot dimension) (after_clear slot dimension (state_of parts)) (after_cleared slot dimension parts.lives)
    (with_new version parts.filters) numbers core can tt tt refl (seen-cleared parts slot dimension)
    (ap (λ filters. state_lived (after_cleared slot dimension parts.lives) filters numbers (state_of parts))
    (with-next (state_of parts) dimension (next_number parts.numbers.version (versions_in_hands (state_of parts).scan.flights))
    old version (filter_without slot) core.sound (is-present (state_of parts) dimension old core.sound found) numbered changed refl))
  where
    numbers : Numbers
    numbers = record parts.numbers { version = last_after parts.numbers.version }
