-- A filter that is cleared of a slot keeps a core sound.
use Rattle.core_state.proofs.Words.{◌<◌, ◌∙◌, ◌≡◌, after_clear, CanClear, Clearing, Filter, FitsSlot, Free, Held, IsSound, IsSoundFilter, length, refl, slot_at, SlotState, State, subst, sym, tables_of, with_slot, with_version, without_dimension, ℕ}
use Rattle.std.proofs.Common.{◌^◌}
use Rattle.bit_words.specs.Sets.{without}
use Rattle.bit_words.proofs.SetLemmas.{Has-less}
use Rattle.dimension_filter.specs.Changes.{filter_without}
use Rattle.dimension_filter.proofs.ClearLemmas.{left-ascends, left-clear, left-others, left-sound, left-stored}
use Rattle.dimension_filter.proofs.SlotLemmas.{taken-here, taken-other}
use Rattle.pipeline_manager.specs.Conditions.{IsToClear}
use Rattle.pipeline_manager.specs.Sound as managed
use Rattle.pipeline_manager.proofs.LawLemmas.{sound-after_cleared}
use Rattle.core_state.proofs.HeldLemmas.{slot-there}
use Rattle.core_state.proofs.VersionLemmas.{IsNextVersion, Versions, sound-versioned}

-- the filter without the slot
cleared-next : (state : State) (slot left : ℕ) (filter : Filter) → IsSoundFilter state.accepted (tables_of state) state.lives.slots state.lives.filters filter
    → IsNextVersion state slot (Clearing left) filter (filter_without slot filter)
cleared-next state slot left filter old = record {
  table = left-sound filter slot old.ascending old.table;
  ascending = left-ascends filter slot old.ascending;
  beside = record {
    dimension = refl;
    vectors = λ key other apart. left-others filter slot key other old.ascending apart;
    complement = λ other apart. taken-other slot filter.complement other apart;
  };
  fits = λ none. record {
    rows = λ key. left-clear filter slot key old.ascending;
    others = taken-here slot filter.complement;
  };
  within = λ key stored. old.within key (left-stored filter slot key stored);
}

cleared-by : (slot dimension : ℕ) (state : State) → IsSound state → (holder : SlotState) → slot_at state.lives slot ≡ holder
    → IsToClear dimension holder
    → IsSound (record (with_version dimension (filter_without slot) state) { lives = with_slot slot (without_dimension dimension holder) state.lives })
cleared-by slot dimension state sound Free holds can = absurd can
cleared-by slot dimension state sound (Held query built) holds can = absurd can
cleared-by slot dimension state sound (Clearing left) holds can =
    let there : slot < length state.lives.slots = slot-there state.lives.slots slot (λ is. let both : Clearing left ≡ Free = sym holds ∙ is in cc) in
    let now : SlotState = Clearing (without left (2 ^ dimension)) in
    let gives : Versions state slot dimension now (filter_without slot) = record {
      there = there;
      used = λ is. let both : Clearing left ≡ Free = sym holds ∙ is in cc;
      off = λ entry on same.
          let both : Held entry.number on.held.0 ≡ Clearing left =
          sym on.held.1 ∙ subst (λ at. slot_at state.lives at ≡ Clearing left) (sym same) holds in cc;
      built = λ holder built is. absurd (let both : Clearing (without left (2 ^ dimension)) ≡ Held holder built = is in cc);
      lives = subst (λ s. managed.AreSoundLives (with_slot slot (without_dimension dimension s) state.lives)) holds
          (sound-after_cleared Has-less slot dimension state.lives there sound.slots.lives);
      keeps = λ filter. refl;
      next = λ filter old same. cleared-next state slot (without left (2 ^ dimension)) filter old;
      others = λ filter old apart none.
          let fits : FitsSlot state.accepted (tables_of state) filter slot (Clearing left) = subst (FitsSlot state.accepted (tables_of state) filter slot) holds (old.slots slot there) in
          fits (λ has. none ((Has-less left dimension filter.dimension).1 (has, apart)));
    } in
    sound-versioned state slot dimension now (filter_without slot) gives sound

pub sound-cleared : (slot dimension : ℕ) (state : State) → CanClear slot dimension state.lives → IsSound state
    → IsSound (after_clear slot dimension state)
sound-cleared slot dimension state can sound = cleared-by slot dimension state sound (slot_at state.lives slot) refl can
