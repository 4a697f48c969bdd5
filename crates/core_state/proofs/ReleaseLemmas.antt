-- A slot that is given free keeps a core sound.
use Rattle.core_state.proofs.Words.{◌<◌, ◌∙◌, ◌≡◌, after_release, All-set, arith, bit_at-zero, CanFree, Clearing, Filter, FitsSlot, Free, get_or, gets_rows, Has, Held, IfSome, IsSound, IsTrue, length, length-set, life_in, refl, set, slot_at, State, subst, sym, tables_of, ℕ}
use Rattle.pipeline_manager.proofs.LawLemmas.{sound-after_free}
use Rattle.core_state.proofs.FrameLemmas.{at-set}
use Rattle.core_state.proofs.HeldLemmas.{entry-set, filters-held, fits-set, slot-there}
use Rattle.core_state.proofs.MovedLemmas.{Holds, sound-held}

-- nothing is in the set without members
pub none-in : (i : ℕ) → Has 0 i → ⊥
none-in i has = let none = bit_at-zero i in absurd (omega arith)

freed-fits : (state : State) (filter : Filter) (slot : ℕ) → slot_at state.lives slot ≡ Clearing 0
    → FitsSlot state.accepted (tables_of state) filter slot (slot_at state.lives slot) → FitsSlot state.accepted (tables_of state) filter slot Free
freed-fits state filter slot is fits =
    let cleared : FitsSlot state.accepted (tables_of state) filter slot (Clearing 0) = subst (FitsSlot state.accepted (tables_of state) filter slot) is fits in
    cleared (none-in filter.dimension)

pub sound-released : (slot : ℕ) (state : State) → CanFree slot state.lives → IsSound state → IsSound (after_release slot state)
sound-released slot state can old =
    let there : slot < length state.lives.slots = slot-there state.lives.slots slot (λ is. let both : Free ≡ Clearing 0 = sym is ∙ can in cc) in
    let slots = set state.lives.slots slot Free in
    let now : Holds state state.lives.queries slots state.filters state.numbers.version = record {
      filters_now = filters-held state state.lives.queries slots state.numbers.version state.filters.order (length-set state.lives.slots slot Free)
          (λ filter sound other low fits. fits-set state slot Free filter other (freed-fits state filter slot can (sound.slots slot there)) low fits) old.filters;
      rosters = λ k d low j e within.
          let entry = (old.batches k d low).roster j e within in
          entry-set state state.lives.queries slot Free (get_or (get_or state.scan.flights k d).roster j e)
          (λ same. let both : Held (get_or (get_or state.scan.flights k d).roster j e).number entry.held.0 ≡ Clearing 0 =
          sym entry.held.1 ∙ subst (λ at. slot_at state.lives at ≡ Clearing 0) (sym same) can in cc) (λ on. on, refl) entry;
      queries_now = record { same = old.queries.same; each = old.queries.each };
      slots_now = record {
        lives = sound-after_free slot state.lives there can old.slots.lives;
        count = length-set state.lives.slots slot Free ∙ old.slots.count;
        built = λ other query built low held.
            let inside : other < length state.lives.slots = subst (λ n. other < n) (length-set state.lives.slots slot Free) low in
            at-set (λ s. s ≡ Held query built → IfSome (life_in state.lives.queries query)
            (λ now. IsTrue (gets_rows now) → (dimension : ℕ) → Has state.lives.filters dimension → Has built dimension))
            state.lives.slots slot other Free Free inside (λ same is. cc) (λ apart. old.slots.built other query built inside) held;
      };
      quiet = λ none. All-set (λ at. at ≡ Free) state.lives.slots slot Free refl (old.quiet none).2;
      versions = old.numbers.versions;
      unnumbered = old.numbers.unnumbered;
      order = old.order;
      wanted = λ query. (λ h. h, λ h. h, λ h. h);
    } in
    sound-held state state.lives.queries slots state.filters state.numbers.version now old
