-- A reservation keeps a core sound.
use Rattle.core_state.proofs.Words.{◌<◌, ◌∙◌, ◌≡◌, [], after_reserving, ap, Filter, FitsSlot, Free, get_or, gets_rows, Has, Held, IfSome, IsSound, IsTrue, length, length-set, Life, life_in, life_in-same, map, MayBeOnRoster, MayReserve, None, oldest-waits, option_map, option_map_or, refl, set, slot_at, Some, State, subst, sym, tables_of, with_life, ℕ, ⊎_elim}
use Rattle.pipeline_manager.specs.declared.life.Life.TheVariants as life
use Rattle.pipeline_manager.proofs.CallLemmas.{sound-reserved}
use Rattle.core_state.proofs.FoundLemmas.{extents-written, life-written, no-life}
use Rattle.core_state.proofs.FrameLemmas.{at-set}
use Rattle.core_state.proofs.HeldLemmas.{entry-set, filters-held, fits-set}
use Rattle.core_state.proofs.MovedLemmas.{Holds, sound-held}
use Rattle.core_state.proofs.ReleaseLemmas.{none-in}
use Rattle.core_state.proofs.WrittenLemmas.{queries-written, wanted-written}

-- nothing is built for a query that gets its slot
reserved-fits : (state : State) (filter : Filter) (slot query : ℕ) → slot_at state.lives slot ≡ Free
    → FitsSlot state.accepted (tables_of state) filter slot (slot_at state.lives slot) → FitsSlot state.accepted (tables_of state) filter slot (Held query 0)
reserved-fits state filter slot query is fits =
    (λ has. absurd (none-in filter.dimension has), λ none. subst (FitsSlot state.accepted (tables_of state) filter slot) is fits)

sound-with_reserved : (query slot : ℕ) (state : State) → MayReserve query slot state → IsSound state
    → IsSound (record state {
      lives = record state.lives {
        queries = with_life query life.Building state.lives.queries;
        slots = set state.lives.slots slot (Held query 0);
      };
    })
sound-with_reserved query slot state can old =
    let there = can.there in
    let queries = with_life query life.Building state.lives.queries in
    let slots = set state.lives.slots slot (Held query 0) in
    let waits : life_in state.lives.queries query ≡ Some life.Waiting = oldest-waits state.lives.queries query old.slots.lives.rising can.oldest in
    let now : Holds state queries slots state.filters state.numbers.version = record {
      filters_now = filters-held state queries slots state.numbers.version state.filters.order (length-set state.lives.slots slot (Held query 0))
          (λ filter sound other low fits. fits-set state slot (Held query 0) filter other (reserved-fits state filter slot query can.is_free (sound.slots slot there)) low fits) old.filters;
      rosters = λ k d low j e within.
          let entry = (old.batches k d low).roster j e within in
          let on = get_or (get_or state.scan.flights k d).roster j e in
          entry-set state queries slot (Held query 0) on
          (λ same. let both : Held on.number entry.held.0 ≡ Free =
          sym entry.held.1 ∙ subst (λ at. slot_at state.lives at ≡ Free) (sym same) can.is_free in cc) (
            life-written MayBeOnRoster query life.Waiting life.Building state.lives.queries on.number waits (λ never. never),
            extents-written query life.Building state.lives.queries on.number,
          ) entry;
      queries_now = queries-written state query life.Waiting life.Building slots state.filters state.numbers.version waits
          (λ accepted extent same found was. was.0) (λ wanted. refl) old.queries;
      slots_now = record {
        lives = sound-reserved slot query state.lives there can.is_free can.oldest old.slots.lives;
        count = length-set state.lives.slots slot (Held query 0) ∙ old.slots.count;
        built = λ other holder built low.
            let inside : other < length state.lives.slots = subst (λ n. other < n) (length-set state.lives.slots slot (Held query 0)) low in
            at-set (λ s. s ≡ Held holder built → IfSome (life_in queries holder) (Built built)) state.lives.slots slot other (Held query 0) Free inside
            (λ same is. let number : query ≡ holder = cc in
            subst (λ o. IfSome o (Built built)) (sym (ap (life_in queries) (sym number) ∙ life_in-same state.lives.queries query life.Building
            ∙ ap (option_map (λ (before : Life). life.Building)) waits)) (λ gets dimension has. cc))
            (λ apart is. life-written (Built built) query life.Waiting life.Building state.lives.queries holder waits (λ h gets dimension has. cc)
            (old.slots.built other holder built inside is));
      };
      quiet = λ none.
          let queries_none : map (λ entry. entry.query) state.lives.queries ≡ [] =
          sym old.queries.same ∙ ap (map (λ accepted. accepted.number)) (old.quiet none).0 in
          let both : None ≡ Some life.Waiting = sym (no-life state.lives.queries queries_none query) ∙ waits in cc;
      versions = old.numbers.versions;
      unnumbered = old.numbers.unnumbered;
      order = old.order;
      wanted = wanted-written state query life.Waiting life.Building waits (λ is. cc) (λ is. cc) (λ h. ⊎_elim (λ e. cc) (λ e. cc) h);
    } in
    sound-held state queries slots state.filters state.numbers.version now old
  where
    Built : (built : ℕ) → Life → Type 0
    Built built now = IsTrue (gets_rows now) → (dimension : ℕ) → Has state.lives.filters dimension → Has built dimension

pub sound-after_reserving : (query slot : ℕ) (state : State) → MayReserve query slot state → IsSound state → IsSound (after_reserving slot state)
sound-after_reserving query slot state can old =
    subst (λ oldest. IsSound (record state {
      lives = option_map_or
          (λ query. record state.lives {
            queries = with_life query life.Building state.lives.queries;
            slots = set state.lives.slots slot (Held query 0);
          }) oldest state.lives;
    })) (sym can.oldest) (sound-with_reserved query slot state can old)
