-- Filters that are ordered anew keep a core sound.
use Rattle.core_state.proofs.Words.{after_reorder, Filters, IsSound, refl, State}
use Rattle.core_state.specs.Cutting.{order_by}
use Rattle.core_parts.proofs.OrderLemmas.{order_by-permutes}
use Rattle.core_state.proofs.HeldLemmas.{filters-held}
use Rattle.core_state.proofs.MovedLemmas.{Holds, sound-held}

pub sound-reordered : (state : State) → IsSound state → IsSound (after_reorder state)
sound-reordered state old =
    let filters : Filters = record state.filters { order = order_by state.filters } in
    let now : Holds state state.lives.queries state.lives.slots filters state.numbers.version = record {
      filters_now = filters-held state state.lives.queries state.lives.slots state.numbers.version (order_by state.filters) refl
          (λ filter sound slot low fits. fits) old.filters;
      rosters = λ k d low. (old.batches k d low).roster;
      queries_now = record { same = old.queries.same; each = old.queries.each };
      slots_now = record { lives = old.slots.lives; count = old.slots.count; built = old.slots.built };
      quiet = λ none. (old.quiet none).2;
      versions = old.numbers.versions;
      unnumbered = old.numbers.unnumbered;
      order = record { tallies = old.order.tallies; count = old.order.count; order = order_by-permutes state.filters };
      wanted = λ query. (λ h. h, λ h. h, λ h. h);
    } in
    sound-held state state.lives.queries state.lives.slots filters state.numbers.version now old
