-- What a round of the driver leaves, by its phases.
use Rattle.core_driver.proofs.Words.{◌<◌, ◌∷◌, ◌≡◌, [], All-head, All-tail, All-weaker, arith, Clearing, Event, EventKind, Free, Held, IsFreeOrRuns, IsFreeOrUnderWay, IsLanded, IsLed, IsOfKind, IsOfSome, IsRunning, IsQuiet, IsSomeAnd, IsSound, IsUnderWay, length, Life, life_in, List, NoneMayCome, NoneOfMayCome, Option, SlotState, Some, State, subst, suc, sym, zero, ℕ}
use Rattle.std.specs.Prelude.{slice_index_or}
use Rattle.pipeline_manager.specs.declared.life.Life.TheVariants as life
use Rattle.event_core.specs.declared.choosing.EventKind.TheVariants as kind
use Rattle.core_driver.proofs.KindLemmas.{still-kinds}
use Rattle.core_driver.proofs.LandLemmas.{AreThrough, landed-led}
use Rattle.core_driver.proofs.LedLemmas.{led-wider}
use Rattle.core_driver.proofs.LoopLemmas.{landed-led-on}
use Rattle.core_driver.proofs.SettleLemmas.{lands}

-- no event of the first kind may come, nor any of the others
pub none-first : (first : EventKind) (kinds : List EventKind) (state : State) → NoneOfMayCome (first ∷ kinds) state → NoneMayCome first state
none-first first kinds state none = All-head (λ kind. NoneMayCome kind state) first kinds none

pub none-others : (first : EventKind) (kinds : List EventKind) (state : State) → NoneOfMayCome (first ∷ kinds) state → NoneOfMayCome kinds state
none-others first kinds state none = All-tail (λ kind. NoneMayCome kind state) first kinds none

-- an event of one kind, where that alone is asked for
pub only-kind : (first : EventKind) (event : Event) → IsOfSome (first ∷ []) event → IsOfKind first event
only-kind first event some = by_place some.0 some.1 some.2 some.3 some.4
  where
    by_place : (place : ℕ) (kind : EventKind) → place < length (first ∷ []) → slice_index_or (first ∷ []) place kind ≡ kind → IsOfKind kind event
        → IsOfKind first event
    by_place zero kind low is of_kind = subst (λ k. IsOfKind k event) (sym is) of_kind
    by_place (suc place) kind low is of_kind = absurd (omega arith)

-- once batches passed all filters, and were distributed, and slots became free, as far as they can be, a core is landed
pub round-lands : (passed landed free : State) → AreThrough passed → IsLed (IsOfSome (kind.Distribute ∷ [])) passed landed
    → NoneOfMayCome (kind.Distribute ∷ []) landed → IsLed (IsOfSome (kind.Finish ∷ kind.Clear ∷ kind.Release ∷ [])) landed free
    → NoneOfMayCome (kind.Finish ∷ kind.Clear ∷ kind.Release ∷ []) free → IsSound free → IsLanded free
round-lands passed landed free through distributed no_more freed no_others sound =
    lands free sound
    (landed-led-on (kind.Finish ∷ kind.Clear ∷ kind.Release ∷ []) still-kinds landed free freed
    (landed-led passed landed through
    (led-wider (IsOfSome (kind.Distribute ∷ [])) (IsOfKind kind.Distribute) (only-kind kind.Distribute) passed landed distributed)
    (none-first kind.Distribute [] landed no_more)))
    (none-first kind.Finish (kind.Clear ∷ kind.Release ∷ []) free no_others)
    (none-first kind.Clear (kind.Release ∷ []) free (none-others kind.Finish (kind.Clear ∷ kind.Release ∷ []) free no_others))
    (none-first kind.Release [] free (none-others kind.Clear (kind.Release ∷ []) free
    (none-others kind.Finish (kind.Clear ∷ kind.Release ∷ []) free no_others)))

-- a settled core is landed
pub settled-landed : (state : State) → IsQuiet state → IsLanded state
settled-landed state settled = record {
  landed = settled.landed;
  slots = All-weaker (IsFreeOrRuns state.lives) (IsFreeOrUnderWay state.lives) by_state state.lives.slots settled.slots;
}
  where
    by_life : (o : Option Life) → IsSomeAnd o IsRunning → IsSomeAnd o IsUnderWay
    by_life (Some (life.Running start left)) runs = tt
    by_life other runs = absurd runs

    by_state : (slot : SlotState) → IsFreeOrRuns state.lives slot → IsFreeOrUnderWay state.lives slot
    by_state Free runs = tt
    by_state (Held query built) runs = by_life (life_in state.lives.queries query) runs
    by_state (Clearing left) runs = absurd runs
