-- A core of which the lives of queries, the filters and the last numbers change.
use Rattle.event_core.proofs.Words.{◌∙◌, accepted_in, after_reorder, after_reserve, after_reserving, ap, attached_for, attached_to, Becomes, CanFree, cases_eq, CoreParts, Event, Filters, Free, gets, gets_rows, Grouped, Held, is_held_by, IsCore, IsEnabled, IsSome, IsSound, known_in, LeavesAttached, LeavesRest, LeavesScan, Lives, MayReserve, Numbers, option_map_or, order_by, reaches_in, Release, Reorder, reordered, Reserve, reserved, State, state_of, subst, sym, tables_of, with_life, with_slot, ⊎_elim}
use Rattle.std.specs.Prelude.{◌≡◌, ℕ, false, List, Option, refl}
use Rattle.pipeline_manager.specs.Changes.{after_free}
use Rattle.pipeline_manager.specs.declared.life.Life.TheVariants as life
use Rattle.pipeline_manager.proofs.LifeLemmas.{oldest-waits}
use Rattle.core_state.specs.Admitting.{after_release}
use Rattle.core_state.specs.Events.{after_event}
use Rattle.core_state.proofs.AttachedEventLemmas.{attached-event}
use Rattle.core_state.proofs.HandedSlotLemmas.{gets-none}
use Rattle.event_core.specs.Changes.{released}
use Rattle.event_core.proofs.HeldSlotLemmas.{attached_for-none, attached_for-written, beside-same, held-by_other}
use Rattle.event_core.proofs.SeenLemmas.{accepted-same, reaches-with_life, state-seen}

-- quiet events leave a core
abbrev pub QuietEventsLeave : Type 0
QuietEventsLeave = (old new : CoreParts) (event : Event) → IsCore old → IsEnabled (state_of old) event → LeavesScan event
    → LeavesAttached event → state_of new ≡ after_event event (state_of old) → LeavesRest old new → IsCore new

-- the parts with these lives, filters and numbers
abbrev pub parts_lived : Lives → Filters → Numbers → CoreParts → CoreParts
parts_lived lives filters numbers parts = record parts { lives = lives; filters = filters; numbers = numbers }

-- and the state
abbrev pub state_lived : Lives → Filters → Numbers → State → State
state_lived lives filters numbers state = record state { lives = lives; filters = filters; numbers = numbers }

-- by these lives the same is attached for each query, and each goes as far
pub record IsSeenAs (lives later : Lives) (groups : List (Option Grouped)) : Type 0 where
  pub attached : (query : ℕ) → attached_for later groups query ≡ attached_for lives groups query
  pub reaches : reaches_in later.queries ≡ reaches_in lives.queries

-- the state that these parts stand for
pub state-lived : (parts : CoreParts) (lives : Lives) (filters : Filters) (numbers : Numbers) → IsSeenAs parts.lives lives parts.attached
    → state_of (parts_lived lives filters numbers parts) ≡ state_lived lives filters numbers (state_of parts)
state-lived parts lives filters numbers same = state-seen (parts_lived lives filters numbers parts)
    (accepted_in parts.lives parts.attached parts.asked) (known_in parts.asked) (reaches_in parts.lives.queries)
    (accepted-same lives parts.lives parts.attached parts.attached parts.asked same.attached)
    refl same.reaches

-- what a quiet event makes of such parts
pub becomes-lived : QuietEventsLeave → (parts : CoreParts) (event : Event) (after : State) (lives : Lives) (filters : Filters) (numbers : Numbers)
    → IsCore parts → IsEnabled (state_of parts) event → LeavesScan event → LeavesAttached event
    → after_event event (state_of parts) ≡ after → IsSeenAs parts.lives lives parts.attached
    → state_lived lives filters numbers (state_of parts) ≡ after
    → Becomes (parts_lived lives filters numbers parts) after
becomes-lived quiet parts event after lives filters numbers core may scan attached is same becomes = record {
  state = state-lived parts lives filters numbers same ∙ becomes;
  core = quiet parts (parts_lived lives filters numbers parts) event core may scan attached
      (state-lived parts lives filters numbers same ∙ becomes ∙ sym is) (record {
        tables = refl;
        scan = refl;
        attached = refl;
        settings = refl;
        made = refl;
        words = refl;
        entries = refl;
        beside = beside-same parts.lives lives parts.attached parts.attached parts.asked same.attached core.beside;
      });
}

-- a query that is given a slot leaves what is attached
attached-reserve : (state : State) (query slot : ℕ) → IsSound state → MayReserve query slot state
    → attached_to (after_reserving slot state) ≡ attached_to state
unfolding after_event
attached-reserve state query slot sound may = attached-event state (Reserve query slot) sound may tt

-- the slot that a query is given was Free, and nothing is attached for a query that gets no rows
seen-reserved : (parts : CoreParts) (query slot : ℕ) → IsCore parts → MayReserve query slot (state_of parts)
    → IsSeenAs parts.lives (after_reserve slot parts.lives) parts.attached
seen-reserved parts query slot core may =
    subst (λ o. IsSeenAs parts.lives (option_map_or reserved_for o parts.lives) parts.attached) (sym may.oldest) (record {
      attached = λ other. ⊎_elim
          (λ is. subst (λ n. attached_for later parts.attached n ≡ attached_for parts.lives parts.attached n) (sym is) here)
          (λ apart. attached_for-written parts.lives parts.attached slot other (Held query 0)
          (held-by_other query other 0 apart ∙ sym (ap (is_held_by other) may.is_free)))
          (cases_eq other query);
      reaches = reaches-with_life query life.Building parts.lives.queries;
    })
  where
    state : State
    state = state_of parts

    reserved_for : ℕ → Lives
    reserved_for number = record (with_slot slot (Held number 0) parts.lives) {
      queries = with_life number life.Building parts.lives.queries;
    }

    later : Lives
    later = reserved_for query

    none : gets parts.lives query ≡ false
    none = ap (λ o. option_map_or gets_rows o false) (oldest-waits parts.lives.queries query core.sound.slots.lives.rising may.oldest)

    stays : attached_to (record state { lives = later }) ≡ attached_to state
    stays = subst (λ o. attached_to (record state { lives = option_map_or reserved_for o parts.lives }) ≡ attached_to state) may.oldest
        (attached-reserve state query slot core.sound may)

    here : attached_for later parts.attached query ≡ attached_for parts.lives parts.attached query
    here =
        ap (λ attached. attached_for later attached query) (core.attached ∙ sym stays)
        ∙ attached_for-none (record state { lives = later }) query
        (gets-none parts.lives query life.Building refl)
        ∙ sym (ap (λ attached. attached_for parts.lives attached query) core.attached ∙ attached_for-none state query none)

-- a slot that is free again was held by no query
seen-released : (parts : CoreParts) (slot : ℕ) → CanFree slot parts.lives
    → IsSeenAs parts.lives (after_free slot parts.lives) parts.attached
seen-released parts slot can = record {
  attached = λ query. attached_for-written parts.lives parts.attached slot query Free (sym (ap (is_held_by query) can));
  reaches = refl;
}

-- the parts where a query gets a slot
pub becomes-reserved : QuietEventsLeave → (parts : CoreParts) (query slot : ℕ) → IsCore parts → MayReserve query slot (state_of parts)
    → Becomes (reserved slot parts) (after_reserving slot (state_of parts))
unfolding after_event
becomes-reserved quiet parts query slot core may =
    becomes-lived quiet parts (Reserve query slot) (after_reserving slot (state_of parts)) (after_reserve slot parts.lives) parts.filters
    parts.numbers core may tt tt refl (seen-reserved parts query slot core may) refl

-- the parts where a slot is free again
pub becomes-released : QuietEventsLeave → (parts : CoreParts) (slot : ℕ) → IsCore parts → CanFree slot parts.lives
    → Becomes (released slot parts) (after_release slot (state_of parts))
unfolding after_event
becomes-released quiet parts slot core can =
    becomes-lived quiet parts (Release slot) (after_release slot (state_of parts)) (after_free slot parts.lives) parts.filters
    parts.numbers core can tt tt refl (seen-released parts slot can) refl

-- the parts with another order of the filters
pub becomes-reordered : QuietEventsLeave → (parts : CoreParts) → IsCore parts → IsSome (tables_of (state_of parts)).schema.fact
    → Becomes (reordered parts) (after_reorder (state_of parts))
unfolding after_event
becomes-reordered quiet parts core may =
    becomes-lived quiet parts Reorder (after_reorder (state_of parts)) parts.lives
    (record parts.filters { order = order_by parts.filters }) parts.numbers core may tt tt refl
    (record { attached = λ query. refl; reaches = refl }) refl
