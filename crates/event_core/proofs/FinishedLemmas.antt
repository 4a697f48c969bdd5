-- The parts of a core where a slot is finished.
use Rattle.event_core.proofs.Words.{◌∙◌, ◌≡◌, ◌≢◌, Accepted, accepted_as, accepted_at, accepted_in, after_end, after_finish, All, ap, asked_at, AskedQuery, attached_for, attached_or, attached_to, Becomes, cases_eq, CoreParts, Done, Event, false, Finish, finished, get_or, get_or_from_slice_get, Grouped, Held, held-accepted, held-there, IsCore, IsEnabled, IsKept, IsScannedAs, IsSome, IsSound, IsTrue, known_in, LeavesScan, Life, life_of, List, MayFinish, None, Option, option_map_or, reaches_in, refl, Scanning, set, slice_get, slot_at, slot_of-holder, Some, State, state_of, subst, sym, tables_of, true, unheld, with_kept_at, ℕ, ⊎_elim}
use Rattle.pipeline_manager.specs.Conditions.{IsHolderOver, gives_up}
use Rattle.pipeline_manager.specs.declared.life.Life.TheVariants as life
use Rattle.core_state.specs.Events.{after_event}
use Rattle.core_state.specs.Submitting.{groups_in}
use Rattle.event_core.proofs.AskedKeptLemmas.{IsBeside, LeavesOthers, StaysGrouped, accepted-kept, accepted-of, asked-number, asked-there, beside-kept, beside-left, kept-this, kept_by, stays-other}
use Rattle.event_core.proofs.CoreAtLemmas.{KeepSound, becomes-of}
use Rattle.event_core.proofs.KeptLifeLemmas.{kept-with}
use Rattle.event_core.proofs.SeenLemmas.{accepted-same, known-with_kept, state-seen}
use Rattle.event_core.proofs.SlotGroupsLemmas.{attached-here, ended-elsewhere, ended-here, ended-reaches}

-- a slot that is finished has nothing attached any more
abbrev pub FinishDetaches : Type 0
FinishDetaches = (state : State) (slot : ℕ) → IsSound state → MayFinish slot state
    → attached_to (after_finish slot state) ≡ set (attached_to state) slot None

-- what was attached there for a query that is answered is what the core keeps of it
abbrev pub FinishAnswers : Type 0
FinishAnswers = (state : State) (slot query built : ℕ) (accepted : Accepted) → IsSound state
    → slot_at state.lives slot ≡ Held query built → life_of state.lives query ≡ Some life.Ending
    → accepted_at state.accepted query ≡ Some accepted
    → (slice_get (attached_to state) slot ≡ Some accepted.groups) × IsSome accepted.groups
    × (groups_in (after_finish slot state) query ≡ accepted.groups) × (life_of (after_finish slot state).lives query ≡ Some life.Answered)

-- an event that does not touch the scan leaves it
abbrev pub EventsLeaveScan : Type 0
EventsLeaveScan = (state : State) (scan : Scanning) (event : Event) → IsSound state → IsEnabled state event → LeavesScan event
    → IsScannedAs state scan → IsScannedAs (after_event event state) scan

-- a finish keeps a core sound
finish-sound : KeepSound → (state : State) (slot : ℕ) → MayFinish slot state → IsSound state → IsSound (after_finish slot state)
unfolding after_event
finish-sound keep state slot may sound = keep (Done (Finish slot)) state may sound

-- and leaves the scan
finish-scanned : EventsLeaveScan → (state : State) (scan : Scanning) (slot : ℕ) → IsSound state → MayFinish slot state
    → IsScannedAs state scan → IsScannedAs (after_finish slot state) scan
unfolding after_event
finish-scanned leaves state scan slot sound may scans = leaves state scan (Finish slot) sound may tt scans

-- the parts where a slot was finished, with these accepted queries
abbrev ended : (slot : ℕ) → List AskedQuery → CoreParts → CoreParts
ended slot asked parts = record parts {
  asked = asked;
  attached = set parts.attached slot None;
  lives = after_end slot parts.lives;
}

-- they stand for the core in which it was, where the accepted queries are as before and what is known of them is
ended-becomes : KeepSound → EventsLeaveScan → FinishDetaches → (parts : CoreParts) (slot query built : ℕ) (asked : List AskedQuery) → IsCore parts
    → MayFinish slot (state_of parts) → slot_at parts.lives slot ≡ Held query built
    → accepted_in (after_end slot parts.lives) (set parts.attached slot None) asked ≡ accepted_in parts.lives parts.attached parts.asked
    → known_in asked ≡ known_in parts.asked → All (IsBeside (after_end slot parts.lives) (set parts.attached slot None)) asked
    → Becomes (ended slot asked parts) (after_finish slot (state_of parts))
ended-becomes keep leaves detach parts slot query built asked core may holds same_accepted same_known beside =
    becomes-of (ended slot asked parts) (after_finish slot (state_of parts))
    (state-seen (ended slot asked parts) (accepted_in parts.lives parts.attached parts.asked) (known_in parts.asked) (reaches_in parts.lives.queries)
    same_accepted same_known (ended-reaches parts.lives slot query built holds)) (record {
      sound = finish-sound keep (state_of parts) slot may core.sound;
      tables = record { same = core.tables.same; keyed = core.tables.keyed };
      scanned = finish-scanned leaves (state_of parts) parts.scan slot core.sound may core.scanned;
      attached = ap (λ attached. set attached slot None) core.attached ∙ sym (detach (state_of parts) slot core.sound may);
      beside = beside;
      frames = core.frames;
      words = core.words;
    })

-- a slot's query is an accepted one
holder-asked : (parts : CoreParts) (slot query built : ℕ) → IsCore parts → slot_at parts.lives slot ≡ Held query built
    → (asked : AskedQuery) × (asked_at parts.asked query ≡ Some asked)
holder-asked parts slot query built core holds =
    by_found (asked_at parts.asked query) refl (asked-there parts.lives parts.attached parts.asked query
    (held-accepted (state_of parts) slot query built core.sound (held-there parts.lives slot query built holds) holds))
  where
    by_found : (o : Option AskedQuery) → asked_at parts.asked query ≡ o → IsSome o
        → (asked : AskedQuery) × (asked_at parts.asked query ≡ Some asked)
    by_found None is some = absurd (let both : false ≡ true = some in cc)
    by_found (Some asked) is some = (asked, is)

-- what is attached for the query of a slot is what is attached there
holder-attached : (parts : CoreParts) (slot query built : ℕ) → IsCore parts → slot_at parts.lives slot ≡ Held query built
    → attached_for parts.lives parts.attached query ≡ get_or parts.attached slot None
holder-attached parts slot query built core holds =
    attached-here parts.lives parts.attached query slot
    (slot_of-holder parts.lives slot query built core.sound.slots.lives (held-there parts.lives slot query built holds) holds)

-- groups that are attached are those that are kept
attached-first : (attached kept : Option Grouped) → IsSome attached → attached_or attached kept ≡ attached
attached-first None kept some = absurd (let both : false ≡ true = some in cc)
attached-first (Some groups) kept some = refl

-- where nothing is kept in all, nothing is attached
attached-none : (attached kept : Option Grouped) → attached_or attached kept ≡ None → attached ≡ None
attached-none None kept none = refl
attached-none (Some groups) kept none = none

-- there is something at a slot whose query is to be answered
ending-some : FinishAnswers → (parts : CoreParts) (slot query built : ℕ) → IsCore parts → slot_at parts.lives slot ≡ Held query built
    → life_of parts.lives query ≡ Some life.Ending → IsSome (get_or parts.attached slot None)
ending-some answers parts slot query built core holds ending =
    let there = holder-asked parts slot query built core holds in
    let accepted = accepted_as parts.lives parts.attached there.0 in
    let kept = answers (state_of parts) slot query built accepted core.sound holds ending
    (accepted-of parts.lives parts.attached parts.asked query there.0 there.1) in
    subst (λ o. IsSome o)
    (sym (get_or_from_slice_get parts.attached slot accepted.groups None (ap (λ attached. slice_get attached slot) core.attached ∙ kept.0))) kept.1

-- a query that is answered has beside it what it had at its slot
answered-stays : (parts : CoreParts) (slot query built : ℕ) (entry : AskedQuery) → IsCore parts → slot_at parts.lives slot ≡ Held query built
    → IsSome (get_or parts.attached slot None) → entry.number ≡ query
    → StaysGrouped parts.lives (after_end slot parts.lives) parts.attached (set parts.attached slot None) query (get_or parts.attached slot None) entry
answered-stays parts slot query built entry core holds some same =
    ap (λ o. attached_or o (kept_by query at entry))
    (ap (attached_for (after_end slot parts.lives) (set parts.attached slot None)) same
    ∙ ended-here parts.lives parts.attached slot query built core.sound.slots.lives holds)
    ∙ kept-this query at entry same
    ∙ sym (ap (λ o. attached_or o entry.kept) here ∙ attached-first at entry.kept some)
  where
    at : Option Grouped
    at = get_or parts.attached slot None

    here : attached_for parts.lives parts.attached entry.number ≡ at
    here = ap (attached_for parts.lives parts.attached) same ∙ holder-attached parts slot query built core holds

-- a slot whose query is answered is finished
pub finish-answered : KeepSound → EventsLeaveScan → FinishDetaches → FinishAnswers → (parts : CoreParts) (slot query built : ℕ) → IsCore parts
    → MayFinish slot (state_of parts) → slot_at parts.lives slot ≡ Held query built → life_of parts.lives query ≡ Some life.Ending
    → Becomes (finished slot query (get_or parts.attached slot None) parts) (after_finish slot (state_of parts))
finish-answered keep leaves detach answers parts slot query built core may holds ending =
    ended-becomes keep leaves detach parts slot query built (with_kept_at query at parts.asked) core may holds
    (accepted-kept parts.lives (after_end slot parts.lives) parts.attached (set parts.attached slot None) query at parts.asked (λ k d low.
    let entry = get_or parts.asked k d in
    ⊎_elim (answered-stays parts slot query built entry core holds (ending-some answers parts slot query built core holds ending))
    (stays-other parts.lives (after_end slot parts.lives) parts.attached (set parts.attached slot None) query at entry elsewhere)
    (cases_eq entry.number query)))
    (known-with_kept query at parts.asked)
    (beside-kept parts.lives (after_end slot parts.lives) parts.attached (set parts.attached slot None) query at parts.asked elsewhere
    (λ some. absurd (let both : false ≡ true =
    subst (λ o. IsSome o) (ended-here parts.lives parts.attached slot query built core.sound.slots.lives holds) some in cc)) core.beside)
  where
    at : Option Grouped
    at = get_or parts.attached slot None

    elsewhere : LeavesOthers parts.lives (after_end slot parts.lives) parts.attached (set parts.attached slot None) query
    elsewhere = ended-elsewhere parts.lives parts.attached slot query built core.sound.slots.lives holds

-- who holds a slot that may be finished, and is not to be answered, has nothing
kept-over : (state : State) (accepted : Accepted) (extent : ℕ) (now : Life) → IsTrue (gives_up now) → now ≢ life.Ending
    → IsKept (tables_of state) state.seats state.scan accepted extent now → accepted.groups ≡ None
kept-over state accepted extent life.Ending over apart kept = absurd (apart refl)
kept-over state accepted extent life.Spoiled over apart kept = kept
kept-over state accepted extent life.Abandoned over apart kept = kept
kept-over state accepted extent other over apart kept = absurd (let both : false ≡ true = over in cc)

-- nothing is attached for a query that gives up its slot with no answer
over-nothing : (parts : CoreParts) (slot query built : ℕ) → IsCore parts → MayFinish slot (state_of parts)
    → slot_at parts.lives slot ≡ Held query built → life_of parts.lives query ≢ Some life.Ending
    → attached_for parts.lives parts.attached query ≡ None
over-nothing parts slot query built core may holds apart =
    by_life (life_of parts.lives query) refl (subst (λ now. IsHolderOver now parts.lives) holds may.over)
  where
    there : (asked : AskedQuery) × (asked_at parts.asked query ≡ Some asked)
    there = holder-asked parts slot query built core holds

    accepted : Accepted
    accepted = accepted_as parts.lives parts.attached there.0

    by_life : (o : Option Life) → life_of parts.lives query ≡ o → IsTrue (option_map_or gives_up o false)
        → attached_for parts.lives parts.attached query ≡ None
    by_life None is over = absurd (let both : false ≡ true = over in cc)
    by_life (Some now) is over =
        let kept = kept-with (state_of parts) query accepted now core.sound
        (accepted-of parts.lives parts.attached parts.asked query there.0 there.1) is in
        ap (attached_for parts.lives parts.attached) (sym (asked-number parts.asked query there.0 there.1))
        ∙ attached-none (attached_for parts.lives parts.attached there.0.number) there.0.kept
        (kept-over (state_of parts) accepted kept.0 now over (λ same. apart (is ∙ ap Some same)) kept.1)

-- a slot whose query has no answer is finished
pub finish-unanswered : KeepSound → EventsLeaveScan → FinishDetaches → (parts : CoreParts) (slot query built : ℕ) → IsCore parts
    → MayFinish slot (state_of parts) → slot_at parts.lives slot ≡ Held query built → life_of parts.lives query ≢ Some life.Ending
    → Becomes (unheld slot parts) (after_finish slot (state_of parts))
finish-unanswered keep leaves detach parts slot query built core may holds apart =
    ended-becomes keep leaves detach parts slot query built parts.asked core may holds
    (sym (accepted-same parts.lives (after_end slot parts.lives) parts.attached (set parts.attached slot None) parts.asked (λ number.
    ⊎_elim
    (λ same. ap (attached_for parts.lives parts.attached) same ∙ over-nothing parts slot query built core may holds apart
    ∙ sym (ap (attached_for (after_end slot parts.lives) (set parts.attached slot None)) same ∙ here))
    (λ other. sym (elsewhere number other))
    (cases_eq number query))))
    refl
    (beside-left parts.lives (after_end slot parts.lives) parts.attached (set parts.attached slot None) query parts.asked elsewhere here core.beside)
  where
    here : attached_for (after_end slot parts.lives) (set parts.attached slot None) query ≡ None
    here = ended-here parts.lives parts.attached slot query built core.sound.slots.lives holds

    elsewhere : LeavesOthers parts.lives (after_end slot parts.lives) parts.attached (set parts.attached slot None) query
    elsewhere = ended-elsewhere parts.lives parts.attached slot query built core.sound.slots.lives holds
