-- What events leave of what each slot shows.
use Rattle.core_state.proofs.Words.{◌+◌, ◌<◌, ◌∙◌, ◌≡◌, ◌≢◌, [], accepted_at, after_build, after_build_wants, after_clear, after_finish, after_give, after_outcome, after_release, after_reserving, ap, arith, Bool, CanBuild, CanFree, cases_eq, Change, Clearing, cond, DimensionDeclared, false, Filter, forgotten, Free, get_or, get_or-set_other, get_or-set_same, gets_rows, given_up, grouped_of, Held, holder_of, inl, inr, is_ending, is_held_by, IsSound, length, length-set, Life, life_in, life_of, List, Lives, map, MayFinish, MayReserve, None, oldest-waits, Option, option_and_then, option_map_or, query_in, query_in-push_other, QueryLife, refl, set, slot_at, slot_of, SlotState, Some, start_at, start_in, State, subst, sym, true, versions_in, with_built, with_change, with_dimension, with_life, with_query, with_slot, with_version, without_dimension, ℕ, ⊎_elim}
use Rattle.std.proofs.Common.{find}
use Rattle.star_store.specs.Outcome as outcome
use Rattle.pipeline_manager.specs.Conditions.{IsHolderOver, gives_up}
use Rattle.pipeline_manager.specs.declared.life.Life.TheVariants as life
use Rattle.core_state.proofs.AskLemmas.{accepted-push}
use Rattle.core_state.proofs.BesideLemmas.{held-low}
use Rattle.core_state.proofs.FrameLemmas.{at-set}
use Rattle.core_state.proofs.HandedSlotLemmas.{gets, gets-none, held-there}
use Rattle.core_state.proofs.ScannedLifeLemmas.{HoldsOnce, accepted-other, holder-cases, holder-held, holds-once, lives_with, other-holder, query-other, state_with}
use Rattle.core_state.proofs.ViewLemmas.{ShowsAs, Views}
use Rattle.core_state.proofs.WholeFrameLemmas.{by-built, by-option}
use Rattle.core_state.proofs.WholeToldLemmas.{seated}

-- Slots that are written over.

-- the same lives and queries, and a slot that is written over has the holder that it had
views-slot : (state later : State) (slot : ℕ) (new : SlotState) → later.scan.position ≡ state.scan.position
    → later.accepted ≡ state.accepted → later.lives ≡ with_slot slot new state.lives → holder_of new ≡ holder_of (slot_at state.lives slot)
    → Views state later None
views-slot state later slot new position accepted lives holder = record {
  position = position;
  count = ap (λ (l : Lives). length l.slots) lives ∙ length-set state.lives.slots slot new;
  each = λ at low other. inr (record {
    holder = ap (λ (l : Lives). holder_of (slot_at l at)) lives
        ∙ at-set (λ s. holder_of s ≡ holder_of (slot_at state.lives at)) state.lives.slots slot at new Free low
        (λ is. holder ∙ ap (λ n. holder_of (slot_at state.lives n)) (sym is)) (λ apart. refl);
    lives = λ query is. ap (λ (l : Lives). query_in l.queries query) lives;
    asked = λ query is. ap (λ a. accepted_at a query) accepted;
  });
}

-- nothing of what slots show changes
pub record Keeps (state later : State) : Type 0 where
  pub position : later.scan.position ≡ state.scan.position
  pub accepted : later.accepted ≡ state.accepted
  pub queries : later.lives.queries ≡ state.lives.queries
  pub slots : later.lives.slots ≡ state.lives.slots

pub views-all : (state later : State) → Keeps state later → Views state later None
views-all state later keeps = record {
  position = keeps.position;
  count = ap (λ (s : List SlotState). length s) keeps.slots;
  each = λ at low other. inr (record {
    holder = ap (λ (s : List SlotState). holder_of (get_or s at Free)) keeps.slots;
    lives = λ query is. ap (λ q. query_in q query) keeps.queries;
    asked = λ query is. ap (λ a. accepted_at a query) keeps.accepted;
  });
}

holder-more : (dimension : ℕ) (now : SlotState) → holder_of (with_dimension dimension now) ≡ holder_of now
holder-more dimension (Held query built) = refl
holder-more dimension other = refl

holder-less : (dimension : ℕ) (now : SlotState) → holder_of (without_dimension dimension now) ≡ holder_of now
holder-less dimension (Held query built) = refl
holder-less dimension other = refl

pub views-build : (state : State) (query dimension : ℕ) → Views state (after_build query dimension state) None
views-build state query dimension = by_slot (slot_of state.lives query)
  where
    same : {X : Type 0} (part : State → X) → ((change : Filter → Filter) → part (with_version dimension change state) ≡ part state)
        → part (with_built query dimension state) ≡ part state
    same part each = by-built (λ s. part s ≡ part state) query dimension state refl each

    by_slot : (o : Option ℕ) → Views state (record (with_built query dimension state) {
      lives = option_map_or (λ slot. with_slot slot (with_dimension dimension (slot_at state.lives slot)) state.lives) o state.lives;
    }) None
    by_slot None = views-all state _ (record {
      position = same (λ s. s.scan.position) (λ change. refl);
      accepted = same (λ s. s.accepted) (λ change. refl);
      queries = refl;
      slots = refl;
    })
    by_slot (Some slot) = views-slot state _ slot (with_dimension dimension (slot_at state.lives slot))
        (same (λ s. s.scan.position) (λ change. refl)) (same (λ s. s.accepted) (λ change. refl)) refl (holder-more dimension (slot_at state.lives slot))

pub views-give : (state : State) (worker : ℕ) → Views state (after_give worker state) None
views-give state worker =
    by-option (λ later. Views state later None) (find (is_held_by worker) state.scan.flights) _ state
    (views-all state state (record { position = refl; accepted = refl; queries = refl; slots = refl }))
    (λ flight is. views-all state _ (record { position = refl; accepted = refl; queries = refl; slots = refl }))

pub views-clear : (state : State) (slot dimension : ℕ) → Views state (after_clear slot dimension state) None
views-clear state slot dimension = views-slot state (after_clear slot dimension state) slot
    (without_dimension dimension (slot_at state.lives slot)) refl refl refl (holder-less dimension (slot_at state.lives slot))

pub views-release : (state : State) (slot : ℕ) → CanFree slot state.lives → Views state (after_release slot state) None
views-release state slot can = views-slot state (after_release slot state) slot Free refl refl refl (sym (ap holder_of can))

-- One query of which something changes.

-- of each query but one the life and what is kept stay
abbrev pub OthersStay : (state later : State) → (query : ℕ) → Type 0
OthersStay state later query = (number : ℕ) → number ≢ query
    → (query_in later.lives.queries number ≡ query_in state.lives.queries number)
    × (accepted_at later.accepted number ≡ accepted_at state.accepted number)

-- the one has another life, and what is kept of it may be another
pub others-written : (state : State) (query : ℕ) (new : Life) → OthersStay state (state_with query new state) query
others-written state query new number apart = (query-other query new state.lives.queries number apart, refl)

pub others-without : (state : State) (query : ℕ) (new : Life)
    → OthersStay state (record state { accepted = map (forgotten query) state.accepted; lives = lives_with query new state.lives }) query
others-without state query new number apart =
    (query-other query new state.lives.queries number apart, accepted-other query state.accepted number apart)

-- a slot that it does not hold shows what it showed
other-shows : (state later : State) (query slot : ℕ) → OthersStay state later query
    → holder_of (slot_at later.lives slot) ≡ holder_of (slot_at state.lives slot)
    → holder_of (slot_at state.lives slot) ≢ Some query → ShowsAs state later slot
other-shows state later query slot others holder apart = inr (record {
  holder = holder;
  lives = λ number is. (others number (λ same. apart (is ∙ ap Some same))).0;
  asked = λ number is. (others number (λ same. apart (is ∙ ap Some same))).1;
})

-- whether the holder of a slot gets rows
abbrev gets_by : Lives → (holder : Option ℕ) → Bool
gets_by lives holder = option_map_or gets_rows (option_and_then (life_of lives) holder) false

-- where it gets no rows before and after, each slot that has its holder does
quiet-shows : (state later : State) (query slot : ℕ) → OthersStay state later query → gets state.lives query ≡ false
    → gets later.lives query ≡ false → holder_of (slot_at later.lives slot) ≡ holder_of (slot_at state.lives slot) → ShowsAs state later slot
quiet-shows state later query slot others before after holder = ⊎_elim
    (λ held. inl (ap (gets_by state.lives) held ∙ before, ap (gets_by later.lives) (holder ∙ held) ∙ after))
    (other-shows state later query slot others holder)
    (holder-cases (holder_of (slot_at state.lives slot)) query)

pub views-quiet : (state later : State) (query : ℕ) → later.scan.position ≡ state.scan.position → later.lives.slots ≡ state.lives.slots
    → OthersStay state later query → gets state.lives query ≡ false → gets later.lives query ≡ false → Views state later None
views-quiet state later query position slots others before after = record {
  position = position;
  count = ap (λ (s : List SlotState). length s) slots;
  each = λ at low other.
      quiet-shows state later query at others before after (ap (λ (s : List SlotState). holder_of (get_or s at Free)) slots);
}

-- a query that finds no memory as a filter is built for it got no rows
pub views-wants : (state : State) (query dimension : ℕ) → CanBuild query dimension state.lives → Views state (after_build_wants query state) None
views-wants state query dimension can = views-quiet state (after_build_wants query state) query refl refl
    (others-without state query life.Spoiled) (ap (λ o. option_map_or gets_rows o false) can.building)
    (gets-none state.lives query life.Spoiled refl)

-- a query that is given a slot gets no rows yet
pub views-reserve : (state : State) (query slot : ℕ) → IsSound state → MayReserve query slot state → Views state (after_reserving slot state) None
views-reserve state query slot sound may =
    subst (λ o. Views state (record state { lives = option_map_or reserved o state.lives }) None) (sym may.oldest) (record {
      position = refl;
      count = length-set state.lives.slots slot (Held query 0);
      each = λ at low other. ⊎_elim
          (λ is. inl (
            ap (λ n. gets_by state.lives (holder_of (slot_at state.lives n))) is ∙ ap (λ s. gets_by state.lives (holder_of s)) may.is_free,
            ap (λ n. gets_by later.lives (holder_of (slot_at later.lives n))) is
                ∙ ap (λ s. gets_by later.lives (holder_of s)) (get_or-set_same state.lives.slots slot (Held query 0) Free may.there) ∙ after,
          ))
          (λ apart. quiet-shows state later query at (λ number is. (query-other query life.Building state.lives.queries number is, refl))
          (ap (λ o. option_map_or gets_rows o false) (oldest-waits state.lives.queries query sound.slots.lives.rising may.oldest)) after
          (ap holder_of (get_or-set_other state.lives.slots slot at (Held query 0) Free apart)))
          (cases_eq at slot);
    })
  where
    reserved : ℕ → Lives
    reserved number = record state.lives {
      queries = with_life number life.Building state.lives.queries;
      slots = set state.lives.slots slot (Held number 0);
    }

    later : State
    later = record state { lives = reserved query }

    after : gets later.lives query ≡ false
    after = gets-none state.lives query life.Building refl

-- another life is written for a query that may hold a slot: the other slots show what they showed
pub views-written : (state later : State) (query : ℕ) → later.scan.position ≡ state.scan.position → later.lives.slots ≡ state.lives.slots
    → OthersStay state later query → HoldsOnce state.lives → Views state later (slot_of state.lives query)
views-written state later query position slots others once = record {
  position = position;
  count = ap (λ (s : List SlotState). length s) slots;
  each = λ at low apart. other-shows state later query at others (ap (λ (s : List SlotState). holder_of (get_or s at Free)) slots)
      (other-holder state.lives query at once low apart);
}

-- of a query that holds a slot
pub views-at : (state : State) (query slot : ℕ) (new : Life) → IsSound state → slot_of state.lives query ≡ Some slot
    → Views state (state_with query new state) (Some slot)
views-at state query slot new sound place = subst (Views state (state_with query new state)) place
    (views-written state (state_with query new state) query refl refl (others-written state query new) (holds-once state sound))

-- a slot that is taken from its query is there; nobody runs in it before, and nobody holds it after; the others show what
-- they showed
pub record IsTakenFrom (state later : State) (slot : ℕ) : Type 0 where
  pub there : slot < length state.lives.slots
  pub before : start_at state.lives slot ≡ None
  pub after : holder_of (slot_at later.lives slot) ≡ None
  pub views : Views state later (Some slot)

-- a query that gives up does not run
over-rests : (o : Option Life) → option_map_or gives_up o false ≡ true → option_and_then start_in o ≡ None
over-rests (Some (life.Running start left)) over = absurd (let both : false ≡ true = over in cc)
over-rests other over = refl

pub views-finish : (state : State) (slot : ℕ) → IsSound state → MayFinish slot state → IsTakenFrom state (after_finish slot state) slot
views-finish state slot sound may = by_slot (slot_at state.lives slot) refl may.over
  where
    ended : (built : ℕ) → List QueryLife → State
    ended built queries = record state { lives = record state.lives { queries = queries; slots = set state.lives.slots slot (Clearing built) } }

    by_queries : (query built : ℕ) → slot_at state.lives slot ≡ Held query built → IsHolderOver (Held query built) state.lives
        → (queries : List QueryLife) → OthersStay state (ended built queries) query → IsTakenFrom state (ended built queries) slot
    by_queries query built is over queries others =
        let low : slot < length state.lives.slots = held-there state.lives slot query built is in
        record {
          there = low;
          before = ap (λ s. option_and_then start_in (option_and_then (life_of state.lives) (holder_of s))) is
              ∙ over-rests (life_of state.lives query) over;
          after = ap holder_of (get_or-set_same state.lives.slots slot (Clearing built) Free low);
          views = record {
            position = refl;
            count = length-set state.lives.slots slot (Clearing built);
            each = λ at inside apart. other-shows state (ended built queries) query at others
                (ap holder_of (get_or-set_other state.lives.slots slot at (Clearing built) Free (λ same. apart (ap Some (sym same)))))
                (other-holder state.lives query at (holds-once state sound) inside
                (λ place. apart (sym (holds-once state sound slot query built low is) ∙ place)));
          };
        }

    by_test : (query built : ℕ) → slot_at state.lives slot ≡ Held query built → IsHolderOver (Held query built) state.lives → (t : Bool)
        → IsTakenFrom state (ended built (cond {A = List QueryLife} t (with_life query life.Answered state.lives.queries) state.lives.queries)) slot
    by_test query built is over true = by_queries query built is over (with_life query life.Answered state.lives.queries)
        (λ number apart. (query-other query life.Answered state.lives.queries number apart, refl))
    by_test query built is over false = by_queries query built is over state.lives.queries (λ number apart. (refl, refl))

    by_slot : (now : SlotState) → slot_at state.lives slot ≡ now → IsHolderOver now state.lives
        → IsTakenFrom state (record state { lives = given_up slot now state.lives }) slot
    by_slot Free is over = absurd over
    by_slot (Held query built) is over = by_test query built is over (option_map_or is_ending (life_in state.lives.queries query) false)
    by_slot (Clearing left) is over = absurd over

-- Statements.

-- no slot is held by this number
abbrev NoneHolds : (number : ℕ) → Lives → Type 0
NoneHolds number lives = (slot : ℕ) → slot < length lives.slots → holder_of (slot_at lives slot) ≢ Some number

-- no slot is held by the number of the next statement
next-free : (state : State) → IsSound state → NoneHolds (state.numbers.statement + 1) state.lives
next-free state sound slot low holds =
    let held = holder-held (state.numbers.statement + 1) (slot_at state.lives slot) holds in
    let given = held-low state sound.slots.lives sound.queries slot (state.numbers.statement + 1) held.0 low held.1 in
    omega arith

-- the change of a statement
change-keeps : (seat statement : ℕ) (change : Change) (state later : State) → Keeps state later
    → Keeps state (with_change seat statement change later)
change-keeps seat statement (DimensionDeclared table) state later keeps =
    record { position = keeps.position; accepted = keeps.accepted; queries = keeps.queries; slots = keeps.slots }
change-keeps seat statement other state later keeps =
    record { position = keeps.position; accepted = keeps.accepted; queries = keeps.queries; slots = keeps.slots }

-- the query of a statement, whose number is that of no holder
views-query : (seat statement : ℕ) (told : outcome.Told) (state later : State) → NoneHolds statement state.lives → Keeps state later
    → Views state (with_query seat statement told later) None
views-query seat statement (outcome.Replied reply) state later none keeps = views-all state later keeps
views-query seat statement (outcome.Accepted query snapshot) state later none keeps = record {
  position = keeps.position;
  count = ap (λ (s : List SlotState). length s) keeps.slots;
  each = λ at low other. inr (record {
    holder = ap (λ (s : List SlotState). holder_of (get_or s at Free)) keeps.slots;
    lives = λ number is. query_in-push_other later.lives.queries
        (record { query = statement; extent = versions_in later; life = life.Waiting }) number (λ e. none at low (is ∙ ap Some e))
        ∙ ap (λ q. query_in q number) keeps.queries;
    asked = λ number is. accepted-push later.accepted
        (record { number = statement; seat = seat; query = query; snapshot = snapshot; groups = Some (grouped_of query []) })
        number (λ e. none at low (is ∙ ap Some (sym e))) ∙ ap (λ a. accepted_at a number) keeps.accepted;
  });
}

pub views-outcome : (state : State) (seat : ℕ) (found : outcome.Outcome) → IsSound state → Views state (after_outcome seat found state) None
views-outcome state seat found sound =
    views-query seat (state.numbers.statement + 1) found.told state _ (next-free state sound)
    (by-option (Keeps state) found.change (λ change. with_change seat (state.numbers.statement + 1) change before) before first
    (λ change is. change-keeps seat (state.numbers.statement + 1) change state before first))
  where
    before : State
    before = seated seat found.told state

    first : Keeps state before
    first = record { position = refl; accepted = refl; queries = refl; slots = refl }
