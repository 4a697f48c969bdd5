-- The parts of a core where a slot has been given to a query, or taken from it.
use Rattle.event_core.proofs.Words.{◌<◌, ◌∙◌, ◌≡◌, ◌≢◌, ◌⊎◌, after_end, after_finish, after_reserve, after_reserving, ap, arith, AskedQueries, Becomes, cases_lt, CoreParts, finished, Free, get_or, get_or_past, Grouped, Held, inl, inr, IsCore, length, length-range_with_len, Life, life_of, List, Lives, MayFinish, MayReserve, None, Option, range_with_len, refl, reserved, set, slot_at, Some, state_of, subst, sym, unheld, with_kept_at, ℕ, ⊎_elim}
use Rattle.std.proofs.Math.ListN as lists
use Rattle.pipeline_manager.specs.declared.life.Life.TheVariants.{Ending}
use Rattle.core_state.specs.Handed.{attached_at}

-- a query that gets a slot
abbrev pub Reserves : Type 0
Reserves = (parts : CoreParts) (query slot : ℕ) → IsCore parts → MayReserve query slot (state_of parts) →
    Becomes (reserved slot parts) (after_reserving slot (state_of parts))

-- the parts where the lives are those in which a query has its slot
pub reserve-becomes : Reserves → (parts now : CoreParts) (query slot : ℕ) (lives : Lives) → parts ≡ now → IsCore parts
    → MayReserve query slot (state_of now) → lives ≡ after_reserve slot parts.lives
    → Becomes (record parts { lives = lives }) (after_reserving slot (state_of now))
reserve-becomes law parts now query slot lives is core may written =
    subst (λ seen. MayReserve query slot (state_of seen) → Becomes (record parts { lives = lives }) (after_reserving slot (state_of seen)))
    is (λ may. subst (λ lives. Becomes (record parts { lives = lives }) (after_reserving slot (state_of parts))) (sym written)
    (law parts query slot core may)) may

-- there are as many places for groups as slots
pub attached-count : (parts : CoreParts) → IsCore parts → length parts.attached ≡ length parts.lives.slots
attached-count parts core =
    ap length core.attached
    ∙ lists.length-map (range_with_len 0 (length parts.lives.slots)) (attached_at (state_of parts))
    ∙ length-range_with_len 0 (length parts.lives.slots)

-- a slot that a query holds is one of the slots
held-within : (lives : Lives) (slot query built : ℕ) → slot_at lives slot ≡ Held query built → slot < length lives.slots
held-within lives slot query built holds = ⊎_elim (λ low. low)
    (λ past. absurd (let both : Free ≡ Held query built = sym (get_or_past lives.slots slot Free past) ∙ holds in cc))
    (cases_lt slot (length lives.slots))

-- and groups have a place there
pub held-attached : (parts : CoreParts) (slot query built : ℕ) → IsCore parts → slot_at parts.lives slot ≡ Held query built
    → slot < length parts.attached
held-attached parts slot query built core holds =
    let low = held-within parts.lives slot query built holds in let count = attached-count parts core in omega arith

-- whether a life is that of a query that is to be answered
ending-or : (life : Option Life) → (life ≡ Some Ending) ⊎ (life ≢ Some Ending)
ending-or (Some Ending) = inl refl
ending-or other = inr (λ is. cc)

-- a slot that is taken from a query that is answered
abbrev pub FinishesAnswered : Type 0
FinishesAnswered = (parts : CoreParts) (slot query built : ℕ) → IsCore parts → MayFinish slot (state_of parts) →
    slot_at parts.lives slot ≡ Held query built → life_of parts.lives query ≡ Some Ending →
    Becomes (finished slot query (get_or parts.attached slot None) parts) (after_finish slot (state_of parts))

-- and from one that has no answer
abbrev pub FinishesUnanswered : Type 0
FinishesUnanswered = (parts : CoreParts) (slot query built : ℕ) → IsCore parts → MayFinish slot (state_of parts) →
    slot_at parts.lives slot ≡ Held query built → life_of parts.lives query ≢ Some Ending →
    Becomes (unheld slot parts) (after_finish slot (state_of parts))

-- what is kept beside a query with this life, if it is to be answered
pub record KeepsEnding (query : ℕ) (life : Option Life) (groups : Option Grouped) (old new : AskedQueries) : Type 0 where
  pub ending : life ≡ Some Ending → new ≡ record old { items = with_kept_at query groups old.items }
  pub others : life ≢ Some Ending → new ≡ old

-- the parts where a slot was taken from its query
pub finish-becomes : FinishesAnswered → FinishesUnanswered → (parts now : CoreParts) (slot query built : ℕ) (life : Option Life)
    (groups : Option Grouped) (old new : AskedQueries) (attached : List (Option Grouped)) (lives : Lives) → parts ≡ now → IsCore parts
    → MayFinish slot (state_of now) → slot_at parts.lives slot ≡ Held query built → life ≡ life_of parts.lives query
    → groups ≡ get_or parts.attached slot None → old.items ≡ parts.asked → KeepsEnding query life groups old new
    → attached ≡ set parts.attached slot None → lives ≡ after_end slot parts.lives
    → Becomes (record parts { asked = new.items; attached = attached; lives = lives }) (after_finish slot (state_of now))
finish-becomes answered unanswered parts now slot query built life groups old new attached lives is core may holds life-is groups-is
    asked-is keeps attached-is lives-is =
    subst (λ seen. MayFinish slot (state_of seen) → Becomes later (after_finish slot (state_of seen))) is
    (λ may. ⊎_elim (λ ending. subst (λ p. Becomes p (after_finish slot (state_of parts))) (answered-is ending)
    (answered parts slot query built core may holds (sym life-is ∙ ending)))
    (λ other. subst (λ p. Becomes p (after_finish slot (state_of parts))) (unanswered-is other)
    (unanswered parts slot query built core may holds (λ ending. other (life-is ∙ ending)))) (ending-or life)) may
  where
    later : CoreParts
    later = record parts { asked = new.items; attached = attached; lives = lives }

    answered-is : life ≡ Some Ending → finished slot query (get_or parts.attached slot None) parts ≡ later
    answered-is ending =
        let kept : new.items ≡ with_kept_at query (get_or parts.attached slot None) parts.asked =
        ap (λ (r : AskedQueries). r.items) (keeps.ending ending)
        ∙ ap (λ g. with_kept_at query g old.items) groups-is
        ∙ ap (with_kept_at query (get_or parts.attached slot None)) asked-is in
        ap (λ a. record parts { asked = a; attached = set parts.attached slot None; lives = after_end slot parts.lives }) (sym kept)
        ∙ ap (λ a. record parts { asked = new.items; attached = a; lives = after_end slot parts.lives }) (sym attached-is)
        ∙ ap (λ l. record parts { asked = new.items; attached = attached; lives = l }) (sym lives-is)

    unanswered-is : life ≢ Some Ending → unheld slot parts ≡ later
    unanswered-is other =
        let left : new.items ≡ parts.asked = ap (λ (r : AskedQueries). r.items) (keeps.others other) ∙ asked-is in
        ap (λ a. record parts { asked = a; attached = set parts.attached slot None; lives = after_end slot parts.lives }) (sym left)
        ∙ ap (λ a. record parts { asked = new.items; attached = a; lives = after_end slot parts.lives }) (sym attached-is)
        ∙ ap (λ l. record parts { asked = new.items; attached = attached; lives = l }) (sym lives-is)
