-- Who holds a slot, and lives of which one query's is another.
use Rattle.core_state.proofs.Words.{◌<◌, ◌∙◌, ◌≡◌, ◌≢◌, ◌⊎◌, Accepted, accepted_at, ap, cases_eq, Clearing, cond, eqb, eqb-true, forgotten, Free, Held, holder_of, inl, inr, IsSound, length, Life, life_in, life_in-same, life_of, List, Lives, map, ne_eqb, None, none-some, Option, option_and_then, option_map, query_in, QueryLife, refl, renewed, renewed-number, same_Some, slot_at, slot_of, slot_of-holder, SlotState, Some, start_at, start_in, State, subst, sym, with_life, ℕ, ⊎_elim}
use Rattle.core_state.proofs.AnewLemmas.{by-change, forgets}
use Rattle.core_state.proofs.CutRosterLemmas.{holds-slot}
use Rattle.core_state.proofs.FoundLemmas.{find-left}

-- the lives of which one query's is another
abbrev pub lives_with : (query : ℕ) → Life → Lives → Lives
lives_with query new lives = record lives { queries = with_life query new lives.queries }

-- the core of which one query's life is another
abbrev pub state_with : (query : ℕ) → Life → State → State
state_with query new state = record state { lives = lives_with query new state.lives }

-- what holds of no life, and of the one that is written, holds of the query's
pub life-renewed : (P : Option Life → Type 0) (lives : Lives) (query : ℕ) (new : Life) → P None → P (Some new)
    → P (life_of (lives_with query new lives) query)
life-renewed P lives query new none some = subst P (sym (life_in-same lives.queries query new)) (by_life (life_in lives.queries query))
  where
    by_life : (o : Option Life) → P (option_map (λ (old : Life). new) o)
    by_life None = none
    by_life (Some old) = some

-- where a query does not run by its life, no lap began in its slot
pub start-none : (lives : Lives) (query slot : ℕ) → slot_of lives query ≡ Some slot → option_and_then start_in (life_of lives query) ≡ None
    → start_at lives slot ≡ None
start-none lives query slot place rests =
    ap (λ s. option_and_then start_in (option_and_then (life_of lives) (holder_of s))) (holds-slot lives query slot place).2 ∙ rests

pub start-written : (lives : Lives) (query slot : ℕ) (new : Life) → slot_of lives query ≡ Some slot → start_in new ≡ None
    → start_at (lives_with query new lives) slot ≡ None
start-written lives query slot new place rests = start-none (lives_with query new lives) query slot place
    (life-renewed (λ o. option_and_then start_in o ≡ None) lives query new refl rests)

-- another query is found as before
pub query-other : (query : ℕ) (new : Life) (queries : List QueryLife) (number : ℕ) → number ≢ query
    → query_in (with_life query new queries) number ≡ query_in queries number
query-other query new queries number apart = find-left (λ (entry : QueryLife). eqb entry.query number) (renewed query new)
    (λ entry. ap (λ n. eqb n number) (renewed-number query new entry))
    (λ entry is. ap (λ t. cond {A = QueryLife} t (record entry { life = new }) entry)
    (ne_eqb entry.query query (λ same. apart (sym (eqb-true entry.query number is) ∙ same)))) queries

-- and asked as before, with what is kept of it, where nothing is kept of one any more
pub accepted-other : (query : ℕ) (accepted : List Accepted) (number : ℕ) → number ≢ query
    → accepted_at (map (forgotten query) accepted) number ≡ accepted_at accepted number
accepted-other query accepted number apart = find-left (λ (a : Accepted). eqb a.number number) (forgotten query)
    (λ a. by-change (λ b. eqb b.number number ≡ eqb a.number number) (forgotten query) (forgets query) a (λ groups. refl))
    (λ a is. ap (λ t. cond {A = Accepted} t (record a { groups = None }) a)
    (ne_eqb a.number query (λ same. apart (sym (eqb-true a.number number is) ∙ same)))) accepted

-- who holds a slot
pub holder-held : (query : ℕ) (now : SlotState) → holder_of now ≡ Some query → (built : ℕ) × (now ≡ Held query built)
holder-held query Free is = absurd (none-some query is)
holder-held query (Held holder built) is = (built, ap (λ n. Held n built) (same_Some holder query is))
holder-held query (Clearing left) is = absurd (none-some query is)

-- whether it is one query
pub holder-cases : (holder : Option ℕ) (query : ℕ) → (holder ≡ Some query) ⊎ (holder ≢ Some query)
holder-cases None query = inr (none-some query)
holder-cases (Some number) query = ⊎_elim (λ same. inl (ap Some same))
    (λ apart. inr (λ held. apart (same_Some number query held))) (cases_eq number query)

-- who holds a slot holds no other
abbrev pub HoldsOnce : Lives → Type 0
HoldsOnce lives = (slot query built : ℕ) → slot < length lives.slots → slot_at lives slot ≡ Held query built → slot_of lives query ≡ Some slot

pub holds-once : (state : State) → IsSound state → HoldsOnce state.lives
holds-once state sound slot query built low held = slot_of-holder state.lives slot query built sound.slots.lives low held

pub other-holder : (lives : Lives) (query at : ℕ) → HoldsOnce lives → at < length lives.slots → slot_of lives query ≢ Some at
    → holder_of (slot_at lives at) ≢ Some query
other-holder lives query at once low apart holds =
    let held = holder-held query (slot_at lives at) holds in apart (once at query held.0 low held.1)
