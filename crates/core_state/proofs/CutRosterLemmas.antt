-- Which queries run, and how they stand on the roster of a batch that is cut.
use Rattle.core_state.proofs.Words.{◌<◌, ◌∙◌, ◌≡◌, ◌≢◌, Accepted, accepted_at, All, ap, Clearing, Contains, cut_query, entry_of, eq-eqb, eqb, eqb-true, false, find, Free, gets_rows, Has, Held, holder_of, IfSome, is_begun, IsOnRoster, IsSome, IsSound, IsTrue, length, Life, life_of, Lives, map, MayBeOnRoster, ne_eqb, None, none-some, OnRoster, Option, option_and_then, option_map, option_map_or, position-Some, range_with_len, refl, roster_of, running_at, same_Some, slot_at, slot_of, slot_of-begun, SlotState, Some, start_at, start_in, starts_of, State, subst, sym, true, ℕ}
use Rattle.pipeline_manager.specs.Lives.{is_held_by}
use Rattle.pipeline_manager.specs.declared.life.Life.TheVariants as life
use Rattle.core_state.proofs.AcceptedLemmas.{holder-accepted}
use Rattle.core_state.proofs.CutFoundLemmas.{all-below, all-found, find-there, found-below, none-found}
use Rattle.core_state.proofs.CutLifeLemmas.{life-cut, may-stay}
use Rattle.core_state.proofs.FoundLemmas.{accepted-number, some-at, some-of, extents-stay}

-- what is known of a slot whose query runs
pub record RunsIn (state : State) (slot : ℕ) (entry : OnRoster) : Type 0 where
  pub built : ℕ
  pub start : ℕ
  pub left : ℕ
  pub accepted : Accepted
  pub held : slot_at state.lives slot ≡ Held accepted.number built
  pub runs : life_of state.lives accepted.number ≡ Some (life.Running start left)
  pub found : accepted_at state.accepted accepted.number ≡ Some accepted
  pub is : entry ≡ entry_of state.lives slot accepted

-- where the lap of the holder of a slot began, and how the holder stands on a roster
abbrev start_by : State → Option ℕ → Option ℕ
start_by state holder = option_and_then start_in (option_and_then (life_of state.lives) holder)

abbrev entry_by : State → (slot : ℕ) → Option ℕ → Option OnRoster
entry_by state slot holder = option_and_then
    (λ start. option_map (entry_of state.lives slot) (option_and_then (accepted_at state.accepted) holder)) (start_by state holder)

pub runs-in : (state : State) (slot : ℕ) (entry : OnRoster) → running_at state slot ≡ Some entry → RunsIn state slot entry
runs-in state slot entry is = by_slot (slot_at state.lives slot) refl is
  where
    by_accepted : (query built start left : ℕ) → slot_at state.lives slot ≡ Held query built
        → life_of state.lives query ≡ Some (life.Running start left) → (o : Option Accepted) → accepted_at state.accepted query ≡ o
        → option_map (entry_of state.lives slot) o ≡ Some entry → RunsIn state slot entry
    by_accepted query built start left held runs None found e = absurd (none-some entry e)
    by_accepted query built start left held runs (Some accepted) found e =
        let number : accepted.number ≡ query = accepted-number state.accepted query accepted found in
        record {
          built = built;
          start = start;
          left = left;
          accepted = accepted;
          held = held ∙ ap (λ n. Held n built) (sym number);
          runs = ap (life_of state.lives) number ∙ runs;
          found = ap (accepted_at state.accepted) number ∙ found;
          is = sym (same_Some (entry_of state.lives slot accepted) entry e);
        }

    by_life : (query built : ℕ) → slot_at state.lives slot ≡ Held query built → (o : Option Life) → life_of state.lives query ≡ o
        → option_and_then (λ start. option_map (entry_of state.lives slot) (accepted_at state.accepted query)) (option_and_then start_in o) ≡ Some entry
        → RunsIn state slot entry
    by_life query built held (Some (life.Running start left)) runs e =
        by_accepted query built start left held runs (accepted_at state.accepted query) refl e
    by_life query built held other runs e = absurd (none-some entry e)

    by_slot : (now : SlotState) → slot_at state.lives slot ≡ now → entry_by state slot (holder_of now) ≡ Some entry → RunsIn state slot entry
    by_slot Free held e = absurd (none-some entry e)
    by_slot (Held query built) held e = by_life query built held (life_of state.lives query) refl e
    by_slot (Clearing left) held e = absurd (none-some entry e)

-- where the lap of the query in a slot began
starts-there : (state : State) (slot query built start left : ℕ) → slot_at state.lives slot ≡ Held query built
    → life_of state.lives query ≡ Some (life.Running start left) → start_at state.lives slot ≡ Some start
starts-there state slot query built start left held runs =
    ap (λ now. start_by state (holder_of now)) held ∙ ap (option_and_then start_in) runs

-- how the query in a slot stands on a roster
pub runs-there : (state : State) (slot query built start left : ℕ) (accepted : Accepted) → slot_at state.lives slot ≡ Held query built
    → life_of state.lives query ≡ Some (life.Running start left) → accepted_at state.accepted query ≡ Some accepted
    → running_at state slot ≡ Some (entry_of state.lives slot accepted)
runs-there state slot query built start left accepted held runs found =
    ap (λ now. entry_by state slot (holder_of now)) held
    ∙ ap (λ o. option_and_then (λ at. option_map (entry_of state.lives slot) (accepted_at state.accepted query)) (option_and_then start_in o)) runs
    ∙ ap (option_map (entry_of state.lives slot)) found

pub held-by : (query : ℕ) (now : SlotState) → is_held_by query now ≡ true → (built : ℕ) × (now ≡ Held query built)
held-by query Free is = absurd (let both : false ≡ true = is in cc)
held-by query (Held holder built) is = (built, ap (λ n. Held n built) (eqb-true holder query is))
held-by query (Clearing left) is = absurd (let both : false ≡ true = is in cc)

-- the slot of a query is there, and held by it
pub holds-slot : (lives : Lives) (query slot : ℕ) → slot_of lives query ≡ Some slot
    → (built : ℕ) × (slot < length lives.slots) × (slot_at lives slot ≡ Held query built)
holds-slot lives query slot is =
    let stands = position-Some (is_held_by query) lives.slots slot Free is in
    let held = held-by query (slot_at lives slot) stands.1 in
    (held.0, stands.0, held.1)

-- a query that runs holds a slot
pub runs-here : (state : State) → IsSound state → (query start left : ℕ) → life_of state.lives query ≡ Some (life.Running start left)
    → (slot : ℕ) × (built : ℕ) × (slot < length state.lives.slots) × (slot_at state.lives slot ≡ Held query built)
runs-here state sound query start left runs =
    let place = some-of (slot_of state.lives query) (slot_of-begun state.lives query sound.slots.lives (ap (λ o. option_map_or is_begun o false) runs)) in
    let held = holds-slot state.lives query place.0 place.1 in
    (place.0, held.0, held.1, held.2)

-- the start of a query that runs is among the starts
pub start-among : (state : State) → IsSound state → (query start left : ℕ) → life_of state.lives query ≡ Some (life.Running start left)
    → Contains (starts_of state) start
start-among state sound query start left runs =
    let here = runs-here state sound query start left runs in
    found-below (start_at state.lives) (length state.lives.slots) here.0 start here.2
    (starts-there state here.0 query here.1 start left here.3 runs)

-- what holds of the query of each slot in which one runs holds of a roster
pub roster-each : (P : OnRoster → Type 0) (state : State)
    → ((slot : ℕ) (entry : OnRoster) → slot < length state.lives.slots → running_at state slot ≡ Some entry → P entry)
    → All P (roster_of state)
roster-each P state each = all-found (running_at state) P (range_with_len 0 (length state.lives.slots))
    (all-below (λ slot. (entry : OnRoster) → running_at state slot ≡ Some entry → P entry) (length state.lives.slots)
    (λ slot low entry is. each slot entry low is))

-- each on a roster runs in its own slot
pub roster-own : (state : State) → All (λ entry. running_at state entry.slot ≡ Some entry) (roster_of state)
roster-own state = roster-each (λ entry. running_at state entry.slot ≡ Some entry) state
    (λ slot entry low is. ap (running_at state) (ap (λ e. e.slot) (runs-in state slot entry is).is) ∙ is)

-- a query that runs is on the roster
pub on-roster : (state : State) → IsSound state → (query start left : ℕ) → life_of state.lives query ≡ Some (life.Running start left)
    → IsSome (find (λ entry. eqb entry.number query) (roster_of state))
on-roster state sound query start left runs =
    let here = runs-here state sound query start left runs in
    let asked = holder-accepted state here.0 query here.1 sound here.2 here.3 in
    let entry : OnRoster = entry_of state.lives here.0 asked.0 in
    let there : Contains (roster_of state) entry = found-below (running_at state) (length state.lives.slots) here.0 entry here.2
    (runs-there state here.0 query here.1 start left asked.0 here.3 runs asked.1) in
    find-there (λ e. eqb e.number query) (roster_of state) there.0 entry there.1
    (ap (λ (e : OnRoster). eqb e.number query) there.2 ∙ eq-eqb asked.0.number query asked.3)

-- a query that does not run is not
pub off-roster : (state : State) (query : ℕ) → ((start left : ℕ) → life_of state.lives query ≢ Some (life.Running start left))
    → find (λ entry. eqb entry.number query) (roster_of state) ≡ None
off-roster state query never = none-found (λ entry. eqb entry.number query) (roster_of state)
    (roster-each (λ entry. eqb entry.number query ≡ false) state
    (λ slot entry low is.
    let here = runs-in state slot entry is in
    ne_eqb entry.number query (λ same.
    let number : here.accepted.number ≡ query = sym (ap (λ (e : OnRoster). e.number) here.is) ∙ same in
    never here.start here.left (ap (life_of state.lives) (sym number) ∙ here.runs))))

-- the query of a slot in which one runs stands soundly on the roster of the batch that is cut
pub entry-cut : (state : State) (first last : ℕ) → IsSound state
    → (slot : ℕ) (entry : OnRoster) → slot < length state.lives.slots → running_at state slot ≡ Some entry
    → IsOnRoster (record state.lives { queries = (map (cut_query first last) state.lives.queries) }) state.accepted entry
entry-cut state first last sound slot entry low is =
    subst (IsOnRoster (record state.lives { queries = (map (cut_query first last) state.lives.queries) }) state.accepted) (sym here.is)
    (record {
      there = low;
      held = (
        here.built,
        here.held,
        some-at (λ now. IsTrue (gets_rows now) → (dimension : ℕ) → Has state.lives.filters dimension → Has here.built dimension)
            (life_of state.lives here.accepted.number) (life.Running here.start here.left) here.runs
            (sound.slots.built slot here.accepted.number here.built low here.held) refl,
      );
      life = life-cut MayBeOnRoster first last state.lives.queries here.accepted.number may-stay
          (subst (λ o. IfSome o MayBeOnRoster) (sym here.runs) tt);
      same = subst (λ o. IfSome o (λ accepted. (accepted.query ≡ here.accepted.query) × (accepted.snapshot ≡ here.accepted.snapshot)))
          (sym here.found) (refl, refl);
      extent = extents-stay (cut_query first last) (λ one. refl) (λ one. refl) state.lives.queries here.accepted.number;
    })
  where
    here : RunsIn state slot entry
    here = runs-in state slot entry is
